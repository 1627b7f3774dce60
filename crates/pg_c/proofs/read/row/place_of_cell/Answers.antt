use Rattle.std.proofs.Common.{◌≡◌, ℕ, ◌+◌, ◌-◌, pos, List, Bor, Option, Some, None, true, false, not, option_copied, refl, ap, ◌∙◌, rules}
use Rattle.std.specs.Prelude.{negsuc, zero}
use Rattle.std.specs.Option.{is_some}
use Rattle.std.specs.Int.{w32}
use Rattle.std.proofs.lemmas.Bool.{both_ways}
use mir.Val.{to_z}
use Rattle.pg_format.specs.Format.Nullable.{cell}
use Rattle.pg_format.specs.Format.Places.{IsReadAt}
use Rattle.pg_c.specs.Read.Row.{value_in}
use Rattle.pg_c.proofs.ReadRowLemmas.{value_found, null_found}
use Rattle.pg_c.proofs.read.row.place_of_cell.Goals as goal

found_value : (body : List ℕ) (value : Option (Bor (List ℕ))) (at end n : ℕ) → n ≡ end - (at + 4) → is_some value ≡ true → IsReadAt cell body at (option_copied value) end
    → value_in body (at + 4) (pos n) ≡ Some (option_copied value)
found_value body None at end n e some p = absurd (both_ways false refl some)
found_value body (Some value) at end n e some p = value_found body value.now at end n e p

found_null : (body : List ℕ) (value : Option (Bor (List ℕ))) (at end : ℕ) → is_some value ≡ false → IsReadAt cell body at (option_copied value) end
    → value_in body (at + 4) (negsuc zero) ≡ Some (option_copied value)
found_null body None at end e p = null_found body at end p
found_null body (Some value) at end e p = absurd (both_ways true e refl)

pub returns-then-is_none : goal.returns-then-is_none
returns-then-is_none c = λ body read. found_null body c.args.value c.args.at c.args.end (c.is_none.ensures ∙ ap not c.if-is_none.true) read

pub returns-else-is_none : goal.returns-else-is_none
returns-else-is_none c = λ body read.
    let n = c.args.end - (c.args.at + 4) in
    let len : to_z w32 n ≡ pos n = search rules in
    rw len (found_value body c.args.value c.args.at c.args.end n refl (c.is_none.ensures ∙ ap not c.if-is_none.false) read)
