-- Values of a row as a C program passes them.
use Rattle.std.proofs.Common.{◌≡◌, ℕ, Bool, true, false, cond, List, [], ◌∷◌, map, Bor, Some, None, refl, ap, ◌∙◌}
use Rattle.std.specs.Prelude.{option_copied}
use Rattle.pg_c.specs.Put.Values.{value_of}
use Rattle.pg_c.specs.Server.Lists.{borrowed}
use Rattle.pg_c.specs.declared.put.prepared.PgmsgValue.{PgmsgValue}

value_by : (b : Bool) (bytes : Bor (List ℕ)) → option_copied (cond b None (Some bytes)) ≡ cond b None (Some bytes.now)
value_by true bytes = refl
value_by false bytes = refl

pub same_value : (value : PgmsgValue) → option_copied (borrowed value) ≡ value_of value
same_value value = value_by value.is_null value.bytes

pub same_values : (values : List PgmsgValue) → map (λ value. option_copied (borrowed value)) values ≡ map value_of values
same_values [] = refl
same_values (value ∷ values) =
    ap (λ first. first ∷ map (λ value. option_copied (borrowed value)) values) (same_value value) ∙ ap (λ rest. value_of value ∷ rest) (same_values values)
