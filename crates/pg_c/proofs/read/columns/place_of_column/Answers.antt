use Rattle.std.proofs.Common.{◌≡◌, ℕ, zero, suc, ◌+◌, ◌-◌, ◌≤◌, ℤ, pos, negsuc, List, ◌∷◌, ◌++◌, Option, Some, None, length, drop, refl, ap, arith, inl, inr, false, length-append, ◌∙◌, rules}
use Rattle.std.specs.Prelude.{option_map, eqb}
use Rattle.std.proofs.lemmas.Bool.{cases_lt, ne_eqb}
use Rattle.std.specs.Option.{option_map_or, unwrap_or}
use Rattle.std.proofs.lemmas.List.{take_at, length-drop}
use Rattle.std.specs.Int.{w16, w32}
use Rattle.std.proofs.lemmas.Int.{to_z-of_z}
use Rattle.pg_base.specs.declared.io.Oid.{Oid}
use Rattle.pg_format.specs.Format.Places.{IsReadAt}
use Rattle.pg_format.specs.Messages.{Column, table, attribute}
use Rattle.pg_receive.specs.RowDescription.Raw.{raw_column, column_of_raw}
use Rattle.pg_c.specs.Place.{bytes_in}
use Rattle.pg_c.proofs.PlaceLemmas.{bytes_found}
use mir.Val.{SFits}
use Rattle.pg_c.proofs.read.columns.place_of_column.Goals as goal

-- The numbers of a column as a C program has them.
table_is : (r : Option Oid) (n : ℕ) → option_map (λ (id : Oid). id.0) r ≡ table n → table (option_map_or (λ (id : Oid). id.0) r 0) ≡ option_map (λ (id : Oid). id.0) r
table_is None n h = refl
table_is (Some id) n h =
    elim (cases_lt 0 n) [
      | inl positive ↦
          let other : eqb n 0 ≡ false = ne_eqb n 0 (λ e. absurd (omega (arith, positive, e))) in
          let same : Some id.0 ≡ Some n = rw other at h in
          let is : id.0 ≡ n = cc same in
          rw (is, other) refl
      | inr none ↦
          let zero_is : n ≡ 0 = omega (arith, none) in
          let absent : Some id.0 ≡ None = rw zero_is at h in
          cc absent
    ]

attribute_is : (r : Option ℤ) (z : ℤ) → r ≡ attribute z → attribute (unwrap_or r (pos 0)) ≡ r
attribute_is None z h = refl
attribute_is (Some y) (negsuc n) h =
    let is : y ≡ negsuc n = cc h in
    rw is refl
attribute_is (Some y) (pos zero) h = cc h
attribute_is (Some y) (pos (suc n)) h =
    let is : y ≡ pos (suc n) = cc h in
    rw is refl

-- the name of a column that begins at an offset
name_is : (body : List ℕ) (at end : ℕ) (c : Column) → IsReadAt raw_column body at c end → bytes_in body at (length c.name) ≡ Some c.name
name_is body at end c p =
    let read = p.reads in
    let count : at + length c.name - at ≡ length c.name = omega arith in
    let parts : drop at body ≡ c.name ++ 0 ∷ read.mid = read.first.parts in
    let inside : at + length c.name ≤ length body = omega (arith, ap length parts, length-drop at body, length-append c.name (0 ∷ read.mid)) in
    bytes_found body c.name at inside (rw (count, parts) (take_at c.name (0 ∷ read.mid) (length c.name) refl))

pub returns : goal.returns
returns c = λ end body p.
    let column = c.args.field.now in
    let numbers = p.reads.second in
    let number = c.unwrap_or.result in
    let number_fits : SFits w16 number = search rules in
    let size_fits : SFits w16 column.data_type_size = search rules in
    let modifier_fits : SFits w32 column.type_modifier = search rules in
    let format_fits : SFits w16 column.format = search rules in
    let of_table = ap table c.table_of.ensures ∙ table_is column.relation_id numbers.first.0 numbers.first.2 in
    let of_attribute = ap attribute (to_z-of_z w16 number number_fits ∙ c.unwrap_or.ensures) ∙ attribute_is column.relation_attribute_no numbers.second.first.0 numbers.second.first.2 in
    rw (
      name_is body c.args.at end (column_of_raw column) p,
      of_table,
      of_attribute,
      to_z-of_z w16 column.data_type_size size_fits,
      to_z-of_z w32 column.type_modifier modifier_fits,
      to_z-of_z w16 column.format format_fits,
    ) refl
