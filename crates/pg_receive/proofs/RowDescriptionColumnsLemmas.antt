-- Columns one after the other in a body.
use Rattle.std.proofs.Common.{◌≡◌, ℕ, suc, ◌+◌, ◌-◌, ◌*◌, ◌≤◌, ℤ, List, [], ◌∷◌, ◌++◌, length, take, drop, refl, sym, ap, ◌∙◌, arith, append_assoc, length-append}
use Rattle.std.proofs.lemmas.Bool.{ne_eqb}
use Rattle.std.proofs.lemmas.List.{take_at, drop_at}
use Rattle.pg_base.specs.declared.error.ProtocolFault.{ProtocolFault}
use Rattle.pg_base.specs.Numbers.{num, int}
use Rattle.pg_base.specs.Reading.{Number, Signed, HoldsNo}
use Rattle.pg_base.proofs.ReadingLemmas.{number_fits}
use Rattle.pg_format.specs.Format.{Means}
use Rattle.pg_format.specs.Format.Lists.{times}
use Rattle.pg_format.specs.Format.Places.{IsReadAt}
use Rattle.pg_format.specs.Items.{Reading, IsRead, NextBreaks}
use Rattle.pg_format.proofs.ItemsLemmas.{items_in-read, first_and_others, none_is_broken}
use Rattle.pg_format.specs.Messages.{Column, numbers_of, numbers, column, row_description, table, attribute}
use Rattle.pg_format.proofs.FormatLaws.FromServer.{lawful_column, column_takes}
use Rattle.pg_format.proofs.FormatLaws.Lists.{times_take}
use Rattle.pg_receive.specs.RowDescription.Columns.{first_text, column_with, after_name, first_column, after_column, columns_left, HasColumns}

first_text-text : (text rest : List ℕ) → HoldsNo 0 text → first_text (text ++ 0 ∷ rest) ≡ text
first_text-text [] rest h = refl
first_text-text (byte ∷ text) rest h = rw (ne_eqb byte 0 h.0) (ap (λ (l : List ℕ). byte ∷ l) (first_text-text text rest h.1))

-- a number at the front of some bytes
front_number : (width : ℕ) (bytes : List ℕ) (n : ℕ) (rest : List ℕ) → Number width bytes n rest → (num (take width bytes) ≡ n) × (drop width bytes ≡ rest)
front_number width bytes n rest p = (rw p.parts (ap num (take_at p.spelled rest width p.wide) ∙ sym p.is), rw p.parts (drop_at p.spelled rest width p.wide))

front_signed : (width : ℕ) (bytes : List ℕ) (z : ℤ) (rest : List ℕ) → Signed width bytes z rest → (int (take width bytes) ≡ z) × (drop width bytes ≡ rest)
front_signed width bytes z rest p = (rw p.parts (ap int (take_at p.spelled rest width p.wide) ∙ sym p.is), rw p.parts (drop_at p.spelled rest width p.wide))

-- a column of its name and of its numbers
with_numbers : (bytes rest : List ℕ) (c : Column) → numbers.Reads bytes (numbers_of c) rest
    → (column_with c.name bytes ≡ c) × (drop 2 (drop 4 (drop 2 (drop 4 (drop 2 (drop 4 bytes))))) ≡ rest)
with_numbers bytes rest c p =
    let p2 = p.second in
    let p3 = p2.second in
    let p4 = p3.second in
    let p5 = p4.second in
    let a = front_number 4 bytes p.first.0 p.mid p.first.1 in
    let b = front_signed 2 p.mid p2.first.0 p2.mid p2.first.1 in
    let d = front_number 4 p2.mid c.data_type_id p3.mid p3.first in
    let e = front_signed 2 p3.mid c.data_type_size p4.mid p4.first in
    let f = front_signed 4 p4.mid c.type_modifier p5.mid p5.first in
    let g = front_signed 2 p5.mid c.format rest p5.second in
    let types_at : drop 2 (drop 4 bytes) ≡ p2.mid = ap (drop 2) a.1 ∙ b.1 in
    let sizes_at : drop 4 (drop 2 (drop 4 bytes)) ≡ p3.mid = ap (drop 4) types_at ∙ d.1 in
    let modifiers_at : drop 2 (drop 4 (drop 2 (drop 4 bytes))) ≡ p4.mid = ap (drop 2) sizes_at ∙ e.1 in
    let formats_at : drop 4 (drop 2 (drop 4 (drop 2 (drop 4 bytes)))) ≡ p5.mid = ap (drop 4) modifiers_at ∙ f.1 in
    let of_table : table (num (take 4 bytes)) ≡ c.relation_id = ap table a.0 ∙ sym p.first.2 in
    let of_attribute : attribute (int (take 2 (drop 4 bytes))) ≡ c.relation_attribute_no = ap attribute (ap (λ (l : List ℕ). int (take 2 l)) a.1 ∙ b.0) ∙ sym p2.first.2 in
    let of_type : num (take 4 (drop 2 (drop 4 bytes))) ≡ c.data_type_id = ap (λ (l : List ℕ). num (take 4 l)) types_at ∙ d.0 in
    let of_size : int (take 2 (drop 4 (drop 2 (drop 4 bytes)))) ≡ c.data_type_size = ap (λ (l : List ℕ). int (take 2 l)) sizes_at ∙ e.0 in
    let of_modifier : int (take 4 (drop 2 (drop 4 (drop 2 (drop 4 bytes))))) ≡ c.type_modifier = ap (λ (l : List ℕ). int (take 4 l)) modifiers_at ∙ f.0 in
    let of_format : int (take 2 (drop 4 (drop 2 (drop 4 (drop 2 (drop 4 bytes)))))) ≡ c.format = ap (λ (l : List ℕ). int (take 2 l)) formats_at ∙ g.0 in
    (rw (of_table, of_attribute, of_type, of_size, of_modifier, of_format) refl, ap (drop 2) formats_at ∙ g.1)

pub front_column : (bytes : List ℕ) (c : Column) (rest : List ℕ) → column.Reads bytes c rest → (first_column bytes ≡ c) × (after_column bytes ≡ rest)
front_column bytes c rest p =
    let ends = p.first.0 in
    let text : first_text bytes ≡ c.name = ap first_text ends.parts ∙ first_text-text c.name p.mid ends.clean in
    let wide : length (c.name ++ 0 ∷ []) ≡ length c.name + 1 = length-append c.name (0 ∷ []) in
    let there : drop (length c.name + 1) bytes ≡ p.mid = rw (ends.parts, ← append_assoc c.name (0 ∷ []) p.mid) (drop_at (c.name ++ 0 ∷ []) p.mid (length c.name + 1) wide) in
    let after : after_name bytes ≡ p.mid = ap (λ (t : List ℕ). drop (length t + 1) bytes) text ∙ there in
    let both = with_numbers p.mid rest c p.second in (
      ap (λ (t : List ℕ). column_with t (after_name bytes)) text ∙ ap (column_with c.name) after ∙ both.0,
      ap (λ (l : List ℕ). drop 2 (drop 4 (drop 2 (drop 4 (drop 2 (drop 4 l)))))) after ∙ both.1,
    )

-- ---- one after the other

-- what is read is what was left
pub columns_are_left : (reading : Reading) (columns : List Column) (end : ℕ) → IsReadAt (times reading.left column) reading.body reading.at columns end → columns_left reading ≡ columns
columns_are_left reading columns end p = items_in-read lawful_column first_column after_column front_column reading.left (drop reading.at reading.body) columns (drop end reading.body) p.reads.0 p.reads.1

-- the first of the columns that are left, and the others
pub first_left : (old new : Reading) (c : Column) → HasColumns old → IsRead column old new c → (columns_left old ≡ c ∷ columns_left new) × HasColumns new
first_left old new c p q =
    let both = first_and_others lawful_column first_column after_column front_column new.left (drop old.at old.body) c (drop new.at old.body) (rw q.one_less at p) q.reads.reads in
    rw (q.one_less, q.body) both

-- where columns are left, none is broken
pub none_left_is_broken : (old new : Reading) (fault : ProtocolFault) → HasColumns old → NextBreaks column old new fault → ⊥
none_left_is_broken old new fault p q =
    let more : old.left ≡ suc (old.left - 1) = omega (arith, q.some) in
    none_is_broken lawful_column first_column after_column front_column (old.left - 1) (length old.body) (drop old.at old.body) fault (rw more at p) q.breaks

-- ---- descriptions

-- the columns of a body fit in it
pub columns_fit : (body : List ℕ) (columns : List Column) → Means row_description body columns → 2 + 19 * length columns ≤ length body
columns_fit body columns p =
    let v = p.1 in
    omega (arith, number_fits 2 body v.0.0 v.1.mid v.1.first, (times_take 19 column_takes v.0.0).takes v.1.mid p.0 v.0.1 v.1.second, v.1.second.0, ap length v.2)
