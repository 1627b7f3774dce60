-- Values of parameters, one after the other.
use Rattle.std.proofs.Common.{◌≡◌, ℕ, zero, suc, ℤ, pos, negsuc, List, [], ◌∷◌, length, take, drop, Option, Some, None, refl, sym, ap, ◌∙◌, arith}
use Rattle.std.proofs.lemmas.List.{take_at, drop_at}
use Rattle.pg_base.specs.declared.error.ProtocolFault.{ProtocolFault}
use Rattle.pg_base.specs.Numbers.{int}
use Rattle.pg_format.specs.Format.Lists.{AreRead}
use Rattle.pg_format.specs.Format.Nullable.{value_after, value}
use Rattle.pg_format.specs.Format.Parts.{be_i32, bytes_of}
use Rattle.pg_format.specs.Format.Places.{IsReadAt}
use Rattle.pg_format.proofs.FormatLaws.Nullable.{lawful_value}
use Rattle.pg_server.specs.Frontend.Lists.{value_of, rest_of, first_value, after_first, values_in, HoldsValues}

pub length_values_in : (n : ℕ) (bytes : List ℕ) → length (values_in n bytes) ≡ n
length_values_in zero bytes = refl
length_values_in (suc n) bytes = ap suc (length_values_in n (after_first bytes))

-- ---- what is read is what the bytes hold

value_of-read : (z : ℤ) (bytes : List ℕ) (v : Option (List ℕ)) (rest : List ℕ) → (value_after z).Reads bytes v rest → (value_of z bytes ≡ v) × (rest_of z bytes ≡ rest)
value_of-read (pos n) bytes v rest p = (rw p.1.1 (ap Some (take_at p.0 rest n p.1.0) ∙ sym p.2), rw p.1.1 (drop_at p.0 rest n p.1.0))
value_of-read (negsuc zero) bytes v rest p = (sym p.0, sym p.1)
value_of-read (negsuc (suc n)) bytes v rest p = absurd p

first_value-read : (bytes : List ℕ) (v : Option (List ℕ)) (rest : List ℕ) → value.Reads bytes v rest → (first_value bytes ≡ v) × (after_first bytes ≡ rest)
first_value-read bytes v rest p =
    let f = p.1.first in
    let mid = p.1.mid in
    let front : int (take 4 bytes) ≡ p.0.0 = ap (λ (l : List ℕ). int (take 4 l)) f.parts ∙ ap int (take_at f.spelled mid 4 f.wide) ∙ sym f.is in
    let back : drop 4 bytes ≡ mid = ap (drop 4) f.parts ∙ drop_at f.spelled mid 4 f.wide in
    let both = value_of-read p.0.0 mid p.0.1 rest p.1.second in
    rw (front, back) (both.0 ∙ sym p.2, both.1)

pub values_in-read : (n : ℕ) (bytes : List ℕ) (values : List (Option (List ℕ))) (rest : List ℕ) → length values ≡ n → AreRead value bytes values rest → values_in n bytes ≡ values
values_in-read zero bytes [] rest l p = refl
values_in-read zero bytes (v ∷ values) rest l p = absurd (omega (arith, l))
values_in-read (suc n) bytes [] rest l p = absurd (omega (arith, l))
values_in-read (suc n) bytes (v ∷ values) rest l p =
    let one = first_value-read bytes v p.0 p.1 in
    let more = values_in-read n p.0 values rest (omega (arith, l)) p.2 in
    rw (one.0, one.1, more) refl

-- ---- one value after the other

-- the first of the values, and the others
pub first_and_others : (n : ℕ) (bytes : List ℕ) (v : Option (List ℕ)) (rest : List ℕ) → HoldsValues (suc n) bytes → value.Reads bytes v rest
    → (values_in (suc n) bytes ≡ v ∷ values_in n rest) × HoldsValues n rest
first_and_others n bytes v rest p q =
    let one = first_value-read bytes v rest q in
    let mids = lawful_value.one_value bytes p.1.0 rest (first_value bytes) v p.1.1 q in
    let others : AreRead value rest (values_in n (after_first bytes)) p.0 = rw mids.1 at p.1.2 in
    (rw (one.0, one.1) refl, (p.0, rw one.1 at others))

-- where values are left, none is broken
pub none_is_broken : (n len : ℕ) (bytes : List ℕ) (fault : ProtocolFault) → HoldsValues (suc n) bytes → value.Breaks len bytes fault → ⊥
none_is_broken n len bytes fault p q = lawful_value.never_both len bytes p.1.0 (first_value bytes) fault p.1.1 q

-- ---- a value at an offset

pub null_stands : (body : List ℕ) (at end : ℕ) (z : ℤ) → z ≡ negsuc 0 → IsReadAt be_i32 body at z end → IsReadAt value body at None end
null_stands body at end z null p = record {
  within = p.within;
  reads = ((negsuc 0, None), record { mid = drop end body; first = rw null at p.reads; second = (refl, refl) }, refl);
}

pub some_stands : (body : List ℕ) (at start end n : ℕ) (z : ℤ) (found : List ℕ) → z ≡ pos n → IsReadAt be_i32 body at z start → IsReadAt (bytes_of n) body start found end
    → IsReadAt value body at (Some found) end
some_stands body at start end n z found is p q = record {
  within = q.within;
  reads = ((pos n, Some found), record { mid = drop start body; first = rw is at p.reads; second = (found, q.reads, refl) }, refl);
}
