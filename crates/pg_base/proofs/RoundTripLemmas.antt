-- What was written is read again, and as one value.
use Rattle.std.proofs.Common.{◌≡◌, ◌≢◌, ◌⊎◌, inl, inr, ℕ, zero, suc, ◌+◌, ◌/◌, ◌%◌, ◌^◌, ◌<◌, ◌≤◌, ℤ, pos, negsuc, List, [], ◌∷◌, ◌++◌, length, decimal, refl, sym, ap, ◌∙◌, arith, append_assoc, length-append}
use Rattle.std.proofs.lemmas.Fmt.{decimal_by_steps}
use Rattle.pg_base.specs.Atoi.{AreDigits, decimal_value}
use Rattle.pg_base.specs.Id.{name, named, max_id, statement_prefix, portal_prefix}
use Rattle.pg_base.specs.Numbers.{int, be16, be32}
use Rattle.pg_base.specs.Reading.{Number, HoldsNo, Text, BeginsWith, Id, Numbers, Counted, Value, Values}
use Rattle.pg_base.proofs.CuttingLemmas.{parts_at}
use Rattle.pg_base.proofs.AtoiLemmas.{AreDigits-push, decimal_value-push}
use Rattle.pg_base.proofs.IdLemmas.{name_of_other}
use Rattle.pg_base.proofs.ReadingLemmas.{one_number}

-- ---- digits

-- the digits of a number, whose sum it is
record IsSpelled (n : ℕ) (ds : List ℕ) : Type 0 where
  are_digits : AreDigits ds
  is : decimal_value ds ≡ n
  begins : 0 < length ds
  no_leading_zero : n ≢ 0 → BeginsWith 48 ds → ⊥

BeginsWith-push : (b : ℕ) (ds : List ℕ) (d : ℕ) → 0 < length ds → BeginsWith b (ds ++ d ∷ []) → BeginsWith b ds
BeginsWith-push b [] d h e = absurd (omega (arith, h))
BeginsWith-push b (c ∷ ds) d h e = e

spelled_digit : (n : ℕ) → n < 10 → IsSpelled n ((48 + n) ∷ [])
spelled_digit n h = record {
  are_digits = ((omega arith, omega arith), tt);
  is = omega arith;
  begins = omega arith;
  no_leading_zero = λ ne e. ne (omega (arith, e));
}

spelled_more : (n : ℕ) (ds : List ℕ) → 10 ≤ n → IsSpelled (n / 10) ds → IsSpelled n (ds ++ ((48 + n % 10) ∷ []))
spelled_more n ds h p = record {
  are_digits = AreDigits-push ds (48 + n % 10) p.are_digits (omega arith, omega arith);
  is = decimal_value-push ds (48 + n % 10) ∙ omega (arith, p.is);
  begins = omega (arith, length-append ds ((48 + n % 10) ∷ []));
  no_leading_zero = λ ne e. p.no_leading_zero (omega (arith, h)) (BeginsWith-push 48 ds (48 + n % 10) p.begins e);
}

spelled : (n : ℕ) → n < 2 ^ 64 → IsSpelled n (decimal n)
spelled n h = decimal_by_steps IsSpelled spelled_digit spelled_more n h

-- ---- ids

pub HoldsNo-append : (b : ℕ) (xs ys : List ℕ) → HoldsNo b xs → HoldsNo b ys → HoldsNo b (xs ++ ys)
HoldsNo-append b [] ys p q = q
HoldsNo-append b (x ∷ xs) ys p q = (p.0, HoldsNo-append b xs ys p.1 q)

digits_hold_no_0 : (ds : List ℕ) → AreDigits ds → HoldsNo 0 ds
digits_hold_no_0 [] h = tt
digits_hold_no_0 (d ∷ ds) h = (λ e. omega (arith, h.0.0, e), digits_hold_no_0 ds h.1)

pub name_holds_no_0 : (prefix : List ℕ) (id : ℕ) → HoldsNo 0 prefix → id ≤ max_id → HoldsNo 0 (name prefix id)
name_holds_no_0 prefix zero p h = tt
name_holds_no_0 prefix (suc n) p h =
    rw (name_of_other prefix (suc n) (omega arith)) (HoldsNo-append 0 prefix (decimal (suc n)) p (digits_hold_no_0 (decimal (suc n)) (spelled (suc n) (omega arith)).are_digits))

pub id_of_name : (prefix : List ℕ) (id : ℕ) → id ≤ max_id → Id prefix (name prefix id) id
id_of_name prefix zero h = inl (refl, refl)
id_of_name prefix (suc n) h =
    let s = spelled (suc n) (omega arith) in
    inr (record {
      digits = decimal (suc n);
      are_digits = s.are_digits;
      no_leading_zero = s.no_leading_zero (omega arith);
      is = sym s.is;
      low = omega arith;
      high = h;
      parts = name_of_other prefix (suc n) (omega arith);
    })

no_digits : (prefix digits : List ℕ) → [] ≡ prefix ++ digits → decimal_value digits ≡ 0
no_digits [] [] e = refl
no_digits [] (d ∷ ds) e = absurd cc
no_digits (p ∷ ps) ds e = absurd cc

-- a text names one id
pub one_id : (prefix text : List ℕ) (a b : ℕ) → Id prefix text a → Id prefix text b → a ≡ b
one_id prefix text a b p q =
    elim p [
      | inl none ↦ elim q [
        | inl nothing ↦ none.1 ∙ sym nothing.1
        | inr named ↦ absurd (omega (arith, named.low, named.is, no_digits prefix named.digits (sym none.0 ∙ named.parts)))
      ]
      | inr first ↦ elim q [
        | inl nothing ↦ absurd (omega (arith, first.low, first.is, no_digits prefix first.digits (sym nothing.0 ∙ first.parts)))
        | inr second ↦ first.is ∙ ap decimal_value (parts_at prefix prefix first.digits second.digits refl (sym first.parts ∙ second.parts)).1 ∙ sym second.is
      ]
    ]

pub statement_prefix_holds_no_0 : HoldsNo 0 statement_prefix
statement_prefix_holds_no_0 = (λ e. omega (arith, e), (λ e. omega (arith, e), (λ e. omega (arith, e), (λ e. omega (arith, e), (λ e. omega (arith, e), (λ e. omega (arith, e), (λ e. omega (arith, e), tt)))))))

pub portal_prefix_holds_no_0 : HoldsNo 0 portal_prefix
portal_prefix_holds_no_0 = (λ e. omega (arith, e), (λ e. omega (arith, e), (λ e. omega (arith, e), (λ e. omega (arith, e), (λ e. omega (arith, e), (λ e. omega (arith, e), (λ e. omega (arith, e), tt)))))))

-- the name of an id stands in front of a rest
pub text_of_name : (prefix : List ℕ) (id : ℕ) (rest : List ℕ) → HoldsNo 0 prefix → id ≤ max_id → Text (named prefix id ++ rest) (name prefix id) rest
text_of_name prefix id rest p h = record { clean = name_holds_no_0 prefix id p h; parts = append_assoc (name prefix id) (0 ∷ []) rest }

-- ---- numbers

pub number_of_be16 : (n : ℕ) (rest : List ℕ) → n < 2 ^ 16 → Number 2 (be16 n ++ rest) n rest
number_of_be16 n rest h = record { spelled = be16 n; wide = refl; is = omega arith; parts = refl }

pub number_of_be32 : (n : ℕ) (rest : List ℕ) → n < 2 ^ 32 → Number 4 (be32 n ++ rest) n rest
number_of_be32 n rest h = record { spelled = be32 n; wide = refl; is = omega arith; parts = refl }

pub one_numbers : (width : ℕ) (ms ns bytes x y : List ℕ) → length ms ≡ length ns → Numbers width bytes ms x → Numbers width bytes ns y → (ms ≡ ns) × (x ≡ y)
one_numbers width [] [] bytes x y len p q = (refl, p ∙ sym q)
one_numbers width [] (n ∷ ns) bytes x y len p q = absurd (omega (arith, len))
one_numbers width (m ∷ ms) [] bytes x y len p q = absurd (omega (arith, len))
one_numbers width (m ∷ ms) (n ∷ ns) bytes x y len p q =
    let first = one_number width bytes m n p.0 q.0 p.1 q.1 in
    let more = one_numbers width ms ns q.0 x y (omega (arith, len)) (rw first.1 at p.2) q.2 in
    (rw (first.0, more.0) refl, more.1)

pub one_counted : (width : ℕ) (bytes ms ns x y : List ℕ) → Counted width bytes ms x → Counted width bytes ns y → (ms ≡ ns) × (x ≡ y)
one_counted width bytes ms ns x y p q =
    let count = one_number 2 bytes (length ms) (length ns) p.after q.after p.count q.count in
    one_numbers width ms ns q.after x y count.0 (rw count.1 at p.numbers) q.numbers

-- ---- values

-- one length counts one number of bytes
same_len : (i : ℤ) (v w : List ℕ) → ((i ≡ negsuc 0) × (v ≡ [])) ⊎ (i ≡ pos (length v)) → ((i ≡ negsuc 0) × (w ≡ [])) ⊎ (i ≡ pos (length w)) → length v ≡ length w
same_len i v w p q =
    elim p [
      | inl null ↦ elim q [
        | inl other ↦ ap length (null.1 ∙ sym other.1)
        | inr counted ↦ absurd (let clash : negsuc 0 ≡ pos (length w) = sym null.0 ∙ counted in cc)
      ]
      | inr counts ↦ elim q [
        | inl null ↦ absurd (let clash : negsuc 0 ≡ pos (length v) = sym null.0 ∙ counts in cc)
        | inr counted ↦ let same : pos (length v) ≡ pos (length w) = sym counts ∙ counted in cc
      ]
    ]

pub one_value : (bytes x y : List ℕ) → Value bytes x → Value bytes y → x ≡ y
one_value bytes x y p q =
    let fields = parts_at p.field q.field (p.value ++ x) (q.value ++ y) (p.wide ∙ sym q.wide) (sym (append_assoc p.field p.value x) ∙ sym p.parts ∙ q.parts ∙ append_assoc q.field q.value y) in
    let len = same_len (int q.field) p.value q.value (rw fields.0 at p.counts) q.counts in
    (parts_at p.value q.value x y len fields.1).1

pub one_values : (k : ℕ) (bytes x y : List ℕ) → Values k bytes x → Values k bytes y → x ≡ y
one_values zero bytes x y p q = p ∙ sym q
one_values (suc k) bytes x y p q = one_values k q.0 x y (rw (one_value bytes p.0 q.0 p.1 q.1) at p.2) q.2

pub value_before : (bytes rest more : List ℕ) → Value bytes rest → Value (bytes ++ more) (rest ++ more)
value_before bytes rest more p = record {
  field = p.field;
  value = p.value;
  wide = p.wide;
  counts = p.counts;
  parts = ap (λ (l : List ℕ). l ++ more) p.parts ∙ append_assoc (p.field ++ p.value) rest more;
}

-- what stands after values doesn't change them
pub values_before : (k : ℕ) (bytes rest more : List ℕ) → Values k bytes rest → Values k (bytes ++ more) (rest ++ more)
values_before zero bytes rest more p = ap (λ (l : List ℕ). l ++ more) p
values_before (suc k) bytes rest more p = (p.0 ++ more, value_before bytes p.0 more p.1, values_before k p.0 rest more p.2)
