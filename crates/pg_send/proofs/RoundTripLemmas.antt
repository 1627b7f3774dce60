-- Whether bytes are just so many values.
use Rattle.std.proofs.Common.{◌≡◌, ℕ, ◌+◌, ◌-◌, ◌<◌, ◌≤◌, suc, zero, pos, negsuc, inl, inr, true, List, [], ◌++◌, length, take, drop, refl, sym, ap, ◌∙◌, arith, append_assoc, length-append, ℤ, int_lt, Some, None}
use Rattle.std.proofs.lemmas.List.{append-nil, take-append-drop, take_all, length-take, length-drop}
use Rattle.std.specs.Int.{w32, FitsUnsignedBits}
use Rattle.std.proofs.lemmas.Int.{to_z-of_z, ints}
use lib.IntN.{nat_abs}
use mir.Val.{SFits, to_z, of_z}
use Rattle.pg_base.specs.Cutting.{max_length}
use Rattle.pg_base.specs.Numbers.{be32}
use Rattle.pg_base.specs.Reading.{Signed, Value, Values}
use Rattle.pg_send.specs.Values.{value_text}
use Rattle.pg_base.proofs.CuttingLemmas.{parts_at, int_be32}
use Rattle.pg_base.proofs.RoundTripLemmas.{one_value, value_before}

-- ---- a value

-- the slice from a place on is all that follows
pub all_after : (n : ℕ) (bytes : List ℕ) → take (length bytes - n) (drop n bytes) ≡ drop n bytes
all_after n bytes = take_all (length bytes - n) (drop n bytes) (omega (arith, length-drop n bytes))

pub some_value : (bytes after : List ℕ) (n : ℕ) → Signed 4 bytes (pos n) after → n ≤ length after → Value bytes (drop n after)
some_value bytes after n h fits = record {
  field = h.spelled;
  value = take n after;
  wide = h.wide;
  counts = inr (sym h.is ∙ ap pos (let e : n ≡ length (take n after) = omega (arith, length-take n after) in e));
  parts = h.parts ∙ ap (λ (l : List ℕ). h.spelled ++ l) (sym (take-append-drop n after)) ∙ sym (append_assoc h.spelled (take n after) (drop n after));
}

pub null_value : (bytes after : List ℕ) → Signed 4 bytes (negsuc 0) after → Value bytes after
null_value bytes after h = record { field = h.spelled; value = []; wide = h.wide; counts = inl (sym h.is, refl); parts = rw (append-nil h.spelled) h.parts }

-- the length that a value has is the number at its front
counted : (bytes after rest : List ℕ) (z : ℤ) → Signed 4 bytes z after → (v : Value bytes rest) → ((z ≡ negsuc 0) → ⊥) → (z ≡ pos (length v.value)) × (length v.value ≤ length after)
counted bytes after rest z h v other =
    let same = parts_at h.spelled v.field after (v.value ++ rest) (h.wide ∙ sym v.wide) (sym h.parts ∙ v.parts ∙ append_assoc v.field v.value rest) in
    elim v.counts [
      | inl null ↦ absurd (other (rw (same.0) at h.is ∙ null.0))
      | inr counts ↦ ((rw (same.0) at h.is) ∙ counts, omega (arith, ap length same.1, length-append v.value rest))
    ]

pub negative_value : (bytes after rest : List ℕ) (n : ℕ) → Signed 4 bytes (negsuc (suc n)) after → Value bytes rest → ⊥
negative_value bytes after rest n h v =
    let is = counted bytes after rest (negsuc (suc n)) h v (λ e. let clash : negsuc (suc n) ≡ negsuc 0 = e in cc) in
    let clash : negsuc (suc n) ≡ pos (length v.value) = is.0 in cc

pub truncated_value : (bytes after rest : List ℕ) (n : ℕ) → Signed 4 bytes (pos n) after → length after < n → Value bytes rest → ⊥
truncated_value bytes after rest n h short v =
    let is = counted bytes after rest (pos n) h v (λ e. let clash : pos n ≡ negsuc 0 = e in cc) in
    let same : n ≡ length v.value = (let e : pos n ≡ pos (length v.value) = is.0 in cc) in
    omega (arith, same, is.1, short)

-- ---- a length as it is cast

from_0 : (z : ℤ) → FitsUnsignedBits 64 z → z ≡ pos (nat_abs z)
from_0 (pos n) h = refl
from_0 (negsuc n) h = absurd h

pub cast_length : (z : ℤ) (n : ℕ) → SFits w32 z → FitsUnsignedBits 64 (to_z w32 (of_z w32 z)) → n ≡ nat_abs (to_z w32 (of_z w32 z)) → z ≡ pos n
cast_length z n in_range fits is = sym (to_z-of_z w32 z in_range) ∙ from_0 (to_z w32 (of_z w32 z)) fits ∙ ap pos (sym is)

pub below_null : (z : ℤ) → int_lt z (pos 0) ≡ true → ((z ≡ negsuc 0) → ⊥) → (n : ℕ) × (z ≡ negsuc (suc n))
below_null (pos n) below other = absurd (omega (arith, ints, below))
below_null (negsuc zero) below other = absurd (other refl)
below_null (negsuc (suc n)) below other = (n, refl)

-- ---- so many values

pub values_on : (count counter : ℕ) (rest after : List ℕ) → counter < count → Value rest after → Values (count - counter) rest [] → Values (count - (counter + 1)) after []
values_on count counter rest after lt one h =
    let e : count - counter ≡ suc (count - (counter + 1)) = omega arith in
    let split = rw e at h in
    rw (one_value rest split.0 after split.1 one) at split.2

pub values_back : (count counter : ℕ) (rest after : List ℕ) → counter < count → Value rest after → Values (count - (counter + 1)) after [] → Values (count - counter) rest []
values_back count counter rest after lt one h =
    let e : count - counter ≡ suc (count - (counter + 1)) = omega arith in
    rw e (after, one, h)

pub no_values : (count counter : ℕ) (rest : List ℕ) → counter < count → ((after : List ℕ) → Value rest after → ⊥) → Values (count - counter) rest [] → ⊥
no_values count counter rest lt none h =
    let e : count - counter ≡ suc (count - (counter + 1)) = omega arith in
    let split = rw e at h in
    none split.0 split.1

-- ---- values that are collected

pub values_push : (k : ℕ) (bytes value : List ℕ) → Values k bytes [] → Value value [] → Values (suc k) (bytes ++ value) []
values_push zero bytes value h one = rw (← h) ([], one, refl)
values_push (suc k) bytes value h one = (h.0 ++ value, value_before bytes h.0 value h.1, values_push k h.0 value h.2 one)

pub a_value : (value : List ℕ) → length value ≤ max_length → Value (value_text (Some value)) []
a_value value fits = record {
  field = be32 (length value);
  value = value;
  wide = refl;
  counts = inr (int_be32 (length value) fits);
  parts = sym (append-nil (be32 (length value) ++ value));
}

pub a_null : Value (value_text None) []
a_null = record { field = value_text None; value = []; wide = refl; counts = inl (refl, refl); parts = refl }
