-- The numbers that bytes at an offset spell.
use Rattle.std.proofs.Common.{◌≡◌, ℕ, ◌+◌, ◌-◌, ◌^◌, ◌<◌, ◌≤◌, List, [], ◌∷◌, ◌++◌, length, take, drop, get_or, ℤ, pos, negsuc, ◌-ℤ◌, sym, ap, ◌∙◌, arith, inl, inr, to_z, of_z, suc}
use Rattle.std.specs.Int.{w16, w32, w64}
use Rattle.std.proofs.lemmas.Bool.{cases_lt, lt-ltb, le-ltb}
use Rattle.std.proofs.lemmas.Int.{ints, to_z_pos, of_z-to_z}
use Rattle.std.proofs.lemmas.List.{take-append-drop, drop-drop, length-take, length-drop, get_or-take, get_or-drop, get_or_past}
use Rattle.byteorder.specs.Endian.{big_number}
use Rattle.pg_base.specs.Numbers.{num, int}
use Rattle.pg_base.specs.Reading.{Number, Signed}

abbrev pub AreBytes : List ℕ → Type 0
AreBytes bytes = (i : ℕ) → get_or bytes i 0 < 256

pub bytes_within : (at width : ℕ) (body : List ℕ) → AreBytes body → AreBytes (take width (drop at body))
bytes_within at width body h i =
    elim (cases_lt i width) [
      | inl lt ↦ rw (get_or-take width (drop at body) i 0 lt, get_or-drop) (h (at + i))
      | inr le ↦ rw (get_or_past (take width (drop at body)) i 0 (omega (arith, length-take width (drop at body)))) (omega arith)
    ]

pub number_4 : (bytes : List ℕ) → length bytes ≡ 4 → big_number 4 bytes ≡ num bytes
number_4 [] e = absurd (omega (arith, e))
number_4 (a ∷ []) e = absurd (omega (arith, e))
number_4 (a ∷ b ∷ []) e = absurd (omega (arith, e))
number_4 (a ∷ b ∷ c ∷ []) e = absurd (omega (arith, e))
number_4 (a ∷ b ∷ c ∷ d ∷ []) e = omega arith
number_4 (a ∷ b ∷ c ∷ d ∷ x ∷ xs) e = absurd (omega (arith, e))

pub number_2 : (bytes : List ℕ) → length bytes ≡ 2 → big_number 2 bytes ≡ num bytes
number_2 [] e = absurd (omega (arith, e))
number_2 (a ∷ []) e = absurd (omega (arith, e))
number_2 (a ∷ b ∷ []) e = omega arith
number_2 (a ∷ b ∷ x ∷ xs) e = absurd (omega (arith, e))

pub number_8 : (bytes : List ℕ) → length bytes ≡ 8 → big_number 8 bytes ≡ num bytes
number_8 [] e = absurd (omega (arith, e))
number_8 (a ∷ []) e = absurd (omega (arith, e))
number_8 (a ∷ b ∷ []) e = absurd (omega (arith, e))
number_8 (a ∷ b ∷ c ∷ []) e = absurd (omega (arith, e))
number_8 (a ∷ b ∷ c ∷ d ∷ []) e = absurd (omega (arith, e))
number_8 (a ∷ b ∷ c ∷ d ∷ p ∷ []) e = absurd (omega (arith, e))
number_8 (a ∷ b ∷ c ∷ d ∷ p ∷ q ∷ []) e = absurd (omega (arith, e))
number_8 (a ∷ b ∷ c ∷ d ∷ p ∷ q ∷ r ∷ []) e = absurd (omega (arith, e))
number_8 (a ∷ b ∷ c ∷ d ∷ p ∷ q ∷ r ∷ s ∷ []) e = omega arith
number_8 (a ∷ b ∷ c ∷ d ∷ p ∷ q ∷ r ∷ s ∷ x ∷ xs) e = absurd (omega (arith, e))

-- a number whose top bit is set, as two's complement has it
above : (n whole : ℕ) → n < whole → negsuc (whole - suc n) ≡ pos n -ℤ pos whole
above n whole h = omega (arith, ints)

top_16 : (n : ℕ) → 2 ^ 15 ≤ n → n < 2 ^ 16 → to_z w16 n ≡ pos n -ℤ pos (2 ^ 16)
top_16 n h small = rw (le-ltb n (2 ^ 15) h) (above n (2 ^ 16) small)

top_32 : (n : ℕ) → 2 ^ 31 ≤ n → n < 2 ^ 32 → to_z w32 n ≡ pos n -ℤ pos (2 ^ 32)
top_32 n h small = rw (le-ltb n (2 ^ 31) h) (above n (2 ^ 32) small)

top_64 : (n : ℕ) → 2 ^ 63 ≤ n → n < 2 ^ 64 → to_z w64 n ≡ pos n -ℤ pos (2 ^ 64)
top_64 n h small = rw (le-ltb n (2 ^ 63) h) (above n (2 ^ 64) small)

signed_2 : (bytes : List ℕ) → length bytes ≡ 2 → AreBytes bytes → (num bytes < 2 ^ 16) × (to_z w16 (num bytes) ≡ int bytes)
signed_2 [] e h = absurd (omega (arith, e))
signed_2 (a ∷ []) e h = absurd (omega (arith, e))
signed_2 (a ∷ b ∷ []) e h = (
  omega (arith, h 0, h 1),
  elim (cases_lt a 128) [
    | inl small ↦ rw (lt-ltb a 128 small) (to_z_pos w16 (num (a ∷ b ∷ [])) (omega (arith, h 0, h 1)))
    | inr large ↦ rw (le-ltb a 128 large) (top_16 (num (a ∷ b ∷ [])) (omega (arith, h 0, h 1)) (omega (arith, h 0, h 1)))
  ],
)
signed_2 (a ∷ b ∷ x ∷ xs) e h = absurd (omega (arith, e))

signed_4 : (bytes : List ℕ) → length bytes ≡ 4 → AreBytes bytes → (num bytes < 2 ^ 32) × (to_z w32 (num bytes) ≡ int bytes)
signed_4 [] e h = absurd (omega (arith, e))
signed_4 (a ∷ []) e h = absurd (omega (arith, e))
signed_4 (a ∷ b ∷ []) e h = absurd (omega (arith, e))
signed_4 (a ∷ b ∷ c ∷ []) e h = absurd (omega (arith, e))
signed_4 (a ∷ b ∷ c ∷ d ∷ []) e h = (
  omega (arith, h 0, h 1, h 2, h 3),
  elim (cases_lt a 128) [
    | inl small ↦ rw (lt-ltb a 128 small) (to_z_pos w32 (num (a ∷ b ∷ c ∷ d ∷ [])) (omega (arith, h 0, h 1, h 2, h 3)))
    | inr large ↦ rw (le-ltb a 128 large) (top_32 (num (a ∷ b ∷ c ∷ d ∷ [])) (omega (arith, h 0, h 1, h 2, h 3)) (omega (arith, h 0, h 1, h 2, h 3)))
  ],
)
signed_4 (a ∷ b ∷ c ∷ d ∷ x ∷ xs) e h = absurd (omega (arith, e))

signed_8 : (bytes : List ℕ) → length bytes ≡ 8 → AreBytes bytes → (num bytes < 2 ^ 64) × (to_z w64 (num bytes) ≡ int bytes)
signed_8 [] e h = absurd (omega (arith, e))
signed_8 (a ∷ []) e h = absurd (omega (arith, e))
signed_8 (a ∷ b ∷ []) e h = absurd (omega (arith, e))
signed_8 (a ∷ b ∷ c ∷ []) e h = absurd (omega (arith, e))
signed_8 (a ∷ b ∷ c ∷ d ∷ []) e h = absurd (omega (arith, e))
signed_8 (a ∷ b ∷ c ∷ d ∷ p ∷ []) e h = absurd (omega (arith, e))
signed_8 (a ∷ b ∷ c ∷ d ∷ p ∷ q ∷ []) e h = absurd (omega (arith, e))
signed_8 (a ∷ b ∷ c ∷ d ∷ p ∷ q ∷ r ∷ []) e h = absurd (omega (arith, e))
signed_8 (a ∷ b ∷ c ∷ d ∷ p ∷ q ∷ r ∷ s ∷ []) e h = (
  omega (arith, h 0, h 1, h 2, h 3, h 4, h 5, h 6, h 7),
  elim (cases_lt a 128) [
    | inl small ↦ rw (lt-ltb a 128 small) (to_z_pos w64 (num (a ∷ b ∷ c ∷ d ∷ p ∷ q ∷ r ∷ s ∷ [])) (omega (arith, h 0, h 1, h 2, h 3, h 4, h 5, h 6, h 7)))
    | inr large ↦ rw (le-ltb a 128 large) (top_64 (num (a ∷ b ∷ c ∷ d ∷ p ∷ q ∷ r ∷ s ∷ [])) (omega (arith, h 0, h 1, h 2, h 3, h 4, h 5, h 6, h 7)) (omega (arith, h 0, h 1, h 2, h 3, h 4, h 5, h 6, h 7)))
  ],
)
signed_8 (a ∷ b ∷ c ∷ d ∷ p ∷ q ∷ r ∷ s ∷ x ∷ xs) e h = absurd (omega (arith, e))

pub signed_value_2 : (bytes : List ℕ) (z : ℤ) → length bytes ≡ 2 → AreBytes bytes → z ≡ to_z w16 (big_number 2 bytes) → to_z w16 (of_z w16 z) ≡ int bytes
signed_value_2 bytes z len h e =
    let v = signed_2 bytes len h in
    let is : z ≡ to_z w16 (num bytes) = e ∙ ap (to_z w16) (number_2 bytes len) in
    rw (is, of_z-to_z w16 (num bytes) v.0) v.1

pub signed_value_4 : (bytes : List ℕ) (z : ℤ) → length bytes ≡ 4 → AreBytes bytes → z ≡ to_z w32 (big_number 4 bytes) → to_z w32 (of_z w32 z) ≡ int bytes
signed_value_4 bytes z len h e =
    let v = signed_4 bytes len h in
    let is : z ≡ to_z w32 (num bytes) = e ∙ ap (to_z w32) (number_4 bytes len) in
    rw (is, of_z-to_z w32 (num bytes) v.0) v.1

pub signed_value_8 : (bytes : List ℕ) (z : ℤ) → length bytes ≡ 8 → AreBytes bytes → z ≡ to_z w64 (big_number 8 bytes) → to_z w64 (of_z w64 z) ≡ int bytes
signed_value_8 bytes z len h e =
    let v = signed_8 bytes len h in
    let is : z ≡ to_z w64 (num bytes) = e ∙ ap (to_z w64) (number_8 bytes len) in
    rw (is, of_z-to_z w64 (num bytes) v.0) v.1

-- as many bytes as were wanted
pub wide_enough : (body : List ℕ) (at width : ℕ) → at + width ≤ length body → length (take width (drop at body)) ≡ width
wide_enough body at width fits = omega (arith, length-take width (drop at body), length-drop at body)

pub number_at : (body : List ℕ) (at width n : ℕ) → at + width ≤ length body → n ≡ num (take width (drop at body)) → Number width (drop at body) n (drop (at + width) body)
number_at body at width n fits is = record {
  spelled = take width (drop at body);
  wide = wide_enough body at width fits;
  is = is;
  parts = sym (take-append-drop width (drop at body)) ∙ ap (λ (rest : List ℕ). take width (drop at body) ++ rest) (drop-drop width at body);
}

pub signed_at : (body : List ℕ) (at width : ℕ) (z : ℤ) → at + width ≤ length body → z ≡ int (take width (drop at body)) → Signed width (drop at body) z (drop (at + width) body)
signed_at body at width z fits is = record {
  spelled = take width (drop at body);
  wide = wide_enough body at width fits;
  is = is;
  parts = sym (take-append-drop width (drop at body)) ∙ ap (λ (rest : List ℕ). take width (drop at body) ++ rest) (drop-drop width at body);
}
