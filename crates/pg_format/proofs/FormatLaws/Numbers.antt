-- Numbers and their bytes, of the widths that messages have.
use Rattle.std.specs.Prelude.{◌≡◌, ℕ, zero, suc, ◌+◌, ◌-◌, ◌*◌, ◌^◌, ◌/◌, ◌%◌, ◌<◌, ◌≤◌, ℤ, pos, negsuc, List, [], ◌∷◌, length}
use Rattle.std.specs.Int.{bytes_high_first}
use Rattle.std.proofs.Common.{refl, sym, ap, arith, inl, inr}
use Rattle.std.proofs.lemmas.Int.{ints}
use Rattle.std.proofs.lemmas.Bool.{cases_lt, lt-ltb, le-ltb}
use Rattle.pg_base.specs.Numbers.{num, int}
use Rattle.pg_format.specs.Format.{AreBytes}
use Rattle.pg_format.specs.Format.Parts.{complement, FitsSigned}

-- the widths of the numbers that have one spelling by a law
abbrev pub IsNarrow : ℕ → Type 0
IsNarrow zero = ⊥
IsNarrow (suc zero) = Unit {0}
IsNarrow (suc (suc zero)) = Unit {0}
IsNarrow (suc (suc (suc zero))) = ⊥
IsNarrow (suc (suc (suc (suc zero)))) = Unit {0}
IsNarrow (suc (suc (suc (suc (suc n))))) = ⊥

-- the widths of all numbers
abbrev pub IsWidth : ℕ → Type 0
IsWidth zero = ⊥
IsWidth (suc zero) = Unit {0}
IsWidth (suc (suc zero)) = Unit {0}
IsWidth (suc (suc (suc zero))) = ⊥
IsWidth (suc (suc (suc (suc zero)))) = Unit {0}
IsWidth (suc (suc (suc (suc (suc zero))))) = ⊥
IsWidth (suc (suc (suc (suc (suc (suc zero)))))) = ⊥
IsWidth (suc (suc (suc (suc (suc (suc (suc zero))))))) = ⊥
IsWidth (suc (suc (suc (suc (suc (suc (suc (suc zero)))))))) = Unit {0}
IsWidth (suc (suc (suc (suc (suc (suc (suc (suc (suc n))))))))) = ⊥

pub bytes_wide : (width n : ℕ) → length (bytes_high_first width n) ≡ width
bytes_wide zero n = refl
bytes_wide (suc k) n = ap suc (bytes_wide k n)

-- the bytes of a number spell it
pub num_of_bytes : (width : ℕ) → IsWidth width → (n : ℕ) → n < 256 ^ width → n ≡ num (bytes_high_first width n)
num_of_bytes zero w n h = absurd w
num_of_bytes (suc zero) w n h = omega (arith, h)
num_of_bytes (suc (suc zero)) w n h = omega (arith, h)
num_of_bytes (suc (suc (suc zero))) w n h = absurd w
num_of_bytes (suc (suc (suc (suc zero)))) w n h = omega (arith, h)
num_of_bytes (suc (suc (suc (suc (suc zero))))) w n h = absurd w
num_of_bytes (suc (suc (suc (suc (suc (suc zero)))))) w n h = absurd w
num_of_bytes (suc (suc (suc (suc (suc (suc (suc zero))))))) w n h = absurd w
num_of_bytes (suc (suc (suc (suc (suc (suc (suc (suc zero)))))))) w n h = omega (arith, h)
num_of_bytes (suc (suc (suc (suc (suc (suc (suc (suc (suc k))))))))) w n h = absurd w

-- bytes are those of the number that they spell
pub bytes_of_num : (width : ℕ) → IsNarrow width → (bytes : List ℕ) → length bytes ≡ width → AreBytes bytes → (bytes ≡ bytes_high_first width (num bytes)) × (num bytes < 256 ^ width)
bytes_of_num zero w bytes len h = absurd w
bytes_of_num (suc zero) w [] len h = absurd (omega (arith, len))
bytes_of_num (suc zero) w (a ∷ []) len h =
    let e : a ≡ num (a ∷ []) % 256 = omega (arith, h.0) in
    (λ i. e i ∷ [], omega (arith, h.0))
bytes_of_num (suc zero) w (a ∷ b ∷ bs) len h = absurd (omega (arith, len))
bytes_of_num (suc (suc zero)) w [] len h = absurd (omega (arith, len))
bytes_of_num (suc (suc zero)) w (a ∷ []) len h = absurd (omega (arith, len))
bytes_of_num (suc (suc zero)) w (a ∷ b ∷ []) len h =
    let e : a ≡ num (a ∷ b ∷ []) / 256 % 256 = omega (arith, h.0, h.1.0) in
    let f : b ≡ num (a ∷ b ∷ []) % 256 = omega (arith, h.0, h.1.0) in
    (λ i. e i ∷ f i ∷ [], omega (arith, h.0, h.1.0))
bytes_of_num (suc (suc zero)) w (a ∷ b ∷ c ∷ bs) len h = absurd (omega (arith, len))
bytes_of_num (suc (suc (suc zero))) w bytes len h = absurd w
bytes_of_num (suc (suc (suc (suc zero)))) w [] len h = absurd (omega (arith, len))
bytes_of_num (suc (suc (suc (suc zero)))) w (a ∷ []) len h = absurd (omega (arith, len))
bytes_of_num (suc (suc (suc (suc zero)))) w (a ∷ b ∷ []) len h = absurd (omega (arith, len))
bytes_of_num (suc (suc (suc (suc zero)))) w (a ∷ b ∷ c ∷ []) len h = absurd (omega (arith, len))
bytes_of_num (suc (suc (suc (suc zero)))) w (a ∷ b ∷ c ∷ d ∷ []) len h =
    let n = num (a ∷ b ∷ c ∷ d ∷ []) in
    let ea : a ≡ n / 16777216 % 256 = omega (arith, h.0, h.1.0, h.1.1.0, h.1.1.1.0) in
    let eb : b ≡ n / 65536 % 256 = omega (arith, h.0, h.1.0, h.1.1.0, h.1.1.1.0) in
    let ec : c ≡ n / 256 % 256 = omega (arith, h.0, h.1.0, h.1.1.0, h.1.1.1.0) in
    let ed : d ≡ n % 256 = omega (arith, h.0, h.1.0, h.1.1.0, h.1.1.1.0) in
    (λ i. ea i ∷ eb i ∷ ec i ∷ ed i ∷ [], omega (arith, h.0, h.1.0, h.1.1.0, h.1.1.1.0))
bytes_of_num (suc (suc (suc (suc zero)))) w (a ∷ b ∷ c ∷ d ∷ e ∷ bs) len h = absurd (omega (arith, len))
bytes_of_num (suc (suc (suc (suc (suc k))))) w bytes len h = absurd w

pub complement_wide : (width : ℕ) (z : ℤ) → length (complement width z) ≡ width
complement_wide width (pos n) = bytes_wide width n
complement_wide width (negsuc n) = bytes_wide width (256 ^ width - suc n)

-- the first byte says the sign
int_low : (b : ℕ) (bs : List ℕ) (n : ℕ) → b < 128 → n ≡ num (b ∷ bs) → int (b ∷ bs) ≡ pos n
int_low b bs n low e = rw (lt-ltb b 128 low) (ap pos (sym e))

int_high : (b : ℕ) (bs : List ℕ) (n : ℕ) → 128 ≤ b → num (b ∷ bs) + suc n ≡ 256 ^ length (b ∷ bs) → int (b ∷ bs) ≡ negsuc n
int_high b bs n high e = rw (le-ltb b 128 high) (omega (arith, ints, e))

-- the complement of a signed number spells it
pub int_of_complement : (width : ℕ) → IsWidth width → (z : ℤ) → FitsSigned width z → z ≡ int (complement width z)
int_of_complement zero w z h = absurd w
int_of_complement (suc zero) w (pos n) h = sym (int_low (n % 256) [] n (omega (arith, h)) (omega (arith, h)))
int_of_complement (suc zero) w (negsuc n) h = sym (int_high ((256 - suc n) % 256) [] n (omega (arith, h)) (omega (arith, h)))
int_of_complement (suc (suc zero)) w (pos n) h = sym (int_low (n / 256 % 256) (n % 256 ∷ []) n (omega (arith, h)) (omega (arith, h)))
int_of_complement (suc (suc zero)) w (negsuc n) h = sym (int_high ((65536 - suc n) / 256 % 256) ((65536 - suc n) % 256 ∷ []) n (omega (arith, h)) (omega (arith, h)))
int_of_complement (suc (suc (suc zero))) w z h = absurd w
int_of_complement (suc (suc (suc (suc zero)))) w (pos n) h =
    sym (int_low (n / 16777216 % 256) (n / 65536 % 256 ∷ n / 256 % 256 ∷ n % 256 ∷ []) n (omega (arith, h)) (omega (arith, h)))
int_of_complement (suc (suc (suc (suc zero)))) w (negsuc n) h =
    let m = 4294967296 - suc n in
    sym (int_high (m / 16777216 % 256) (m / 65536 % 256 ∷ m / 256 % 256 ∷ m % 256 ∷ []) n (omega (arith, h)) (omega (arith, h)))
int_of_complement (suc (suc (suc (suc (suc zero))))) w z h = absurd w
int_of_complement (suc (suc (suc (suc (suc (suc zero)))))) w z h = absurd w
int_of_complement (suc (suc (suc (suc (suc (suc (suc zero))))))) w z h = absurd w
int_of_complement (suc (suc (suc (suc (suc (suc (suc (suc zero)))))))) w (pos n) h =
    sym (int_low (n / 72057594037927936 % 256) (n / 281474976710656 % 256 ∷ n / 1099511627776 % 256 ∷ n / 4294967296 % 256 ∷ n / 16777216 % 256 ∷ n / 65536 % 256 ∷ n / 256 % 256 ∷ n % 256 ∷ []) n (omega (arith, h)) (omega (arith, h)))
int_of_complement (suc (suc (suc (suc (suc (suc (suc (suc zero)))))))) w (negsuc n) h =
    let m = 18446744073709551616 - suc n in
    sym (int_high (m / 72057594037927936 % 256) (m / 281474976710656 % 256 ∷ m / 1099511627776 % 256 ∷ m / 4294967296 % 256 ∷ m / 16777216 % 256 ∷ m / 65536 % 256 ∷ m / 256 % 256 ∷ m % 256 ∷ []) n (omega (arith, h)) (omega (arith, h)))
int_of_complement (suc (suc (suc (suc (suc (suc (suc (suc (suc k))))))))) w z h = absurd w

-- the signed number that bytes spell
pub record Spelled (width : ℕ) (bytes : List ℕ) : Type 0 where
  pub z : ℤ
  pub is : int bytes ≡ z
  pub fits : FitsSigned width z
  pub same : complement width z ≡ bytes_high_first width (num bytes)

by_sign : (width b : ℕ) (bs : List ℕ) → length (b ∷ bs) ≡ width → num (b ∷ bs) < 256 ^ width → (b < 128 → 2 * num (b ∷ bs) < 256 ^ width) → (128 ≤ b → 256 ^ width ≤ 2 * num (b ∷ bs)) → Spelled width (b ∷ bs)
by_sign width b bs len small low high =
    elim (cases_lt b 128) [
      | inl lt ↦ record { z = pos (num (b ∷ bs)); is = int_low b bs (num (b ∷ bs)) lt refl; fits = low lt; same = refl }
      | inr le ↦
          let m = 256 ^ width - suc (num (b ∷ bs)) in
          let back : 256 ^ width - suc m ≡ num (b ∷ bs) = omega (arith, small) in
          record {
            z = negsuc m;
            is = int_high b bs m le (rw len (omega (arith, small)));
            fits = omega (arith, high le, small);
            same = ap (bytes_high_first width) back;
          }
    ]

pub spelled : (width : ℕ) → IsNarrow width → (bytes : List ℕ) → length bytes ≡ width → AreBytes bytes → Spelled width bytes
spelled zero w bytes len h = absurd w
spelled (suc zero) w [] len h = absurd (omega (arith, len))
spelled (suc zero) w (a ∷ []) len h = by_sign 1 a [] len (bytes_of_num 1 w (a ∷ []) len h).1 (λ lt. omega (arith, lt, h.0)) (λ le. omega (arith, le, h.0))
spelled (suc zero) w (a ∷ b ∷ bs) len h = absurd (omega (arith, len))
spelled (suc (suc zero)) w [] len h = absurd (omega (arith, len))
spelled (suc (suc zero)) w (a ∷ []) len h = absurd (omega (arith, len))
spelled (suc (suc zero)) w (a ∷ b ∷ []) len h =
    by_sign 2 a (b ∷ []) len (bytes_of_num 2 w (a ∷ b ∷ []) len h).1 (λ lt. omega (arith, lt, h.1.0)) (λ le. omega (arith, le))
spelled (suc (suc zero)) w (a ∷ b ∷ c ∷ bs) len h = absurd (omega (arith, len))
spelled (suc (suc (suc zero))) w bytes len h = absurd w
spelled (suc (suc (suc (suc zero)))) w [] len h = absurd (omega (arith, len))
spelled (suc (suc (suc (suc zero)))) w (a ∷ []) len h = absurd (omega (arith, len))
spelled (suc (suc (suc (suc zero)))) w (a ∷ b ∷ []) len h = absurd (omega (arith, len))
spelled (suc (suc (suc (suc zero)))) w (a ∷ b ∷ c ∷ []) len h = absurd (omega (arith, len))
spelled (suc (suc (suc (suc zero)))) w (a ∷ b ∷ c ∷ d ∷ []) len h =
    by_sign 4 a (b ∷ c ∷ d ∷ []) len (bytes_of_num 4 w (a ∷ b ∷ c ∷ d ∷ []) len h).1 (λ lt. omega (arith, lt, h.1.0, h.1.1.0, h.1.1.1.0)) (λ le. omega (arith, le))
spelled (suc (suc (suc (suc zero)))) w (a ∷ b ∷ c ∷ d ∷ e ∷ bs) len h = absurd (omega (arith, len))
spelled (suc (suc (suc (suc (suc k))))) w bytes len h = absurd w
