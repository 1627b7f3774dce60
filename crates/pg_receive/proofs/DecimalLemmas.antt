-- The number at the front of some bytes is one.
use Rattle.std.proofs.Common.{◌≡◌, ℕ, ◌<◌, true, false, List, [], ◌∷◌, ◌++◌, Option, Some, None, inl, inr, refl, sym, ap, ◌∙◌, arith}
use Rattle.std.specs.Char.{IsAsciiDigit, is_ascii_digit}
use Rattle.std.proofs.lemmas.Bool.{cases_Bool, cases_eq, cases_lt, ne_eqb, and_parts, and_from, leb-true, le-leb, lt-leb, both_ways}
use Rattle.pg_base.specs.Atoi.{AreDigits, BeginsWithDigit, Digits, IsDigitsUpTo, decimal_value, Sign, unsigned, plus, minus, SignedDigits, Atoi}
use Rattle.pg_base.proofs.AtoiLemmas.{first_digit, heads_of, one_decimal, digits_of_run, no_run, atoi_of_nothing, atoi_of_plus, atoi_of_minus, atoi_of_no_sign}
use Rattle.pg_receive.specs.Decimal.{front_digits, value_within, leading_decimal}

is_digit : (byte : ℕ) → is_ascii_digit byte ≡ true → IsAsciiDigit byte
is_digit byte h = let both = and_parts _ _ h in (leb-true _ _ both.0, leb-true _ _ both.1)

not_digit : (byte : ℕ) → is_ascii_digit byte ≡ false → ¬ (IsAsciiDigit byte)
not_digit byte h d = both_ways (is_ascii_digit byte) h (and_from _ _ (le-leb _ _ d.0) (le-leb _ _ d.1))

-- bytes are the digits at their front, and a rest that begins with none
record Run (bytes digits : List ℕ) : Type 0 where
  are : AreDigits digits
  rest : List ℕ
  ends : ¬ (BeginsWithDigit rest)
  parts : bytes ≡ digits ++ rest

front_run : (bytes : List ℕ) → Run bytes (front_digits bytes)
front_run [] = record { are = tt; rest = []; ends = λ h. h; parts = refl }
front_run (byte ∷ bytes) =
    elim (cases_Bool (is_ascii_digit byte)) [
      | inl digit ↦
          let more = front_run bytes in
          rw digit (record { are = (is_digit byte digit, more.are); rest = more.rest; ends = more.ends; parts = ap (λ (xs : List ℕ). byte ∷ xs) more.parts })
      | inr other ↦ rw other (record { are = tt; rest = byte ∷ bytes; ends = not_digit byte other; parts = refl })
    ]

digits_within : (top : ℕ) (bytes digits : List ℕ) → Run bytes digits → IsDigitsUpTo top bytes (value_within top digits)
digits_within top bytes [] run = λ n d. absurd (no_run bytes [] run.rest n refl run.ends run.parts d)
digits_within top bytes (digit ∷ digits) run =
    elim (cases_lt top (decimal_value (digit ∷ digits))) [
      | inl above ↦ rw (lt-leb _ _ above) (digits_of_run top bytes (digit ∷ digits) run.rest None (omega arith) run.are run.ends run.parts above)
      | inr within ↦ rw (le-leb _ _ within) (digits_of_run top bytes (digit ∷ digits) run.rest (Some (decimal_value (digit ∷ digits))) (omega arith) run.are run.ends run.parts (refl, within))
    ]

pub number_is_there : (top : ℕ) (bytes : List ℕ) → Atoi top bytes (leading_decimal top bytes)
unfolding leading_decimal
number_is_there top [] = atoi_of_nothing top
number_is_there top (byte ∷ bytes) =
    elim (cases_eq byte 43) [
      | inl plus_sign ↦ rw plus_sign (atoi_of_plus top bytes _ (digits_within top bytes (front_digits bytes) (front_run bytes)))
      | inr no_plus ↦ elim (cases_eq byte 45) [
        | inl minus_sign ↦ rw minus_sign (atoi_of_minus top bytes _ (digits_within 0 bytes (front_digits bytes) (front_run bytes)))
        | inr no_minus ↦ rw (ne_eqb byte 43 no_plus, ne_eqb byte 45 no_minus) (atoi_of_no_sign top byte bytes _ no_plus no_minus (digits_within top (byte ∷ bytes) (front_digits (byte ∷ bytes)) (front_run (byte ∷ bytes))))
      ]
    ]

-- digits begin with no sign
sign_is_low : (byte : ℕ) (after bytes : List ℕ) (n : ℕ) → byte < 48 → bytes ≡ byte ∷ after → Digits bytes n → ⊥
sign_is_low byte after bytes n low parts d =
    let first = first_digit byte after d.digits d.rest d.some_are_there d.are_digits (sym parts ∙ d.parts) in omega (arith, low, first.0)

one_signed : (bytes : List ℕ) (s t : Sign) (m n : ℕ) → SignedDigits bytes s m → SignedDigits bytes t n → m ≡ n
one_signed bytes unsigned unsigned m n p q = one_decimal bytes m n (rw p.parts p.digits) (rw q.parts q.digits)
one_signed bytes unsigned plus m n p q = absurd (sign_is_low 43 q.after bytes m (omega arith) q.parts (rw p.parts p.digits))
one_signed bytes unsigned minus m n p q = absurd (sign_is_low 45 q.after bytes m (omega arith) q.parts (rw p.parts p.digits))
one_signed bytes plus unsigned m n p q = absurd (sign_is_low 43 p.after bytes n (omega arith) p.parts (rw q.parts q.digits))
one_signed bytes minus unsigned m n p q = absurd (sign_is_low 45 p.after bytes n (omega arith) p.parts (rw q.parts q.digits))
one_signed bytes plus plus m n p q = let same = sym p.parts ∙ q.parts in let tails : p.after ≡ q.after = cc in one_decimal q.after m n (rw (← tails) p.digits) q.digits
one_signed bytes minus minus m n p q = let same = sym p.parts ∙ q.parts in let tails : p.after ≡ q.after = cc in one_decimal q.after m n (rw (← tails) p.digits) q.digits
one_signed bytes plus minus m n p q = absurd (omega (arith, heads_of 43 45 p.after q.after (sym p.parts ∙ q.parts)))
one_signed bytes minus plus m n p q = absurd (omega (arith, heads_of 45 43 p.after q.after (sym p.parts ∙ q.parts)))

one_number : (top : ℕ) (bytes : List ℕ) (r s : Option ℕ) → Atoi top bytes r → Atoi top bytes s → r ≡ s
one_number top bytes None None p q = refl
one_number top bytes (Some m) None p q = absurd (q p.0 m p.1 p.2)
one_number top bytes None (Some n) p q = absurd (p q.0 n q.1 q.2)
one_number top bytes (Some m) (Some n) p q = ap Some (one_signed bytes p.0 q.0 m n p.1 q.1)

pub number_is : (top : ℕ) (bytes : List ℕ) (result : Option ℕ) → Atoi top bytes result → result ≡ leading_decimal top bytes
number_is top bytes result h = one_number top bytes result (leading_decimal top bytes) h (number_is_there top bytes)
