-- Numbers of two bytes each.
use Rattle.std.proofs.Common.{◌≡◌, ℕ, zero, suc, ◌*◌, ◌/◌, ◌<◌, List, [], ◌∷◌, ◌++◌, length, refl, sym, ap, ◌∙◌, arith}
use Rattle.pg_base.specs.Numbers.{num}
use Rattle.pg_base.specs.Reading.{Number}
use Rattle.pg_format.specs.Format.Lists.{AreRead}
use Rattle.pg_format.specs.Format.Parts.{be_u16}
use Rattle.pg_server.specs.Frontend.Lists.{codes_in}

pub length_codes_in : (bytes : List ℕ) → length (codes_in bytes) ≡ length bytes / 2
length_codes_in [] = refl
length_codes_in (a ∷ []) = refl
length_codes_in (a ∷ b ∷ bytes) = omega (arith, length_codes_in bytes)

-- twice as many bytes are read as so many codes
pub codes_are_read : (bytes rest : List ℕ) (n : ℕ) → length bytes ≡ 2 * n → (length (codes_in bytes) ≡ n) × AreRead be_u16 (bytes ++ rest) (codes_in bytes) rest
codes_are_read [] rest zero e = (refl, refl)
codes_are_read [] rest (suc n) e = absurd (omega (arith, e))
codes_are_read (a ∷ []) rest n e = absurd (omega (arith, e))
codes_are_read (a ∷ b ∷ bytes) rest zero e = absurd (omega (arith, e))
codes_are_read (a ∷ b ∷ bytes) rest (suc n) e =
    let more = codes_are_read bytes rest n (omega (arith, e)) in
    (ap suc more.0, (bytes ++ rest, record { spelled = a ∷ b ∷ []; wide = refl; is = refl; parts = refl }, more.1))

two_bytes : (spelled rest : List ℕ) → length spelled ≡ 2 → codes_in (spelled ++ rest) ≡ num spelled ∷ codes_in rest
two_bytes [] rest e = absurd (omega (arith, e))
two_bytes (a ∷ []) rest e = absurd (omega (arith, e))
two_bytes (a ∷ b ∷ []) rest e = refl
two_bytes (a ∷ b ∷ c ∷ more) rest e = absurd (omega (arith, e))

pub first_code : (bytes : List ℕ) (code : ℕ) (rest : List ℕ) → Number 2 bytes code rest → codes_in bytes ≡ code ∷ codes_in rest
first_code bytes code rest p = ap codes_in p.parts ∙ two_bytes p.spelled rest p.wide ∙ ap (λ (n : ℕ). n ∷ codes_in rest) (sym p.is)

pub no_code : (bytes : List ℕ) → length bytes < 2 → codes_in bytes ≡ []
no_code [] few = refl
no_code (a ∷ []) few = refl
no_code (a ∷ b ∷ bytes) few = absurd (omega (arith, few))
