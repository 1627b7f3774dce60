-- Numbers of four bytes each.
use Rattle.std.proofs.Common.{◌≡◌, ℕ, zero, suc, ◌*◌, ◌/◌, List, [], ◌∷◌, ◌++◌, length, refl, sym, ap, ◌∙◌, arith}
use Rattle.pg_base.specs.Numbers.{num}
use Rattle.pg_base.specs.Reading.{Number}
use Rattle.pg_format.specs.Format.Lists.{AreRead}
use Rattle.pg_format.specs.Format.Parts.{be_u32}
use Rattle.pg_server.specs.Frontend.Lists.{types_in}

pub length_types_in : (bytes : List ℕ) → length (types_in bytes) ≡ length bytes / 4
length_types_in [] = refl
length_types_in (a ∷ []) = refl
length_types_in (a ∷ b ∷ []) = refl
length_types_in (a ∷ b ∷ c ∷ []) = refl
length_types_in (a ∷ b ∷ c ∷ d ∷ bytes) = omega (arith, length_types_in bytes)

-- four times as many bytes are read as so many types
pub types_are_read : (bytes rest : List ℕ) (n : ℕ) → length bytes ≡ 4 * n → (length (types_in bytes) ≡ n) × AreRead be_u32 (bytes ++ rest) (types_in bytes) rest
types_are_read [] rest zero e = (refl, refl)
types_are_read [] rest (suc n) e = absurd (omega (arith, e))
types_are_read (a ∷ []) rest n e = absurd (omega (arith, e))
types_are_read (a ∷ b ∷ []) rest n e = absurd (omega (arith, e))
types_are_read (a ∷ b ∷ c ∷ []) rest n e = absurd (omega (arith, e))
types_are_read (a ∷ b ∷ c ∷ d ∷ bytes) rest zero e = absurd (omega (arith, e))
types_are_read (a ∷ b ∷ c ∷ d ∷ bytes) rest (suc n) e =
    let more = types_are_read bytes rest n (omega (arith, e)) in
    (ap suc more.0, (bytes ++ rest, record { spelled = a ∷ b ∷ c ∷ d ∷ []; wide = refl; is = refl; parts = refl }, more.1))

four_bytes : (spelled rest : List ℕ) → length spelled ≡ 4 → types_in (spelled ++ rest) ≡ num spelled ∷ types_in rest
four_bytes [] rest e = absurd (omega (arith, e))
four_bytes (a ∷ []) rest e = absurd (omega (arith, e))
four_bytes (a ∷ b ∷ []) rest e = absurd (omega (arith, e))
four_bytes (a ∷ b ∷ c ∷ []) rest e = absurd (omega (arith, e))
four_bytes (a ∷ b ∷ c ∷ d ∷ []) rest e = refl
four_bytes (a ∷ b ∷ c ∷ d ∷ f ∷ more) rest e = absurd (omega (arith, e))

pub first_type : (bytes : List ℕ) (id : ℕ) (rest : List ℕ) → Number 4 bytes id rest → types_in bytes ≡ id ∷ types_in rest
first_type bytes id rest p = ap types_in p.parts ∙ four_bytes p.spelled rest p.wide ∙ ap (λ (n : ℕ). n ∷ types_in rest) (sym p.is)
