-- A signed number is written by the bytes of an unsigned one, and a number of none is 0.
use Rattle.std.proofs.Common.{◌≡◌, ℕ, zero, suc, ◌-◌, ◌%◌, ◌∷◌, [], ℤ, pos, negsuc, Bool, true, false, Some, None, refl, sym, ap, arith}
use Rattle.std.proofs.lemmas.Bool.{eqb-true}
use Rattle.std.specs.Prelude.{◌==◌, if◌then◌else◌}
use Rattle.std.specs.Int.{w8, w16, w32}
use mir.Val.{SFits, of_z}
use Rattle.pg_base.specs.Numbers.{be16, be32}
use Rattle.pg_format.specs.Format.Parts.{complement, FitsSigned}
use Rattle.pg_format.specs.Messages.{table, table_number, attribute, attribute_number}

pub complement_8 : (z : ℤ) → SFits w8 z → of_z w8 z ∷ [] ≡ complement 1 z
complement_8 (pos n) fits = let e : n ≡ n % 256 = omega (arith, fits.sfits) in ap (λ b. b ∷ []) e
complement_8 (negsuc n) fits = let e : 256 - suc n ≡ (256 - suc n) % 256 = omega arith in ap (λ b. b ∷ []) e

pub complement_16 : (z : ℤ) → be16 (of_z w16 z) ≡ complement 2 z
complement_16 (pos n) = refl
complement_16 (negsuc n) = refl

pub complement_32 : (z : ℤ) → be32 (of_z w32 z) ≡ complement 4 z
complement_32 (pos n) = refl
complement_32 (negsuc n) = refl

-- a number of a type is in the range of its bytes
pub fits_8 : (z : ℤ) → SFits w8 z → FitsSigned 1 z
fits_8 (pos n) fits = omega (arith, fits.sfits)
fits_8 (negsuc n) fits = omega (arith, fits.sfits)

pub fits_16 : (z : ℤ) → SFits w16 z → FitsSigned 2 z
fits_16 (pos n) fits = omega (arith, fits.sfits)
fits_16 (negsuc n) fits = omega (arith, fits.sfits)

pub fits_32 : (z : ℤ) → SFits w32 z → FitsSigned 4 z
fits_32 (pos n) fits = omega (arith, fits.sfits)
fits_32 (negsuc n) fits = omega (arith, fits.sfits)

-- ---- numbers whose 0 is of none

table_by : (n : ℕ) (b : Bool) → (n == 0) ≡ b → table_number (if b then None else Some n) ≡ n
table_by n true e = sym (eqb-true n 0 e)
table_by n false e = refl

pub number_of_table : (n : ℕ) → table_number (table n) ≡ n
number_of_table n = table_by n (n == 0) refl

pub number_of_attribute : (z : ℤ) → attribute_number (attribute z) ≡ z
number_of_attribute (pos zero) = refl
number_of_attribute (pos (suc n)) = refl
number_of_attribute (negsuc n) = refl
