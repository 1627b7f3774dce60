-- The decimal number at the front of some bytes: a sign, digits, and then anything.
use Rattle.std.specs.Char.{IsAsciiDigit}
use Rattle.std.specs.Prelude.{◌≡◌, ℕ, ◌+◌, ◌-◌, ◌*◌, ◌^◌, ◌<◌, ◌≤◌, List, [], ◌∷◌, ◌++◌, length, Option, Some, None, MatchOption}

abbrev pub AreDigits : List ℕ → Type 0
AreDigits [] = Unit {0}
AreDigits (d ∷ ds) = IsAsciiDigit d × AreDigits ds

abbrev pub BeginsWithDigit : List ℕ → Type 0
BeginsWithDigit [] = ⊥
BeginsWithDigit (b ∷ bs) = IsAsciiDigit b

-- the sum of the digits, each times its power of ten
abbrev pub decimal_value : List ℕ → ℕ
decimal_value [] = 0
decimal_value (d ∷ ds) = (d - 48) * 10 ^ length ds + decimal_value ds

-- bytes begin with digits of this value, and go on with none
pub record Digits (bytes : List ℕ) (n : ℕ) : Type 0 where
  pub digits : List ℕ
  pub rest : List ℕ
  pub some_are_there : 0 < length digits
  pub are_digits : AreDigits digits
  pub ends : ¬ (BeginsWithDigit rest)
  pub is : n ≡ decimal_value digits
  pub parts : bytes ≡ digits ++ rest

-- a number, where it is within the greatest
abbrev pub IsUpTo : ℕ → ℕ → Option ℕ → Type 0
IsUpTo top number result = MatchOption result (top < number) (λ n. (n ≡ number) × (n ≤ top))

-- the value of the digits at the front, where they are there and it is within the greatest
abbrev pub IsDigitsUpTo : ℕ → List ℕ → Option ℕ → Type 0
IsDigitsUpTo top bytes result =
    MatchOption result ((n : ℕ) → Digits bytes n → top < n) (λ n. Digits bytes n × (n ≤ top))

pub data Sign : Type 0 where
  unsigned : Sign
  plus : Sign
  minus : Sign

abbrev pub sign_text : Sign → List ℕ
sign_text unsigned = []
sign_text plus = 43 ∷ []
sign_text minus = 45 ∷ []

-- the bytes begin with this sign and digits of this value
pub record SignedDigits (bytes : List ℕ) (sign : Sign) (n : ℕ) : Type 0 where
  pub after : List ℕ
  pub parts : bytes ≡ sign_text sign ++ after
  pub digits : Digits after n

-- a value up to the greatest, and after a minus 0 alone
abbrev pub IsWithin : ℕ → Sign → ℕ → Type 0
IsWithin top unsigned n = n ≤ top
IsWithin top plus n = n ≤ top
IsWithin top minus n = n ≡ 0

-- the number that begins the bytes, where there is one and it is within the greatest
abbrev pub Atoi : ℕ → List ℕ → Option ℕ → Type 0
Atoi top bytes (Some n) = (sign : Sign) × SignedDigits bytes sign n × IsWithin top sign n
Atoi top bytes None = (sign : Sign) (n : ℕ) → SignedDigits bytes sign n → ¬ (IsWithin top sign n)
