-- The decimal number at the front of some bytes, as a function of them.
use Rattle.std.specs.Prelude.{ℕ, ◌==◌, nat_le, List, [], ◌∷◌, Option, Some, None, if◌then◌else◌}
use Rattle.std.specs.Char.{is_ascii_digit}
use Rattle.pg_base.specs.Atoi.{decimal_value}

-- the digits at the front, as many as there are
abbrev pub front_digits : List ℕ → List ℕ
front_digits [] = []
front_digits (byte ∷ bytes) = if is_ascii_digit byte then byte ∷ front_digits bytes else []

-- their value, where there are any and it is within the greatest
abbrev pub value_within : ℕ → List ℕ → Option ℕ
value_within top [] = None
value_within top (digit ∷ digits) = if nat_le (decimal_value (digit ∷ digits)) top then Some (decimal_value (digit ∷ digits)) else None

-- a sign may precede them; after a minus 0 is the greatest
unfoldable pub leading_decimal : ℕ → List ℕ → Option ℕ
leading_decimal top [] = None
leading_decimal top (byte ∷ bytes) =
    if byte == 43 then value_within top (front_digits bytes)
    else (if byte == 45 then value_within 0 (front_digits bytes) else value_within top (front_digits (byte ∷ bytes)))
