-- Whole numbers in messages, highest byte first. Documentation: "Message Data Types", Intn.
use Rattle.std.specs.Prelude.{ℕ, ◌+◌, ◌*◌, ◌/◌, ◌%◌, ◌^◌, List, [], ◌∷◌, length, map, ℤ, pos, ◌-ℤ◌, nat_lt, if◌then◌else◌}
use Rattle.std.specs.Int.{w16, w32, w64, to_be_bytes}
use Rattle.pg_base.specs.declared.io.Oid.{Oid}

-- a number as two bytes, as four, and as eight
abbrev pub be16 : ℕ → List ℕ
be16 n = to_be_bytes w16 n

abbrev pub be32 : ℕ → List ℕ
be32 n = to_be_bytes w32 n

abbrev pub be64 : ℕ → List ℕ
be64 n = to_be_bytes w64 n

-- the decimal digits of a number below 100, two also of one below 10
abbrev pub two_digits : ℕ → List ℕ
two_digits n = (48 + n / 10) ∷ (48 + n % 10) ∷ []

-- the number that bytes spell
abbrev pub num : List ℕ → ℕ
num [] = 0
num (b ∷ bs) = b * 256 ^ length bs + num bs

-- the signed number that they spell: one whose first byte is 128 or more is below 0
abbrev pub int : List ℕ → ℤ
int [] = pos 0
int (b ∷ bs) = if nat_lt b 128 then pos (num (b ∷ bs)) else pos (num (b ∷ bs)) -ℤ pos (256 ^ length (b ∷ bs))

-- the most that a count of two bytes can say; it is unsigned
abbrev pub max_count : ℕ
max_count = 65535

-- the numbers of types
abbrev pub numbers_of : List Oid → List ℕ
numbers_of types = map (λ (oid : Oid). oid.0) types
