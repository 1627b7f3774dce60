-- What the lists of a client's message hold: format codes, types, values, and the settings that open a session.
use Rattle.std.specs.Prelude.{ℕ, List, [], ◌∷◌, zero, suc, ℤ, pos, negsuc, take, drop, Option, Some, None}
use Rattle.pg_base.specs.Numbers.{num, int}
use Rattle.pg_format.specs.EndedTexts.{texts_in}
use Rattle.pg_format.specs.Format.Lists.{AreRead}
use Rattle.pg_format.specs.Format.Nullable.{value}

-- numbers of two bytes each
abbrev pub codes_in : List ℕ → List ℕ
codes_in [] = []
codes_in (a ∷ []) = []
codes_in (a ∷ b ∷ bytes) = num (a ∷ b ∷ []) ∷ codes_in bytes

-- numbers of four bytes each
abbrev pub types_in : List ℕ → List ℕ
types_in [] = []
types_in (a ∷ []) = []
types_in (a ∷ b ∷ []) = []
types_in (a ∷ b ∷ c ∷ []) = []
types_in (a ∷ b ∷ c ∷ d ∷ bytes) = num (a ∷ b ∷ c ∷ d ∷ []) ∷ types_in bytes

-- texts two by two, up to an empty name
abbrev pub pairs_of : List (List ℕ) → List (List ℕ × List ℕ)
pairs_of [] = []
pairs_of ([] ∷ texts) = []
pairs_of ((byte ∷ name) ∷ []) = []
pairs_of ((byte ∷ name) ∷ value ∷ texts) = (byte ∷ name, value) ∷ pairs_of texts

abbrev pub settings_in : List ℕ → List (List ℕ × List ℕ)
settings_in bytes = pairs_of (texts_in bytes)

-- of a length and of what follows it: the value, and what follows that
abbrev pub value_of : ℤ → List ℕ → Option (List ℕ)
value_of (pos n) bytes = Some (take n bytes)
value_of (negsuc n) bytes = None

abbrev pub rest_of : ℤ → List ℕ → List ℕ
rest_of (pos n) bytes = drop n bytes
rest_of (negsuc n) bytes = bytes

-- the value at the front of some bytes, and what follows it
abbrev pub first_value : List ℕ → Option (List ℕ)
first_value bytes = value_of (int (take 4 bytes)) (drop 4 bytes)

abbrev pub after_first : List ℕ → List ℕ
after_first bytes = rest_of (int (take 4 bytes)) (drop 4 bytes)

-- so many values
abbrev pub values_in : ℕ → List ℕ → List (Option (List ℕ))
values_in zero bytes = []
values_in (suc n) bytes = first_value bytes ∷ values_in n (after_first bytes)

-- the bytes have them all
abbrev pub HoldsValues : ℕ → List ℕ → Type 0
HoldsValues n bytes = (rest : List ℕ) × AreRead value bytes (values_in n bytes) rest
