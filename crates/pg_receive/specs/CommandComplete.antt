-- CommandComplete: the tag of a command that is done. Documentation: "Message Formats",
-- CommandComplete (B).
use Rattle.std.specs.Prelude.{◌≡◌, ℕ, ◌==◌, List, [], ◌∷◌, ◌++◌, Option, Some, None, ◌⊎◌, option_and_then, unwrap_or, if◌then◌else◌}
use Rattle.std.specs.Option.{option_or}
use Rattle.pg_base.specs.Reading.{HoldsNo}
use Rattle.pg_base.specs.Atoi.{Atoi}
use Rattle.pg_format.specs.Format.{Format}
use Rattle.pg_format.specs.Format.Ends.{loosely}
use Rattle.pg_format.specs.Format.Parts.{until_nul}
use Rattle.pg_receive.specs.Decimal.{leading_decimal}

-- the text of a tag, which the first NUL of the body ends
abbrev pub tag_text : Format (List ℕ)
tag_text = loosely until_nul

-- the greatest count of rows
abbrev pub max_rows : ℕ
max_rows = 18446744073709551615

abbrev pub space : ℕ
space = 32

-- what follows the last of a byte
abbrev pub after_last : ℕ → List ℕ → Option (List ℕ)
after_last byte [] = None
after_last byte (b ∷ bytes) = option_or (after_last byte bytes) (if b == byte then Some bytes else None)

-- how many rows a tag counts: the number after its last space, or else 0
abbrev pub row_count : List ℕ → ℕ
row_count tag = unwrap_or (option_and_then (leading_decimal max_rows) (after_last space tag)) 0

-- what follows the last space
pub record AfterLastSpace (tag tail : List ℕ) : Type 0 where
  pub front : List ℕ
  pub parts : tag ≡ front ++ space ∷ tail
  pub last : HoldsNo space tail

-- the tag has a number of rows
pub record HasRowCount (tag : List ℕ) (rows : ℕ) : Type 0 where
  pub tail : List ℕ
  pub after : AfterLastSpace tag tail
  pub number : Atoi max_rows tail (Some rows)

-- it is the number after the last space, or 0 if no number follows a last space
abbrev pub IsRowsAffected : List ℕ → ℕ → Type 0
IsRowsAffected tag rows =
    HasRowCount tag rows ⊎ ((rows ≡ 0) × ((tail : List ℕ) → AfterLastSpace tag tail → Atoi max_rows tail None))
