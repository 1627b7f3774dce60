-- The fields of an error or a notice: a letter and a text each, one after the other. Documentation:
-- "Message Formats", ErrorResponse (B), and "Error and Notice Message Fields".
use Rattle.std.specs.Prelude.{◌≡◌, ◌≢◌, ℕ, ◌==◌, List, [], ◌∷◌, ◌++◌, Option, Some, None, option_and_then, if◌then◌else◌}
use Rattle.std.specs.List.{filter}
use Rattle.std.specs.Str.{is_utf8}
use Rattle.pg_base.specs.Reading.{HoldsNo}
use Rattle.pg_format.specs.Notices.{Field}
use Rattle.pg_format.specs.EndedTexts.{texts_in, meanings_of, AreInOrder}

-- a text split after its letter; an empty text is no field
abbrev pub field_of : List ℕ → Option Field
field_of [] = None
field_of (letter ∷ value) = Some (letter, value)

-- the texts up to the first empty one, each a field
abbrev pub fields_in : List ℕ → List Field
fields_in bytes = meanings_of field_of (texts_in bytes)

-- the bytes begin with this field
pub record BeginsWithField (bytes : List ℕ) (letter : ℕ) (value rest : List ℕ) : Type 0 where
  pub lettered : letter ≢ 0
  pub clean : HoldsNo 0 value
  pub parts : bytes ≡ letter ∷ (value ++ 0 ∷ rest)

-- these are the fields: each begins what the ones before it leave, and no other begins the rest
abbrev pub AreFields : List ℕ → List Field → Type 0
AreFields bytes fields = AreInOrder (λ begun field rest. BeginsWithField begun field.0 field.1 rest) bytes fields

-- what the first field of a letter says
abbrev pub first_value : ℕ → List Field → Option (List ℕ)
first_value letter [] = None
first_value letter (field ∷ more) = if field.0 == letter then Some field.1 else first_value letter more

-- the fields that have a letter
abbrev pub of_letter : ℕ → List Field → List Field
of_letter letter fields = filter (λ field. field.0 == letter) fields

-- bytes as a text, where they are one
abbrev pub text_of : List ℕ → Option (List ℕ)
text_of bytes = if is_utf8 bytes then Some bytes else None

abbrev pub first_text : ℕ → List Field → Option (List ℕ)
first_text letter fields = option_and_then text_of (first_value letter fields)
