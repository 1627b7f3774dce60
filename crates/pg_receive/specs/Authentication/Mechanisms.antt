-- The names of SASL mechanisms: texts that are not empty, one after the other. Documentation:
-- "Message Formats", AuthenticationSASL (B).
use Rattle.std.specs.Prelude.{◌≡◌, ◌≢◌, ℕ, Bool, true, false, List, [], ◌∷◌, Option, Some, None, if◌then◌else◌}
use Rattle.std.specs.Str.{is_utf8}
use Rattle.pg_base.specs.Reading.{Text}
use Rattle.pg_format.specs.EndedTexts.{texts_in, meanings_of, AreInOrder}

abbrev pub is_name : List ℕ → Bool
is_name [] = false
is_name (byte ∷ bytes) = is_utf8 (byte ∷ bytes)

abbrev pub name_of : List ℕ → Option (List ℕ)
name_of text = if is_name text then Some text else None

-- the texts up to the first that is no name
abbrev pub mechanisms_in : List ℕ → List (List ℕ)
mechanisms_in bytes = meanings_of name_of (texts_in bytes)

-- the bytes begin with this name
pub record BeginsWithName (bytes name rest : List ℕ) : Type 0 where
  pub nonempty : name ≢ []
  pub utf8 : is_utf8 name ≡ true
  pub text : Text bytes name rest

-- these are the names: each begins what the ones before it leave, and no other begins the rest
abbrev pub AreMechanisms : List ℕ → List (List ℕ) → Type 0
AreMechanisms bytes names = AreInOrder BeginsWithName bytes names

-- ---- names of any bytes

abbrev pub raw_name_of : List ℕ → Option (List ℕ)
raw_name_of [] = None
raw_name_of (byte ∷ bytes) = Some (byte ∷ bytes)

-- the texts up to the first that is empty
abbrev pub raw_mechanisms_in : List ℕ → List (List ℕ)
raw_mechanisms_in bytes = meanings_of raw_name_of (texts_in bytes)
