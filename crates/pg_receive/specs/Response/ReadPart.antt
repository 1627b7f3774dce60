-- The part of an error or a notice that is read when it is decoded.
use Rattle.std.specs.Prelude.{◌≡◌, ℕ, ◌==◌, true, false, List, Some, None, if◌then◌else◌}
use Rattle.pg_base.specs.declared.error.ProtocolFault.{ProtocolFault}
use Rattle.pg_format.specs.Notices.{field_fault, code_letter, message_letter, severity_letter, localized_letter}
use Rattle.pg_receive.specs.declared.message.response.read.ReadPart.{ReadPart}
use Rattle.pg_receive.specs.Response.{Read}
use Rattle.pg_receive.specs.Response.Fields.{fields_in}
use Rattle.pg_receive.specs.Response.Places.{Place, IsPlaceIn, bytes_in, are_full}
use Rattle.pg_receive.specs.Response.Severity.{severity_of_word}

-- there are a message and a code
abbrev pub IsComplete : ReadPart → Type 0
IsComplete part = are_full part.message part.code ≡ true

-- the message is empty, or the code
abbrev pub IsIncomplete : ReadPart → Type 0
IsIncomplete part = are_full part.message part.code ≡ false

-- a field without a fault, with this value at this place, is taken in: what its letter names is as the
-- field says, and the rest as before
pub record IsTakenIn (letter : ℕ) (value : List ℕ) (place : Place) (old new : ReadPart) : Type 0 where
  pub clean : field_fault (letter, value) ≡ None
  pub severity : new.severity ≡ (if letter == severity_letter then severity_of_word value else old.severity)
  pub localized : new.localized ≡ (if letter == localized_letter then severity_of_word value else old.localized)
  pub message : new.message ≡ (if letter == message_letter then place else old.message)
  pub code : new.code ≡ (if letter == code_letter then place else old.code)

-- a field is taken in, unless there are a message and a code
abbrev pub TakesField : ℕ → List ℕ → Place → ReadPart → ReadPart → Type 0
TakesField letter value place old new = IsIncomplete old → IsTakenIn letter value place old new

-- a field is refused for its fault, which counts only where there aren't a message and a code
abbrev pub RefusesField : ℕ → List ℕ → ReadPart → ProtocolFault → Type 0
RefusesField letter value part fault = IsIncomplete part × (field_fault (letter, value) ≡ Some fault)

-- the places of the message and the code are within the body
abbrev pub HasPlacesIn : List ℕ → ReadPart → Type 0
HasPlacesIn body part = IsPlaceIn body part.message × IsPlaceIn body part.code

-- the part is what is read of the fields of the body
abbrev pub IsReadOf : List ℕ → ReadPart → Type 0
IsReadOf body part = Read (fields_in body) (bytes_in body part.message) (bytes_in body part.code) part.severity part.localized
