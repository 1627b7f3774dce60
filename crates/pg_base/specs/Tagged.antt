-- A message of either side on the stream: when it is refused, and how long it is. Documentation: "Messaging
-- Overview" and "Message Formats".
use Rattle.std.specs.Prelude.{◌≡◌, ℕ, ◌+◌, length, Option, Some, None, Result, Ok, Err, nat_le, if◌then◌else◌}
use Rattle.pg_base.specs.declared.error.ProtocolFault.{ProtocolFault}
use Rattle.pg_base.specs.declared.error.ProtocolFault.TheVariants.{MessageTooLong}
use Rattle.pg_base.specs.Cutting.{max_length}
use Rattle.pg_base.specs.Part.{PartLaw, saturated}

-- the first fault of a message: one of its parts, else that of its length, which counts the four bytes of the
-- length field
abbrev pub first_fault : Option ProtocolFault → ℕ → Option ProtocolFault
first_fault (Some fault) len = Some fault
first_fault None len = if nat_le (len + 4) max_length then None else Some (MessageTooLong (saturated (len + 4)))

abbrev pub fault_of : PartLaw → Option ProtocolFault
fault_of part = first_fault part.fault (length part.text)

-- a length, or the fault that there is
abbrev pub checked_len : Option ProtocolFault → ℕ → Result ℕ ProtocolFault
checked_len None len = Ok len
checked_len (Some fault) len = Err fault

-- the parts have no fault, and are that long
pub record IsMeasured (part : PartLaw) (len : ℕ) : Type 0 where
  pub limits : fault_of part ≡ None
  pub long : len ≡ length part.text

-- parts are others: the same bytes and the same fault, and what is in the one range is in the other
pub record IsSame (part own : PartLaw) : Type 0 where
  pub text : part.text ≡ own.text
  pub fault : part.fault ≡ own.fault
  pub range : part.IsInRange → own.IsInRange
