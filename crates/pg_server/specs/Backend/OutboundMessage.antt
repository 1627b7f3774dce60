-- What defines a message to a client, its frame, and what a call answers that writes it. Documentation:
-- "Messaging Overview" and "Message Formats".
use Rattle.std.specs.Prelude.{◌≡◌, ℕ, List, length, Option, Some, None, Result, Ok, Err, Vec}
use Rattle.std.specs.declared.alloc.Global.{Global}
use Rattle.pg_base.specs.Cutting.{frame}
use Rattle.pg_base.specs.Encode.{EncodesFrame}
use Rattle.pg_base.specs.Part.{PartLaw}
use Rattle.pg_base.specs.Sink.{IsGiven}
use Rattle.pg_base.specs.Tagged.{first_fault}
use Rattle.pg_base.specs.declared.error.Error.{Error}
use Rattle.pg_base.specs.declared.error.ProtocolFault.{ProtocolFault}
use Rattle.pg_format.specs.Format.{Format}

-- all that is said of a message: the tag that opens it; what it says, and the line of the page by which
-- that is written; the first fault of its parts, of counts and then of texts; and that its numbers are in
-- the ranges of their types
pub record Law : Type 1 where
  pub tag : ℕ
  pub Value : Type 0
  pub line : Format Value
  pub value : Value
  pub part_fault : Option ProtocolFault
  pub IsInRange : Type 0

abbrev pub body : Law → List ℕ
body law = law.line.Writes law.value

-- the body, as a part
abbrev pub part_of : Law → PartLaw
part_of law = record { text = body law; fault = law.part_fault; IsInRange = law.IsInRange }

-- why the message is refused, where it is
abbrev pub fault : Law → Option ProtocolFault
fault law = first_fault law.part_fault (length (body law))

-- the whole message on the stream
abbrev pub text : Law → List ℕ
text law = frame law.tag (body law)

-- ---- calls

-- what a call answers that adds the message to a buffer
abbrev pub Encodes : Law → Vec ℕ Global → Vec ℕ Global → Result (Unit {0}) Error → Type 0
Encodes law old new result = EncodesFrame law.tag (body law) (fault law) (length (body law)) old new result

-- The length of the whole message, which is at the front of the bytes where they are that long; or the
-- fault that it has, and the bytes are as they were.
abbrev pub IsWritten : Law → List ℕ → List ℕ → Result ℕ ProtocolFault → Type 0
IsWritten law old new (Ok len) = (fault law ≡ None) × (len ≡ length (text law)) × IsGiven (text law) old new
IsWritten law old new (Err first) = (fault law ≡ Some first) × (new ≡ old)
