-- What defines a message to the server, the limits on one, and its frame. Documentation: "Messaging
-- Overview" and "Message Formats".
use Rattle.std.specs.Prelude.{◌≡◌, ℕ, ◌+◌, ◌≤◌, List, length, Option, Some, None, Result, Ok, Err, MatchOption, Vec, IfErr}
use Rattle.std.specs.declared.alloc.Global.{Global}
use Rattle.pg_base.specs.declared.error.ProtocolFault.{ProtocolFault}
use Rattle.pg_base.specs.declared.error.Error.{Error}
use Rattle.pg_base.specs.declared.error.Error.TheVariants.{Protocol, OutOfMemory}
use Rattle.pg_base.specs.declared.format.FrontendMessageFormat.{FrontendMessageFormat}
use Rattle.pg_base.specs.Cutting.{frame}
use Rattle.pg_base.specs.Encode.{EncodesFrame, IsShort}
use Rattle.pg_base.specs.Format.{frontend_tag}
use Rattle.pg_base.specs.Part.{PartLaw, saturated}
use Rattle.pg_base.specs.Tagged as tagged
use Rattle.pg_base.specs.Tagged.{first_fault}
use Rattle.pg_base.specs.declared.error.ProtocolFault.TheVariants.{TextHoldsNul}

-- the length of a body within the limits
abbrev pub checked_len : Option ProtocolFault → ℕ → Result ℕ Error
checked_len None len = Ok len
checked_len (Some fault) len = Err (Protocol None fault)

-- how a reader takes a body apart, where the messages of one tag have several forms: one whose names are
-- texts and not numbers, and each of the passwords and the answers of SASL
pub data Form : Type 0 where
  plain : Form
  raw : Form
  cleartext : Form
  md5 : Form
  sasl_initial : Form
  any_sasl_initial : Form
  sasl_response : Form

-- all that is said of a message: the format whose tag opens it, and its form; its body; the first limit
-- on counts that it breaks; the room that is reserved for a body of so many bytes; that its numbers
-- are in the ranges of their types; which bytes a reader takes apart into it; what it needs so that
-- a reader gets it back; and the fault of one that lacks that, of a kind that can lack it
pub record Law : Type 1 where
  pub format : FrontendMessageFormat
  pub form : Form
  pub body : List ℕ
  pub count_fault : Option ProtocolFault
  pub room_for : ℕ → ℕ
  pub IsInRange : Type 0
  pub Reads : List ℕ → Type 0
  pub CanRoundTrip : Type 0
  pub round_trip_fault : Option ProtocolFault

-- its body, as a part
abbrev pub part_of : Law → PartLaw
part_of law = record { text = law.body; fault = law.count_fault; IsInRange = law.IsInRange }

-- the first byte
abbrev pub tag : Law → ℕ
tag law = frontend_tag law.format

-- the first limit that the message breaks
abbrev pub fault : Law → Option ProtocolFault
fault law = first_fault law.count_fault (length law.body)

-- how much room is reserved for the body
abbrev pub hint : Law → ℕ
hint law = law.room_for (length law.body)

-- within the limits that room holds the body
abbrev pub ReservesEnough : Law → Type 0
ReservesEnough law = fault law ≡ None → length law.body ≤ hint law

-- the whole message on the stream
abbrev pub text : Law → List ℕ
text law = frame (tag law) law.body

-- the message breaks no limit, and its body is that long
abbrev pub IsMeasured : Law → ℕ → Type 0
IsMeasured law len = tagged.IsMeasured (part_of law) len

-- what a call answers that encodes the message
abbrev pub EncodesMessage : Law → Vec ℕ Global → Vec ℕ Global → Result (Unit {0}) Error → Type 0
EncodesMessage law old new result = EncodesFrame (tag law) law.body (fault law) (hint law) old new result

-- within the limits, and the spare room of the buffer is less than the message asks for
abbrev pub IsShortFor : Law → Vec ℕ Global → Type 0
IsShortFor law buf = fault law ≡ None → IsShort buf (hint law + 5)

-- the same of a message that can make the round trip
abbrev pub IsShortIfItCan : Law → Vec ℕ Global → Type 0
IsShortIfItCan law buf = fault law ≡ None → law.CanRoundTrip → IsShort buf (hint law + 5)

-- the message is added
abbrev pub Adds : Law → Vec ℕ Global → Vec ℕ Global → Type 0
Adds law old new = EncodesMessage law old new (Ok tt)

-- refused as a text that holds a NUL, and not where it may be
abbrev pub RefusesNul : Result (Unit {0}) ProtocolFault → Type 0 → Type 0
RefusesNul result MayBe = IfErr result (λ fault. (fault ≡ TextHoldsNul) × ¬ MayBe)

-- a reader wouldn't get the message back, for this fault
abbrev pub CannotRoundTrip : Law → ProtocolFault → Type 0
CannotRoundTrip law fault = (law.round_trip_fault ≡ Some fault) × ¬ law.CanRoundTrip

-- refused exactly where a reader wouldn't get it back, for this fault; memory may run out
abbrev pub IsRoundTripAnswer : Type 0 → Option ProtocolFault → Result (Unit {0}) Error → Type 0
IsRoundTripAnswer CanRoundTrip round_trip_fault (Ok _) = CanRoundTrip
IsRoundTripAnswer CanRoundTrip round_trip_fault (Err (Protocol reading fault)) = (reading ≡ None) × (round_trip_fault ≡ Some fault) × ¬ CanRoundTrip
IsRoundTripAnswer CanRoundTrip round_trip_fault (Err OutOfMemory) = CanRoundTrip

-- refused exactly where it breaks a limit, for the first that it breaks, or else where a reader wouldn't
-- get it back
abbrev pub IsStrictAnswerOf : Option ProtocolFault → Type 0 → Option ProtocolFault → Result (Unit {0}) Error → Type 0
IsStrictAnswerOf limit CanRoundTrip round_trip_fault answer = MatchOption limit (IsRoundTripAnswer CanRoundTrip round_trip_fault answer) (λ fault. answer ≡ Err (Protocol None fault))

abbrev pub IsStrictAnswer : Law → Result (Unit {0}) Error → Type 0
IsStrictAnswer law answer = IsStrictAnswerOf (fault law) law.CanRoundTrip law.round_trip_fault answer

-- how much spare room the message asks for, or why it is refused
abbrev pub room_or_fault : Option ProtocolFault → ℕ → Result ℕ Error
room_or_fault None hint = Ok (saturated (hint + 5))
room_or_fault (Some fault) hint = Err (Protocol None fault)

abbrev pub room_asked : Law → Result ℕ Error
room_asked law = room_or_fault (fault law) (hint law)
