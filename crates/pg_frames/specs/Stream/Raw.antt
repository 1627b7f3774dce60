-- A message of any tag at the front of a stream: what is wanted of it, or what is wrong.
use Rattle.std.specs.Prelude.{ℕ, List}
use Rattle.pg_base.specs.Cutting.{Begins}
use Rattle.pg_base.specs.declared.error.ProtocolFault.{ProtocolFault}
use Rattle.pg_base.specs.declared.error.ProtocolFault.TheVariants.{UnknownMessageType, BadLength}
use Rattle.pg_frames.specs.Framing as streams
use Rattle.pg_frames.specs.Framing.{Framing}
use Rattle.pg_frames.specs.declared.raw_frame.RawFrame.{RawFrame}

-- a frame of any tag is the message at the front of the bytes, and what comes after it
abbrev pub RawLiesAtFront : List ℕ → RawFrame → Type 0
RawLiesAtFront stream frame = Begins stream frame.tag frame.body.now frame.rest.now

-- each tag is known
abbrev pub of_any : Framing ProtocolFault
of_any = record { Known = λ _. Unit {0}; unknown_tag = UnknownMessageType; bad_length = BadLength }

-- a whole message stands at the front
abbrev pub Whole : List ℕ → Type 0
Whole bytes = streams.Whole of_any bytes

-- more bytes are wanted: to know the message's tag and length, or all of its body
abbrev pub WantsMore : List ℕ → Type 0
WantsMore bytes = streams.WantsMore of_any bytes

-- the length doesn't even count itself
abbrev pub HasBadLength : List ℕ → ProtocolFault → Type 0
HasBadLength bytes fault = streams.HasBadLength of_any bytes fault
