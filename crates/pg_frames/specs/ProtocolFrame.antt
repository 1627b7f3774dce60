-- A stream of messages of the whole protocol from the server, as `Stream` has it of the 21 kinds: what its front is.
use Rattle.std.specs.Prelude.{ℕ, List}
use Rattle.pg_base.specs.Cutting.{Begins}
use Rattle.pg_base.specs.declared.error.ProtocolFault.{ProtocolFault}
use Rattle.pg_base.specs.declared.error.ProtocolFault.TheVariants.{UnknownMessageType, BadLength}
use Rattle.pg_format.specs.Protocol.{protocol_tag, IsProtocolTag}
use Rattle.pg_frames.specs.Framing as streams
use Rattle.pg_frames.specs.Framing.{Framing}
use Rattle.pg_frames.specs.declared.protocol_frame.ProtocolFrame.{ProtocolFrame}

-- a frame is the message at the front of the bytes, and what comes after it
abbrev pub ProtocolLiesAtFront : List ℕ → ProtocolFrame → Type 0
ProtocolLiesAtFront stream frame = Begins stream (protocol_tag frame.kind) frame.body.now frame.rest.now

-- the tags of the 24 kinds
abbrev pub of_protocol : Framing ProtocolFault
of_protocol = record { Known = IsProtocolTag; unknown_tag = UnknownMessageType; bad_length = BadLength }

-- a whole message stands at the front
abbrev pub Whole : List ℕ → Type 0
Whole bytes = streams.Whole of_protocol bytes

-- more bytes are wanted: to know the message's tag and length, or all of its body
abbrev pub WantsMore : List ℕ → Type 0
WantsMore bytes = streams.WantsMore of_protocol bytes

-- what is wrong with a stream at its front, whatever comes next
abbrev pub IsStreamFault : List ℕ → ProtocolFault → Type 0
IsStreamFault bytes fault = streams.IsFault of_protocol bytes fault
