-- A stream of messages from the server, of which any front may have come. Documentation: "Messaging
-- Overview".
pub mod Raw
use Rattle.std.specs.Prelude.{None, ◌≡◌, ◌+◌, ◌≤◌, ◌⊎◌, ℕ, pos, List, [], ◌∷◌, ◌++◌}
use Rattle.pg_base.specs.Cutting.{Cut}
use Rattle.pg_base.specs.Format.{IsBackendTag}
use Rattle.pg_base.specs.declared.error.Error.{Error}
use Rattle.pg_base.specs.declared.error.Error.TheVariants.{Protocol, OutOfMemory}
use Rattle.pg_base.specs.declared.error.ProtocolFault.{ProtocolFault}
use Rattle.pg_base.specs.declared.error.ProtocolFault.TheVariants.{UnknownMessageType, BadLength}
use Rattle.pg_frames.specs.Framing as streams
use Rattle.pg_frames.specs.Framing.{Framing}
pub use Rattle.pg_frames.specs.Framing.{Announces}

-- each of these has a tag that a server sends
abbrev pub AreKnown : List (ℕ × List ℕ) → Type 0
AreKnown [] = Unit {0}
AreKnown (message ∷ more) = IsBackendTag message.0 × AreKnown more

-- the bytes are these messages from a server, each a tag and a body, and then the rest
pub record Stream (bytes : List ℕ) (messages : List (ℕ × List ℕ)) (rest : List ℕ) : Type 0 where
  pub front : List ℕ
  pub cut : Cut front messages
  pub known : AreKnown messages
  pub parts : bytes ≡ front ++ rest

-- the tags of a server's messages
abbrev pub of_server : Framing ProtocolFault
of_server = record { Known = IsBackendTag; unknown_tag = UnknownMessageType; bad_length = BadLength }

-- a whole message from a server stands at the front
abbrev pub Whole : List ℕ → Type 0
Whole bytes = streams.Whole of_server bytes

-- the message at the front takes so many bytes, which its tag and its length say
pub record TakesJust (bytes : List ℕ) (count : ℕ) : Type 0 where
  pub tag : ℕ
  pub announced : ℕ
  pub announces : Announces bytes tag (pos announced)
  pub known : IsBackendTag tag
  pub least : 4 ≤ announced
  pub is : count ≡ 1 + announced

-- the message at the front takes so many bytes at least: what a tag and a length take, or just so many
abbrev pub TakesAtLeast : List ℕ → ℕ → Type 0
TakesAtLeast bytes count = (count ≡ 5) ⊎ TakesJust bytes count

-- more bytes are wanted: to know the message's type and length, or all of its body
abbrev pub WantsMore : List ℕ → Type 0
WantsMore bytes = streams.WantsMore of_server bytes

-- what is wrong with a stream at its front, whatever comes next
abbrev pub IsStreamFault : List ℕ → ProtocolFault → Type 0
IsStreamFault bytes fault = streams.IsFault of_server bytes fault

-- why no message comes out of a stream that wants no more bytes to tell: its fault, or out of memory
-- for a message that is there
abbrev pub IsReaderError : List ℕ → Error → Type 0
IsReaderError bytes (Protocol reading fault) = (reading ≡ None) × IsStreamFault bytes fault
IsReaderError bytes OutOfMemory = Whole bytes
