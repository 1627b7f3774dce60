-- A reader of a client's stream: what it holds, and what it answers.
use Rattle.std.specs.Prelude.{◌≡◌, ℕ, List, ◌++◌}
use Rattle.pg_frames.specs.declared.frontend.error.FrontendError.{FrontendError}
use Rattle.pg_frames.specs.declared.frontend.error.FrontendError.TheVariants.{Protocol, OutOfMemory}
use Rattle.pg_frames.specs.declared.frontend.frame.Expects.{Expects}
use Rattle.pg_frames.specs.declared.frontend.message.ClientMessage.{ClientMessage}
use Rattle.pg_frames.specs.declared.frontend.message.ClientMessageKind.{ClientMessageKind}
use Rattle.pg_frames.specs.declared.frontend.message.ClientMessageKind.TheVariants as kinds
use Rattle.pg_frames.specs.Frontend.Frame.{BeginsWith, Whole, WantsMore, IsStreamFault}
use Rattle.pg_server.specs.declared.frontend.error.FrontendFault.{FrontendFault}

-- the bytes that were fed and not yet taken, which message is expected there, and how long a first one may be
pub record Reading : Type 0 where
  pub limit : ℕ
  pub expects : Expects
  pub bytes : List ℕ

abbrev pub awaiting : ℕ → Expects → List ℕ → Reading
awaiting limit state bytes = record { limit = limit; expects = state; bytes = bytes }

-- more bytes were fed
abbrev pub fed : Reading → List ℕ → Reading
fed reading more = awaiting reading.limit reading.expects (reading.bytes ++ more)

-- at the front of the bytes a whole message stands, as it is expected
abbrev pub WholeIn : Reading → Type 0
WholeIn reading = Whole reading.limit reading.expects reading.bytes

-- more bytes are wanted for one
abbrev pub WantsMoreIn : Reading → Type 0
WantsMoreIn reading = WantsMore reading.limit reading.expects reading.bytes

-- this is wrong there, whatever comes next
abbrev pub IsFaultIn : Reading → FrontendFault → Type 0
IsFaultIn reading fault = IsStreamFault reading.limit reading.expects reading.bytes fault

-- how many bytes stand before a body: a length, and a tag before it
abbrev pub header : ClientMessageKind → ℕ
header kinds.First = 4
header (kinds.Tagged format) = 5

-- the message at the front was taken
pub record Takes (old : Reading) (message : ClientMessage) (new : Reading) : Type 0 where
  pub begins : BeginsWith old.limit old.expects old.bytes message.kind message.contents new.bytes new.expects
  pub limit : new.limit ≡ old.limit

-- why no message comes out of a stream that wants no more bytes to tell: its fault, or out of memory for a
-- message that is there
abbrev pub IsReaderError : Reading → FrontendError → Type 0
IsReaderError reading (Protocol fault) = IsFaultIn reading fault
IsReaderError reading OutOfMemory = WholeIn reading
