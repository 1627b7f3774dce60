-- Why a stream isn't passed on any further.
use Rattle.std.specs.Prelude.{◌≡◌, ◌<◌, ◌⊎◌, ℕ, List, ◌∷◌, ◌++◌, length, Option, Vec, vec_capacity}
use Rattle.std.specs.Borrow.{Bor}
use Rattle.std.specs.declared.alloc.Global.{Global}
use Rattle.pg_frames.specs.Pieces.{joined}
use Rattle.pg_frames.specs.declared.frontend.frame.Expects.{Expects}
use Rattle.pg_frames.specs.Relay.Answer.{Fits}
use Rattle.pg_frames.specs.Relay.Pass.{Conduct, Standing, Passed, PutsAnswer, PutsOut}
use Rattle.pg_frames.specs.Relay.{bytes_of, IsRelayError, Takes}
use Rattle.pg_frames.specs.declared.relay.answer.Answer.{Answer}
use Rattle.pg_frames.specs.declared.relay.error.RelayError.{RelayError}
use Rattle.pg_frames.specs.declared.relay.error.RelayError.TheVariants.{BadLength, TooLong, NotFrames, OutOfMemory}
use Rattle.pg_frames.specs.declared.relay.event.Event.{Event}
use Rattle.pg_frames.specs.declared.relay.event.Event.TheVariants.{Frame, Part, Held}

-- a frame, its tag or none, and what is expected where it stands and after it
pub record Asked : Type 0 where
  pub before : Expects
  pub tag : Option ℕ
  pub bytes : List ℕ
  pub next : Expects

abbrev pub asked_frame : Expects → Option ℕ → List ℕ → Expects → Asked
asked_frame before tag bytes next = record { before = before; tag = tag; bytes = bytes; next = next }

-- what its user adds is no run of frames that fits there
pub record DoesNotFit {U : Type 0} (acts : Conduct U) (user : U) (frame : Asked) (later : U) : Type 0 where
  pub answer : Answer
  pub added : List ℕ
  pub answers : acts.answers user frame.tag frame.bytes answer added later
  pub misfit : ¬ (Fits answer frame.before added frame.next)

-- why a whole frame goes no further: its user's answer doesn't fit, or finds no memory
abbrev pub IsAnswerError : {U : Type 0} → Conduct U → U → Asked → U → RelayError → Type 0
IsAnswerError acts user frame later (BadLength announced) = ⊥
IsAnswerError acts user frame later (TooLong count most) = ⊥
IsAnswerError acts user frame later NotFrames = DoesNotFit acts user frame later
IsAnswerError acts user frame later OutOfMemory = acts.exhausts user frame.tag frame.bytes later

-- of what a relay hands out only a whole frame is answered
abbrev pub IsEventError : {U : Type 0} → Conduct U → U → Expects → Event → Expects → U → RelayError → Type 0
IsEventError acts user before (Frame tag bytes) next later error = IsAnswerError acts user (asked_frame before tag (bytes_of bytes) next) later error
IsEventError acts user before (Part bytes left) next later error = ⊥
IsEventError acts user before Held next later error = ⊥

-- more is to go out, and the buffer has no room for it
pub record HasNoRoom (IsOut : List ℕ → Type 0) (out : Vec ℕ Global) (error : RelayError) : Type 0 where
  pub more : List ℕ
  pub is_out : IsOut (out.items ++ more)
  pub full : vec_capacity out < length (out.items ++ more)
  pub is : error ≡ OutOfMemory

-- nothing goes out in a frame's place: its user's answer doesn't fit or finds no memory, or the buffer has no room for it
abbrev pub AnswerStops : {U : Type 0} → Conduct U → U → Asked → U → List ℕ → Vec ℕ Global → RelayError → Type 0
AnswerStops acts user frame later old out error =
    IsAnswerError acts user frame later error ⊎ HasNoRoom (PutsAnswer acts.answers user frame.before frame.tag frame.bytes frame.next later old) out error

-- nor for what a relay hands out
abbrev pub EventStops : {U : Type 0} → Conduct U → U → Expects → Event → Expects → U → List ℕ → Vec ℕ Global → RelayError → Type 0
EventStops acts user before event next later old out error =
    IsEventError acts user before event next later error ⊎ HasNoRoom (PutsOut acts.answers user before event next later old) out error

-- the relay takes nothing of what comes next, and relay and user stay as they were
pub record StopsAtRelay {U : Type 0} (acts : Conduct U) (at : Standing U) (rest : List ℕ) (new : Standing U) (error : RelayError) : Type 0 where
  pub is : IsRelayError (acts.wanted at.user) at.relay rest error
  pub user : new.user ≡ at.user
  pub relay : new.relay ≡ at.relay

-- nothing of what the relay gives next is added: its user's answer to it doesn't fit or finds no memory, or the buffer
-- has no room for it
pub record StopsAtEvent {U : Type 0} (acts : Conduct U) (at : Standing U) (rest : List ℕ) (new : Standing U) (error : RelayError) : Type 0 where
  pub event : Event
  pub after : List ℕ
  pub takes : Takes (acts.wanted at.user) at.relay rest event after new.relay
  pub is : EventStops acts at.user at.relay.expects event new.relay.expects new.user at.out.items new.out error

-- the front of a piece passes on; what comes next doesn't pass, and adds nothing
pub record Stops {U : Type 0} (acts : Conduct U) (old : Standing U) (piece : List ℕ) (new : Standing U) (error : RelayError) : Type 0 where
  pub front : List ℕ
  pub rest : List ℕ
  pub parts : piece ≡ front ++ rest
  pub some : 0 < length rest
  pub at : Standing U
  pub passed : Passed acts old front at
  pub out : new.out.items ≡ at.out.items
  pub why : StopsAtRelay acts at rest new error ⊎ StopsAtEvent acts at rest new error

-- it stops in one of the pieces, and those before it have passed
pub record StopsIn {U : Type 0} (acts : Conduct U) (old : Standing U) (pieces : List (Bor (List ℕ))) (new : Standing U) (error : RelayError) : Type 0 where
  pub before : List (Bor (List ℕ))
  pub piece : Bor (List ℕ)
  pub following : List (Bor (List ℕ))
  pub are : pieces ≡ before ++ piece ∷ following
  pub at : Standing U
  pub passed : Passed acts old (joined before) at
  pub stops : Stops acts at piece.now new error
