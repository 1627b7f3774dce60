-- A server, which takes a request once it is done with the one before, and drops a Sync while it reads the data of a COPY. It is
-- quiet where nothing was done since the last ReadyForQuery or error: then a Sync can't fail.
pub mod View
use Rattle.std.specs.Prelude.{ℕ, zero, suc, ◌+◌, ◌-◌, Bool, true, false, List, [], ◌∷◌, ◌++◌, length, Option, Some, None, if◌then◌else◌}
use Rattle.pg_flow.specs.declared.heard.Heard.TheVariants as whom
use Rattle.pg_flow.specs.declared.mode.Mode.TheVariants as modes
use Rattle.pg_flow.specs.declared.answer.Answer.{Answer}
use Rattle.pg_flow.specs.declared.answer.Answer.TheVariants.{Failure}
use Rattle.pg_flow.specs.declared.heard.Heard.{Heard}
use Rattle.pg_flow.specs.declared.mode.Mode.{Mode}
use Rattle.pg_flow.specs.declared.place.Place.{Place}
use Rattle.pg_flow.specs.declared.place.Place.TheVariants.{Asked, Skipping, Start}
use Rattle.pg_flow.specs.declared.request.Request.{Request}
use Rattle.pg_flow.specs.Mode.{mode_in}
use Rattle.pg_flow.specs.Plain.{State, answers, ends_ready, given, is_last, is_open, is_sync, may_end}

-- what a client says: a request, or the end of the data of a COPY, which are whole or withheld
pub data Up : Type 0 where
  Asks : Request → Up
  Ends : (is_whole : Bool) → Up

pub data Server : Type 0 where
  Idle : (quiet : Bool) → Server
  Skips : Server
  Busy : Request → Place → (quiet : Bool) → (number : ℕ) → Server

-- after the server takes a message, of the number j if it is a request: none where it doesn't take it now

abbrev pub drops : Request → Place → Bool → ℕ → Option Server
drops x Asked quiet i = Some (Busy x Asked quiet i)
drops x _ quiet i = None

abbrev pub take_end : Bool → Request → Place → Bool → ℕ → Option Server
take_end b x place quiet i = if may_end b place then Some (Busy x (given b place) quiet i) else None

abbrev pub take : Up → Server → ℕ → Option Server
take (Asks r) (Idle quiet) j = Some (Busy r Start quiet j)
take (Asks r) Skips j = Some (if is_sync r then Busy r Start true j else Skips)
take (Asks r) (Busy x place quiet i) j = if is_sync r then drops x place quiet i else None
take (Ends b) (Idle quiet) j = Some (Idle quiet)
take (Ends b) Skips j = Some Skips
take (Ends b) (Busy x place quiet i) j = take_end b x place quiet i

abbrev pub counted : Up → ℕ → ℕ
counted (Asks r) n = n + 1
counted (Ends b) n = n

-- after the server gives an answer: none where it can't

abbrev pub is_failure : Answer → Bool
is_failure Failure = true
is_failure _ = false

abbrev pub after_as : List Request → Place → Request → Bool → ℕ → Server
after_as [] Skipping r quiet j = Skips
after_as [] _ r quiet j = Idle (ends_ready r)
after_as (x ∷ xs) place r quiet j = Busy r place quiet j

abbrev pub after : State → Request → Bool → ℕ → Server
after s r quiet j = after_as s.queue s.place r quiet j

abbrev pub told : Option State → Request → Bool → ℕ → Option Server
told None r quiet j = None
told (Some s) r quiet j = Some (after s r quiet j)

abbrev pub tell_as : Answer → Request → Place → Bool → ℕ → Option Server
tell_as m r place true j = if is_sync r then (if is_failure m then None else told (answers m r place []) r true j) else told (answers m r place []) r true j
tell_as m r place false j = told (answers m r place []) r false j

abbrev pub tell : Answer → Server → Option Server
tell m (Idle quiet) = None
tell m Skips = None
tell m (Busy r place quiet j) = tell_as m r place quiet j

abbrev pub number_of : Server → ℕ
number_of (Busy r place quiet j) = j
number_of _ = 0

abbrev pub whose_told : Answer → Server → Heard
whose_told m (Busy r place quiet j) = whom.Answer j (is_last m r place)
whose_told m _ = whom.ByItself

-- whether data of a COPY, or a Flush, are taken now
abbrev pub reads : Server → Bool
reads (Busy r place quiet j) = is_open place
reads _ = true

-- the request that is answered, or where none is the next one
abbrev pub first_taken : ℕ → Server → ℕ
first_taken count (Busy r place quiet j) = j
first_taken count _ = count

abbrev pub server_mode : Server → Mode
server_mode (Idle quiet) = modes.Idle
server_mode Skips = modes.Skipping
server_mode (Busy r place quiet j) = mode_in place
