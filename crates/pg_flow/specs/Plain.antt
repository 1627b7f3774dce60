-- What a client knows that has said no Sync before the end of a COPY's data: the requests that wait, and how far the answer to the
-- first has come. Documentation: "Message Flow", "Simple Query", "Extended Query", "Pipelining", "Function Call", "COPY Operations".
use Rattle.std.specs.Prelude.{Bool, true, false, List, [], ◌∷◌, ◌++◌, Option, Some, None, if◌then◌else◌}
use Rattle.pg_flow.specs.declared.answer.Answer.{Answer}
use Rattle.pg_flow.specs.declared.answer.Answer.TheVariants.{CopyBoth, CopyIn, Failure}
use Rattle.pg_flow.specs.declared.place.Place.{Place}
use Rattle.pg_flow.specs.declared.place.Place.TheVariants.{Asked, Both, BothDone, BothIn, BothOut, Failed, Given, Skipping, Start, Withheld}
use Rattle.pg_flow.specs.declared.request.Request.{Request}
use Rattle.pg_flow.specs.declared.request.Request.TheVariants.{Call, Query, Sync}
use Rattle.pg_flow.specs.declared.table.Next.{Next}
use Rattle.pg_flow.specs.declared.table.Next.TheVariants.{At, Done, Wrong}
use Rattle.pg_flow.specs.Table.{next_of}

pub record State : Type 0 where
  pub queue : List Request  -- what was said and isn't answered, the first of it being answered
  pub place : Place  -- how far that answer has come

abbrev pub state : List Request → Place → State
state queue place = record { queue = queue; place = place }

-- a Query, a Call and a Sync are answered up to a ReadyForQuery, whatever failed
abbrev pub ends_ready : Request → Bool
ends_ready Query = true
ends_ready Call = true
ends_ready Sync = true
ends_ready _ = false

abbrev pub is_sync : Request → Bool
is_sync Sync = true
is_sync _ = false

abbrev pub said_first : Place → Request → State
said_first Skipping r = if is_sync r then state (r ∷ []) Start else state [] Skipping
said_first place r = state (r ∷ []) Start

abbrev pub said_to : List Request → Place → Request → State
said_to [] place r = said_first place r
said_to (q ∷ qs) place r = state (q ∷ (qs ++ r ∷ [])) place

-- after a request is said
abbrev pub said : Request → State → State
said r s = said_to s.queue s.place r

-- what a server passes over after an error is left out
abbrev pub from_sync : List Request → List Request
from_sync [] = []
from_sync (r ∷ rs) = if is_sync r then r ∷ rs else from_sync rs

abbrev pub resumed : List Request → State
resumed [] = state [] Skipping
resumed (r ∷ rs) = state (r ∷ rs) Start

-- after an error in answer to r
abbrev pub failed_ready : Place → Request → List Request → Option State
failed_ready Failed r rs = None
failed_ready place r rs = Some (state (r ∷ rs) Failed)

abbrev pub failed_at : Request → Place → List Request → Option State
failed_at r place rs = if ends_ready r then failed_ready place r rs else Some (resumed (from_sync rs))

-- where data of a COPY are to be said, in one direction or in both
abbrev pub is_open : Place → Bool
is_open Asked = true
is_open Both = true
is_open BothIn = true
is_open _ = false

-- where data of a COPY are to be said, nothing else may have been said behind it
abbrev pub at_open : Place → Request → List Request → Option State
at_open place r [] = Some (state (r ∷ []) place)
at_open place r (q ∷ qs) = None

abbrev pub at_place : Place → Request → List Request → Option State
at_place place r rs = if is_open place then at_open place r rs else Some (state (r ∷ rs) place)

abbrev pub went : Next → Request → List Request → Option State
went (At place) r rs = at_place place r rs
went Done r rs = Some (state rs Start)
went Wrong r rs = None

abbrev pub answers : Answer → Request → Place → List Request → Option State
answers Failure r place rs = failed_at r place rs
answers m r place rs = went (next_of r place m) r rs

abbrev pub heard_by : List Request → Place → Answer → Option State
heard_by [] place m = None
heard_by (r ∷ rs) place m = answers m r place rs

-- after an answer is heard: none where it can't come
abbrev pub heard : Answer → State → Option State
heard m s = heard_by s.queue s.place m

-- where the data of a COPY are asked for
abbrev pub is_asked : Place → Bool
is_asked Asked = true
is_asked _ = false

abbrev pub is_copy_in : Answer → Bool
is_copy_in CopyIn = true
is_copy_in _ = false

-- an answer that asks for data of a COPY
abbrev pub opens_data : Answer → Bool
opens_data CopyIn = true
opens_data CopyBoth = true
opens_data _ = false

-- where the end of the data may be said, which are whole or withheld: those of a COPY in both directions can't be withheld
abbrev pub may_end : Bool → Place → Bool
may_end is_whole Asked = true
may_end is_whole Both = is_whole
may_end is_whole BothIn = is_whole
may_end is_whole _ = false

-- where the end of the data leads
abbrev pub given : Bool → Place → Place
given is_whole Asked = if is_whole then Given else Withheld
given is_whole Both = if is_whole then BothOut else Both
given is_whole BothIn = if is_whole then BothDone else BothIn
given is_whole place = place

abbrev pub end_at : Bool → Place → Option Place
end_at is_whole place = if may_end is_whole place then Some (given is_whole place) else None

-- after the end of the data: none where it can't be said
abbrev pub ended : Bool → State → Option State
ended is_whole s = if may_end is_whole s.place then Some (state s.queue (given is_whole s.place)) else None

-- whether the answer to a request is over, where an answer leads there
abbrev pub is_done : Next → Bool
is_done Done = true
is_done _ = false

-- whether nothing more comes for r after m
abbrev pub is_last : Answer → Request → Place → Bool
is_last Failure r place = if ends_ready r then false else true
is_last m r place = is_done (next_of r place m)
