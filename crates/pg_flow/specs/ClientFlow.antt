-- A client, which may say Syncs before the end of the data of a COPY: a server drops them while it reads data, and answers them
-- where the COPY has failed. Documentation: "Message Flow", "COPY Operations".
pub mod View
use Rattle.std.specs.Prelude.{ℕ, zero, suc, ◌+◌, ◌-◌, Bool, true, false, List, [], ◌∷◌, ◌++◌, length, Option, Some, None, if◌then◌else◌}
use Rattle.pg_flow.specs.declared.heard.Heard.TheVariants as whom
use Rattle.pg_flow.specs.declared.mode.Mode.TheVariants as modes
use Rattle.pg_flow.specs.declared.answer.Answer.{Answer}
use Rattle.pg_flow.specs.declared.answer.Answer.TheVariants.{Failure, Ready}
use Rattle.pg_flow.specs.declared.heard.Heard.{Heard}
use Rattle.pg_flow.specs.declared.mode.Mode.{Mode}
use Rattle.pg_flow.specs.declared.place.Place.{Place}
use Rattle.pg_flow.specs.declared.place.Place.TheVariants.{Asked, BothDone, BothOut, Failed, Given, Skipping, Start, Withheld}
use Rattle.pg_flow.specs.declared.request.Request.{Request}
use Rattle.pg_flow.specs.declared.request.Request.TheVariants.{Execute}
use Rattle.pg_flow.specs.declared.table.Next.{Next}
use Rattle.pg_flow.specs.declared.table.Next.TheVariants.{Done}
use Rattle.pg_flow.specs.Mode.{mode_in}
use Rattle.pg_flow.specs.Plain.{State, answers, given, is_asked, is_copy_in, is_last, is_open, is_sync, may_end, said_to, state}
use Rattle.pg_flow.specs.Table.{next_of}

pub data Client : Type 0 where
  -- no Sync is early
  Plain : State → Client
  -- an Execute is being answered that is a COPY, with early + 1 Syncs said before the end of its data; the rest was said after it
  Copying : (early : ℕ) → (rest : List Request) → (place : Place) → Client
  -- such a COPY failed: least to least + more + 1 ReadyForQuery are to come, for the Syncs from the number first on; behind them
  -- the rest was said; and, where nothing was, whether the server may pass over what comes next
  Group : (first : ℕ) → (least : ℕ) → (more : ℕ) → (rest : List Request) → (skips : Bool) → Client

-- after a request is said: none where it can't be

abbrev pub is_execute : Request → Bool
is_execute Execute = true
is_execute _ = false

abbrev pub is_only_execute : List Request → Bool
is_only_execute (r ∷ []) = is_execute r
is_only_execute _ = false

abbrev pub say_asked : List Request → Request → Option Client
say_asked qs r = if is_sync r then (if is_only_execute qs then Some (Copying 0 [] Asked) else None) else None

-- while data go both ways, none
abbrev pub say_open : List Request → Place → Request → Option Client
say_open qs place r = if is_asked place then say_asked qs r else None

abbrev pub say_plain : List Request → Place → Request → Option Client
say_plain qs place r = if is_open place then say_open qs place r else Some (Plain (said_to qs place r))

-- once the data are over: a Sync first
abbrev pub say_behind : ℕ → List Request → Place → Request → Option Client
say_behind k [] place r = if is_sync r then Some (Copying k (r ∷ []) place) else None
say_behind k (x ∷ rest) place r = Some (Copying k (x ∷ (rest ++ r ∷ [])) place)

abbrev pub say_copying : ℕ → List Request → Place → Request → Option Client
say_copying k rest place r = if is_asked place then (if is_sync r then Some (Copying (suc k) rest place) else None) else say_behind k rest place r

abbrev pub say_group : ℕ → ℕ → ℕ → List Request → Bool → Request → Option Client
say_group first l m [] skips r =
    if is_sync r then Some (Group first (suc l) m [] false) else (if skips then None else Some (Group first l m (r ∷ []) false))
say_group first l m (x ∷ rest) skips r = Some (Group first l m (x ∷ (rest ++ r ∷ [])) skips)

abbrev pub say : Request → Client → Option Client
say r (Plain s) = say_plain s.queue s.place r
say r (Copying k rest place) = say_copying k rest place r
say r (Group first l m rest skips) = say_group first l m rest skips r

-- after the data of a COPY are over: none where none are asked for
abbrev pub end_data : Bool → Client → Option Client
end_data b (Plain s) = if may_end b s.place then Some (Plain (state s.queue (given b s.place))) else None
end_data b (Copying k rest place) = if is_asked place then Some (Copying k rest (given b place)) else None
end_data b (Group first l m rest skips) = None

-- after an answer is heard: none where it can't come

abbrev pub is_start : Place → Bool
is_start Start = true
is_start _ = false

abbrev pub all_syncs : List Request → Bool
all_syncs [] = true
all_syncs (r ∷ rs) = if is_sync r then all_syncs rs else false

-- a COPY asks for data, and Syncs were said behind it
abbrev pub copying : List Request → Option Client
copying [] = None
copying (r ∷ rs) = if all_syncs (r ∷ rs) then Some (Copying (length rs) [] Asked) else None

abbrev pub or_copying : Answer → Request → Place → List Request → Option State → Option Client
or_copying m r place rs (Some s) = Some (Plain s)
or_copying m r place rs None = if is_copy_in m then (if is_execute r then (if is_start place then copying rs else None) else None) else None

abbrev pub hear_first : Answer → Request → Place → List Request → Option Client
hear_first m r place rs = or_copying m r place rs (answers m r place rs)

abbrev pub hear_plain : Answer → List Request → Place → Option Client
hear_plain m [] place = None
hear_plain m (r ∷ rs) place = hear_first m r place rs

-- the Syncs at the front, and what is behind them
abbrev pub lead : List Request → ℕ
lead [] = 0
lead (r ∷ rs) = if is_sync r then lead rs + 1 else 0

abbrev pub behind : List Request → List Request
behind [] = []
behind (r ∷ rs) = if is_sync r then behind rs else r ∷ rs

abbrev pub is_none : List Request → Bool
is_none [] = true
is_none (r ∷ rs) = false

abbrev pub done : Next → List Request → Option Client
done Done rest = Some (Plain (state rest Start))
done _ rest = None

abbrev pub hear_copying : ℕ → ℕ → List Request → Place → Answer → Option Client
hear_copying n k rest place Failure = Some (Group (n - (length rest + (k + 1))) (lead rest) k (behind rest) (is_none rest))
hear_copying n k rest place m = done (next_of Execute place m) rest

abbrev pub ready_group : ℕ → ℕ → ℕ → List Request → Client
ready_group first (suc l) m rest = Group first l m rest false
ready_group first zero (suc m) rest = Group first 0 m rest false
ready_group first zero zero rest = Plain (state rest Start)

-- no more ReadyForQuery came: the rest is answered
abbrev pub hear_rest : ℕ → List Request → Answer → Option Client
hear_rest (suc l) rest m = None
hear_rest zero rest m = hear_plain m rest Start

abbrev pub is_ready : Answer → Bool
is_ready Ready = true
is_ready _ = false

abbrev pub hear_group : ℕ → ℕ → ℕ → List Request → Answer → Option Client
hear_group first l k rest m = if is_ready m then Some (ready_group first l k rest) else hear_rest l rest m

abbrev pub hear : ℕ → Answer → Client → Option Client
hear n m (Plain s) = hear_plain m s.queue s.place
hear n m (Copying k rest place) = hear_copying n k rest place m
hear n m (Group first l k rest skips) = hear_group first l k rest m

-- The number of the request that is answered: all that were said but those in the queue came before it.
abbrev pub number : ℕ → List Request → ℕ
number count queue = count - length queue

-- whose answer it is: one of the requests of these numbers, where n were said
abbrev pub lowest : ℕ → Answer → Client → ℕ
lowest n m (Plain s) = number n s.queue
lowest n m (Copying k rest place) = n - (length rest + (k + 2))
lowest n m (Group first l k rest skips) = if is_ready m then first else n - length rest

abbrev pub highest : ℕ → Answer → Client → ℕ
highest n m (Plain s) = number n s.queue
highest n m (Copying k rest place) = n - (length rest + (k + 2))
highest n m (Group first l k rest skips) = if is_ready m then n - (length rest + 1) else n - length rest

-- whether the last message for the request that is answered is m

abbrev pub ends_first : Answer → List Request → Place → Bool
ends_first m [] place = false
ends_first m (r ∷ rs) place = is_last m r place

abbrev pub ends_rest : Answer → List Request → Bool
ends_rest m rest = if is_ready m then false else ends_first m rest Start

abbrev pub ends : Answer → Client → Bool
ends m (Plain s) = ends_first m s.queue s.place
ends m (Copying k rest place) = true
ends m (Group first l k rest skips) = ends_rest m rest

abbrev pub is_of_group : Answer → Client → Bool
is_of_group m (Group first l k rest skips) = is_ready m
is_of_group m _ = false

abbrev pub whose_as : Bool → ℕ → ℕ → Bool → Heard
whose_as true low high last = whom.Group low high
whose_as false low high last = whom.Answer low last

abbrev pub whose : ℕ → Answer → Client → Heard
whose n m c = whose_as (is_of_group m c) (lowest n m c) (highest n m c) (ends m c)

-- the first request that waits, where n were said
abbrev pub first_of : ℕ → Client → ℕ
first_of n (Plain s) = number n s.queue
first_of n (Copying k rest place) = n - (length rest + (k + 2))
first_of n (Group first l k rest skips) = first

-- what a client says of the data of a COPY

abbrev pub takes_data : Client → Bool
takes_data (Plain s) = is_open s.place
takes_data (Copying k rest place) = is_asked place
takes_data (Group first l k rest skips) = false

-- nothing that waits may take data, so that a server drops them
abbrev pub drops_at : List Request → Place → Bool
drops_at [] place = true
drops_at (r ∷ []) Failed = true
drops_at _ place = false

abbrev pub drops_data : Client → Bool
drops_data (Plain s) = drops_at s.queue s.place
drops_data (Copying k rest place) = false
drops_data (Group first l k rest skips) = is_none rest

abbrev pub end_or_drop : Bool → Client → Option Client
end_or_drop b c = if takes_data c then end_data b c else (if drops_data c then Some c else None)

abbrev pub is_over : Place → Bool
is_over Given = true
is_over Withheld = true
is_over BothOut = true
is_over BothDone = true
is_over _ = false

abbrev pub gives_alone : List Request → Place → Bool
gives_alone [] place = if is_over place then false else true
gives_alone (r ∷ rs) place = true

abbrev pub gives_at : List Request → Place → Bool
gives_at [] place = true
gives_at (r ∷ rs) place = gives_alone rs place

-- not where the data are at an end, and nothing was said behind them
abbrev pub gives : Client → Bool
gives (Plain s) = gives_at s.queue s.place
gives (Copying k rest place) = gives_alone rest place
gives (Group first l k rest skips) = true

-- what a client waits for

abbrev pub plain_mode : List Request → Place → Mode
plain_mode [] Skipping = modes.Skipping
plain_mode [] _ = modes.Idle
plain_mode (r ∷ rs) place = mode_in place

abbrev pub group_mode : ℕ → List Request → Bool → Mode
group_mode zero [] skips = if skips then modes.Skipping else modes.Idle
group_mode zero (r ∷ rs) skips = modes.Busy
group_mode (suc l) rest skips = modes.Busy

abbrev pub client_mode : Client → Mode
client_mode (Plain s) = plain_mode s.queue s.place
client_mode (Copying k rest place) = if is_asked place then modes.CopyIn else modes.Busy
client_mode (Group first l k rest skips) = group_mode l rest skips
