-- Whole sessions from the first ReadyForQuery on, as a client sees them.
use Rattle.std.specs.Prelude.{◌≡◌, List, [], ◌∷◌, Option, Some, None, Bool}
use Rattle.pg_flow.specs.declared.answer.Answer.{Answer}
use Rattle.pg_flow.specs.declared.answer.Answer.TheVariants.{CopyBoth, CopyIn}
use Rattle.pg_flow.specs.declared.place.Place.{Place}
use Rattle.pg_flow.specs.declared.place.Place.TheVariants.{Start}
use Rattle.pg_flow.specs.declared.request.Request.{Request}
use Rattle.pg_flow.specs.ClientFlow.{Client, Plain, end_data, hear, say}
use Rattle.pg_flow.specs.Plain.{State, state}

pub data Event : Type 0 where
  Sent : Request → Event
  Ended : (is_whole : Bool) → Event
  Got : Answer → Event

abbrev pub requests : List Event → List Request
requests [] = []
requests (Sent r ∷ es) = r ∷ requests es
requests (Ended b ∷ es) = requests es
requests (Got m ∷ es) = requests es

abbrev pub answers_in : List Event → List Answer
answers_in [] = []
answers_in (Sent r ∷ es) = answers_in es
answers_in (Ended b ∷ es) = answers_in es
answers_in (Got m ∷ es) = m ∷ answers_in es

-- what a client makes of an event
abbrev pub steps : Event → Client → Option Client
steps (Sent r) c = say r c
steps (Ended b) c = end_data b c
steps (Got m) c = hear 0 m c

-- where no Sync is early
abbrev pub as_plain : Option Client → Option State
as_plain (Some (Plain s)) = Some s
as_plain _ = None

-- what a client makes of a session in which no Sync is early
abbrev pub run : List Event → Option State → Option State
run [] s = s
run (e ∷ es) None = None
run (e ∷ es) (Some s) = run es (as_plain (steps e (Plain s)))

abbrev pub beginning : Option State
beginning = Some (state [] Start)

-- from the beginning of a session, these events are taken, and nothing is left to be answered
abbrev pub IsTaken : List Event → Type 0
IsTaken events = run events beginning ≡ Some (state [] Start)

-- the same, or the server passes over what comes next, up to a Sync
abbrev pub IsTakenWhole : List Event → Type 0
IsTakenWhole events = (place : Place) × (run events beginning ≡ Some (state [] place))

abbrev pub all_said : List Request → List Event
all_said [] = []
all_said (r ∷ rs) = Sent r ∷ all_said rs

abbrev pub all_heard : List Answer → List Event
all_heard [] = []
all_heard (m ∷ ms) = Got m ∷ all_heard ms

-- so is some session, in which the client says these and hears these
abbrev pub IsTakenInTurn : List Request → List Answer → Type 0
IsTakenInTurn said heard = (events : List Event) × (requests events ≡ said) × (answers_in events ≡ heard) × IsTakenWhole events

-- no COPY asks for data
abbrev pub AsksForNone : List Answer → Type 0
AsksForNone [] = Unit {0}
AsksForNone (CopyIn ∷ ms) = ⊥
AsksForNone (CopyBoth ∷ ms) = ⊥
AsksForNone (_ ∷ ms) = AsksForNone ms
