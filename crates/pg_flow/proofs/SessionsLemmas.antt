-- What is taken is along the grammar, over a whole session.
use Rattle.std.proofs.Common.{◌≡◌, List, [], ◌∷◌, ◌++◌, inl, inr, refl, sym, ap, subst, append_assoc, append-nil, Bool, true, false, Option, Some, None}
use Rattle.std.specs.Prelude.{ℕ, IfSome, length, if◌then◌else◌}
use Rattle.pg_flow.specs.declared.answer.Answer.{Answer}
use Rattle.pg_flow.specs.declared.answer.Answer.TheVariants.{Failure, Ready}
use Rattle.pg_flow.specs.declared.place.Place.{Place}
use Rattle.pg_flow.specs.declared.place.Place.TheVariants.{Asked, Both, BothDone, BothIn, BothOut, Failed, Given, Out, OutDone, Over, Rows, Skipping, Start, Value, Withheld}
use Rattle.pg_flow.specs.declared.request.Request.{Request}
use Rattle.pg_flow.specs.declared.request.Request.TheVariants.{Bind, Call, Close, DescribePortal, DescribeStatement, Execute, Parse, Query, Sync}
use Rattle.pg_flow.specs.declared.table.Next.{Next}
use Rattle.pg_flow.specs.declared.table.Next.TheVariants.{At, Done, Wrong}
use Rattle.pg_flow.specs.Answered.{Answered, Choose, OneOf, Parts}
use Rattle.pg_flow.specs.ClientFlow.{Copying, Plain, all_syncs, copying, hear_plain, is_execute, is_only_execute, is_start, or_copying, say_asked, say_open}
use Rattle.pg_flow.specs.Grammar.{begun, broken, failed, row_set}
use Rattle.pg_flow.specs.Pattern.{Is, Many, Matches, Pattern, Then, none}
use Rattle.pg_flow.specs.Plain.{State, answers, at_open, at_place, ended, ends_ready, failed_at, failed_ready, from_sync, given, heard, heard_by, is_asked, is_copy_in, is_open, is_sync, may_end, resumed, said, said_first, said_to, state, went}
use Rattle.pg_flow.specs.Sessions.{Ended, Event, Got, IsTaken, Sent, answers_in, as_plain, requests, run, steps}
use Rattle.pg_flow.specs.Table.{next_of}
use Rattle.pg_flow.proofs.PatternLemmas.{Leads, both, in_first, past_none}
use Rattle.pg_flow.proofs.DeriveLemmas.{derived, underive}
use Rattle.pg_flow.proofs.RestLemmas.{both_cut, copies_cut, cut, done_cut, rest, row_sets}
use Rattle.pg_flow.proofs.TableLemmas.{Follows, follows}

-- what may still come, where later_on requests are said
abbrev pub After : List Request → Place → List Request → List Answer → Type 0
After [] Skipping later_on ms = Answered later_on true ms
After [] _ later_on ms = Answered later_on false ms
After (r ∷ rs) place later_on ms = OneOf (ends_ready r) (rest place r) (cut place r) (Answered (rs ++ later_on) false) (Answered (rs ++ later_on) true) ms

from_start : (qs later_on : List Request) (ms : List Answer) → After qs Start later_on ms → Answered (qs ++ later_on) false ms
from_start [] later_on ms h = h
from_start (q ∷ qs) later_on ms h = h

from_resumed : (rs later_on : List Request) (ms : List Answer) → After (resumed (from_sync rs)).queue (resumed (from_sync rs)).place later_on ms → Answered (rs ++ later_on) true ms
from_resumed [] later_on ms h = h
from_resumed (Sync ∷ rs) later_on ms h = h
from_resumed (Query ∷ rs) later_on ms h = from_resumed rs later_on ms h
from_resumed (Call ∷ rs) later_on ms h = from_resumed rs later_on ms h
from_resumed (Parse ∷ rs) later_on ms h = from_resumed rs later_on ms h
from_resumed (Bind ∷ rs) later_on ms h = from_resumed rs later_on ms h
from_resumed (DescribeStatement ∷ rs) later_on ms h = from_resumed rs later_on ms h
from_resumed (DescribePortal ∷ rs) later_on ms h = from_resumed rs later_on ms h
from_resumed (Execute ∷ rs) later_on ms h = from_resumed rs later_on ms h
from_resumed (Close ∷ rs) later_on ms h = from_resumed rs later_on ms h

-- a request is said

skipped : (r : Request) (later_on : List Request) (ms : List Answer) → After (said_first Skipping r).queue (said_first Skipping r).place later_on ms → Answered (r ∷ later_on) true ms
skipped Sync later_on ms h = h
skipped _ later_on ms h = h

said_step : (qs : List Request) (place : Place) (r : Request) (later_on : List Request) (ms : List Answer) →
    After (said_to qs place r).queue (said_to qs place r).place later_on ms → After qs place (r ∷ later_on) ms
said_step [] Skipping r later_on ms h = skipped r later_on ms h
said_step [] _ r later_on ms h = h
said_step (q ∷ qs) place r later_on ms h =
    subst (λ (l : List Request). OneOf (ends_ready q) (rest place q) (cut place q) (Answered l false) (Answered l true) ms) (append_assoc qs (r ∷ []) later_on) h

-- an answer is heard

one_done : (b : Bool) (m : Answer) (p c : Pattern) (P Q : List Answer → Type 0) (ms : List Answer) → Matches p (m ∷ []) → P ms → OneOf b p c P Q (m ∷ ms)
one_done true m p c P Q ms h k = (m ∷ [], ms, refl, h, k)
one_done false m p c P Q ms h k = inl (m ∷ [], ms, refl, h, k)

in_parts : (m : Answer) (p' p : Pattern) (P : List Answer → Type 0) (ms : List Answer) → Leads m p' p → Parts p' P ms → Parts p P (m ∷ ms)
in_parts m p' p P ms f (a, b, e, h, k) = (m ∷ a, b, ap (λ (v : List Answer). m ∷ v) e, f a h, k)

one_step : (b : Bool) (m : Answer) (p' p c' c : Pattern) (P Q : List Answer → Type 0) (ms : List Answer) →
    Leads m p' p → Choose b (Unit {0}) (Leads m c' c) → OneOf b p' c' P Q ms → OneOf b p c P Q (m ∷ ms)
one_step true m p' p c' c P Q ms f g h = in_parts m p' p P ms f h
one_step false m p' p c' c P Q ms f g h =
    both (in_parts m p' p P ms f) (in_parts m (Then c' (Is Failure)) (Then c (Is Failure)) Q ms (in_first m c' c (Is Failure) g)) h

leads : (m : Answer) (p' p : Pattern) → ((w : List Answer) → Matches p' w → Matches (derived m p) w) → Leads m p' p
leads m p' p f w h = underive m p w (f w h)

leads_if : (b : Bool) (m : Answer) (c' c : Pattern) → Choose b (Unit {0}) ((w : List Answer) → Matches c' w → Matches (derived m c) w) → Choose b (Unit {0}) (Leads m c' c)
leads_if true m c' c g = tt
leads_if false m c' c g = leads m c' c g

-- from the state to go on with to the one before
abbrev Goes : Option State → List Request → Place → List Request → List Answer → List Answer → Type 0
Goes o qs place later_on ms before = IfSome o (λ s. After s.queue s.place later_on ms → After qs place later_on before)

open_step : (p : Place) (r : Request) (place : Place) (m : Answer) (rs later_on : List Request) (ms : List Answer) → is_open p ≡ true →
    Follows r place m (At p) → Goes (at_open p r rs) (r ∷ rs) place later_on ms (m ∷ ms)
open_step p r place m [] later_on ms e (f, g) =
    λ h. one_step (ends_ready r) m (rest p r) (rest place r) (cut p r) (cut place r) (Answered later_on false) (Answered later_on true) ms (leads m (rest p r) (rest place r) f)
    (leads_if (ends_ready r) m (cut p r) (cut place r) g) h
open_step p r place m (q ∷ qs) later_on ms e k = tt

place_step : (p : Place) (r : Request) (place : Place) (m : Answer) (rs later_on : List Request) (ms : List Answer) →
    Follows r place m (At p) → Goes (at_place p r rs) (r ∷ rs) place later_on ms (m ∷ ms)
place_step Asked r place m rs later_on ms h = open_step Asked r place m rs later_on ms refl h
place_step Both r place m rs later_on ms h = open_step Both r place m rs later_on ms refl h
place_step BothIn r place m rs later_on ms h = open_step BothIn r place m rs later_on ms refl h
place_step p r place m rs later_on ms (f, g) =
    λ h. one_step (ends_ready r) m (rest p r) (rest place r) (cut p r) (cut place r) (Answered (rs ++ later_on) false) (Answered (rs ++ later_on) true) ms
    (leads m (rest p r) (rest place r) f) (leads_if (ends_ready r) m (cut p r) (cut place r) g) h

went_step : (n : Next) (r : Request) (place : Place) (m : Answer) (rs later_on : List Request) (ms : List Answer) →
    Follows r place m n → Goes (went n r rs) (r ∷ rs) place later_on ms (m ∷ ms)
went_step (At p) r place m rs later_on ms h = place_step p r place m rs later_on ms h
went_step Done r place m rs later_on ms (f, g) = λ k. one_done (ends_ready r) m (rest place r) (cut place r) (Answered (rs ++ later_on) false) (Answered (rs ++ later_on) true) ms (underive m (rest place r) [] (f [] refl)) (from_start rs later_on ms k)
went_step Wrong r place m rs later_on ms h = tt

-- an error is heard

abbrev Fails : Place → Request → Type 0
Fails Failed r = Unit {0}
Fails place r = Leads Failure (Is Ready) (rest place r)

to_failed : Leads Failure (Is Ready) failed
to_failed w h = (Failure ∷ [], w, refl, refl, h)

query_fails : (place : Place) → Fails place Query
query_fails Start = λ w h. inr (past_none broken failed (Failure ∷ w) (inl none) (to_failed w h))
query_fails Over = λ w h. ([], Failure ∷ w, refl, none, inr (past_none broken failed (Failure ∷ w) (inl none) (to_failed w h)))
query_fails Rows = λ w h. inr (past_none row_sets failed (Failure ∷ w) ([], [], refl, none, none) (to_failed w h))
query_fails Out = λ w h. inr (past_none copies_cut failed (Failure ∷ w) (inr (inl none)) (to_failed w h))
query_fails OutDone = λ w h. inr (past_none done_cut failed (Failure ∷ w) (inr none) (to_failed w h))
query_fails Both = λ w h. inr (past_none both_cut failed (Failure ∷ w) (inl none) (to_failed w h))
query_fails BothOut = λ w h. inr (past_none both_cut failed (Failure ∷ w) (inl none) (to_failed w h))
query_fails BothIn = λ w h. inr (past_none (Many row_set) failed (Failure ∷ w) none (to_failed w h))
query_fails BothDone = λ w h. inr (past_none (Many row_set) failed (Failure ∷ w) none (to_failed w h))
query_fails Asked = λ w h. inr (to_failed w h)
query_fails Given = λ w h. inr (to_failed w h)
query_fails Withheld = λ w h. inr (to_failed w h)
query_fails Failed = tt
query_fails _ = to_failed

call_fails : (place : Place) → Fails place Call
call_fails Start = λ w h. inr (to_failed w h)
call_fails Value = λ w h. inr (to_failed w h)
call_fails Failed = tt
call_fails _ = to_failed

sync_fails : (place : Place) → Fails place Sync
sync_fails Start = λ w h. inr (to_failed w h)
sync_fails Failed = tt
sync_fails _ = to_failed

ready_step : (place : Place) (r : Request) (rs later_on : List Request) (ms : List Answer) → ends_ready r ≡ true →
    Fails place r → Goes (failed_ready place r rs) (r ∷ rs) place later_on ms (Failure ∷ ms)
ready_step Failed r rs later_on ms e f = tt
ready_step place r rs later_on ms e f =
    λ h. subst (λ (b : Bool). OneOf b (rest place r) (cut place r) (Answered (rs ++ later_on) false) (Answered (rs ++ later_on) true) (Failure ∷ ms)) (sym e)
    (in_parts Failure (Is Ready) (rest place r) (Answered (rs ++ later_on) false) ms f
    (subst (λ (b : Bool). OneOf b (Is Ready) (cut Failed r) (Answered (rs ++ later_on) false) (Answered (rs ++ later_on) true) ms) e h))

nothing_begun : (r : Request) → Matches (begun r) []
nothing_begun DescribeStatement = inl refl
nothing_begun Execute = inl none
nothing_begun _ = refl

nothing_cut : (place : Place) (r : Request) → Matches (cut place r) []
nothing_cut Start r = nothing_begun r
nothing_cut Rows r = none
nothing_cut Out r = inl none
nothing_cut _ r = refl

extended_step : (r : Request) (place : Place) (rs later_on : List Request) (ms : List Answer) → ends_ready r ≡ false →
    After (resumed (from_sync rs)).queue (resumed (from_sync rs)).place later_on ms → After (r ∷ rs) place later_on (Failure ∷ ms)
extended_step r place rs later_on ms e h =
    subst (λ (b : Bool). OneOf b (rest place r) (cut place r) (Answered (rs ++ later_on) false) (Answered (rs ++ later_on) true) (Failure ∷ ms)) (sym e)
    (inr (Failure ∷ [], ms, refl, ([], Failure ∷ [], refl, nothing_cut place r, refl), from_resumed rs later_on ms h))

failed_step : (r : Request) (place : Place) (rs later_on : List Request) (ms : List Answer) → Goes (failed_at r place rs) (r ∷ rs) place later_on ms (Failure ∷ ms)
failed_step Query place rs later_on ms = ready_step place Query rs later_on ms refl (query_fails place)
failed_step Call place rs later_on ms = ready_step place Call rs later_on ms refl (call_fails place)
failed_step Sync place rs later_on ms = ready_step place Sync rs later_on ms refl (sync_fails place)
failed_step Parse place rs later_on ms = extended_step Parse place rs later_on ms refl
failed_step Bind place rs later_on ms = extended_step Bind place rs later_on ms refl
failed_step DescribeStatement place rs later_on ms = extended_step DescribeStatement place rs later_on ms refl
failed_step DescribePortal place rs later_on ms = extended_step DescribePortal place rs later_on ms refl
failed_step Execute place rs later_on ms = extended_step Execute place rs later_on ms refl
failed_step Close place rs later_on ms = extended_step Close place rs later_on ms refl

answer_step : (m : Answer) (r : Request) (place : Place) (rs later_on : List Request) (ms : List Answer) → Goes (answers m r place rs) (r ∷ rs) place later_on ms (m ∷ ms)
answer_step Failure r place rs later_on ms = failed_step r place rs later_on ms
answer_step m r place rs later_on ms = went_step (next_of r place m) r place m rs later_on ms (follows r place m)

heard_step : (m : Answer) (qs : List Request) (place : Place) (later_on : List Request) (ms : List Answer) → Goes (heard_by qs place m) qs place later_on ms (m ∷ ms)
heard_step m [] place later_on ms = tt
heard_step m (r ∷ rs) place later_on ms = answer_step m r place rs later_on ms

-- the data of a COPY end

given_step : (b : Bool) (qs : List Request) (place : Place) (later_on : List Request) (ms : List Answer) → Goes (ended b (state qs place)) qs place later_on ms ms
given_step true [] Asked later_on ms = λ h. h
given_step true (r ∷ rs) Asked later_on ms = λ h. h
given_step false [] Asked later_on ms = λ h. h
given_step false (r ∷ rs) Asked later_on ms = λ h. h
given_step true [] Both later_on ms = λ h. h
given_step true (r ∷ rs) Both later_on ms = λ h. h
given_step true [] BothIn later_on ms = λ h. h
given_step true (r ∷ rs) BothIn later_on ms = λ h. h
given_step b qs _ later_on ms = tt

-- what an event makes of a client that has said no Sync early

abbrev pub happens : Event → State → Option State
happens (Sent r) s = if is_open s.place then None else Some (said r s)
happens (Ended b) s = ended b s
happens (Got m) s = heard m s

never_plain : (b d : Bool) (k : ℕ) (place : Place) → as_plain (if b then (if d then Some (Copying k [] place) else None) else None) ≡ None
never_plain true true k place = refl
never_plain true false k place = refl
never_plain false d k place = refl

open_plain : (b : Bool) (qs : List Request) (r : Request) → as_plain (if b then say_asked qs r else None) ≡ None
open_plain true qs r = never_plain (is_sync r) (is_only_execute qs) 0 Asked
open_plain false qs r = refl

said_plain : (b : Bool) (qs : List Request) (place : Place) (r : Request) →
    as_plain (if b then say_open qs place r else Some (Plain (said_to qs place r))) ≡ (if b then None else Some (said_to qs place r))
said_plain true qs place r = open_plain (is_asked place) qs r
said_plain false qs place r = refl

ended_plain : (b : Bool) (s : State) → as_plain (if b then Some (Plain s) else None) ≡ (if b then Some s else None)
ended_plain true s = refl
ended_plain false s = refl

copying_plain : (rs : List Request) → as_plain (copying rs) ≡ None
copying_plain [] = refl
copying_plain (r ∷ rs) = never_plain true (all_syncs (r ∷ rs)) (length rs) Asked

begun_plain : (a b d : Bool) (rs : List Request) → as_plain (if a then (if b then (if d then copying rs else None) else None) else None) ≡ None
begun_plain true true true rs = copying_plain rs
begun_plain true true false rs = refl
begun_plain true false d rs = refl
begun_plain false b d rs = refl

heard_plain : (m : Answer) (r : Request) (place : Place) (rs : List Request) (o : Option State) → as_plain (or_copying m r place rs o) ≡ o
heard_plain m r place rs None = begun_plain (is_copy_in m) (is_execute r) (is_start place) rs
heard_plain m r place rs (Some s) = refl

hears_plain : (m : Answer) (qs : List Request) (place : Place) → as_plain (hear_plain m qs place) ≡ heard_by qs place m
hears_plain m [] place = refl
hears_plain m (r ∷ rs) place = heard_plain m r place rs (answers m r place rs)

pub steps_plain : (e : Event) (s : State) → as_plain (steps e (Plain s)) ≡ happens e s
steps_plain (Sent r) s = said_plain (is_open s.place) s.queue s.place r
steps_plain (Ended b) s = ended_plain (may_end b s.place) (state s.queue (given b s.place))
steps_plain (Got m) s = hears_plain m s.queue s.place

-- a whole session

abbrev Comes : Option State → State → List Request → List Answer → List Request → List Answer → Type 0
Comes o s later_on ms all_requests all_answers = IfSome o (λ t. After t.queue t.place later_on ms → After s.queue s.place all_requests all_answers)

nowhere : (es : List Event) (s : State) (later_on : List Request) (ms : List Answer) (rs : List Request) (all : List Answer) → Comes (run es None) s later_on ms rs all
nowhere [] s later_on ms rs all = tt
nowhere (e ∷ es) s later_on ms rs all = tt

if_some_map : (o : Option State) (P Q : State → Type 0) → ((s : State) → P s → Q s) → IfSome o P → IfSome o Q
if_some_map None P Q f h = tt
if_some_map (Some s) P Q f h = f s h

-- the first event and then the others
then_others : (es : List Event) (o : Option State) (s : State) (later_on : List Request) (ms : List Answer) (rs : List Request) (all : List Answer) →
    ((t : State) → Comes (run es (Some t)) t later_on ms (requests es ++ later_on) (answers_in es ++ ms)) →
    Comes o s (requests es ++ later_on) (answers_in es ++ ms) rs all → Comes (run es o) s later_on ms rs all
then_others es None s later_on ms rs all later first = nowhere es s later_on ms rs all
then_others es (Some t) s later_on ms rs all later first =
    if_some_map (run es (Some t)) (λ u. After u.queue u.place later_on ms → After t.queue t.place (requests es ++ later_on) (answers_in es ++ ms))
    (λ u. After u.queue u.place later_on ms → After s.queue s.place rs all) (λ u f h. first (f h)) (later t)

said_goes : (b : Bool) (r : Request) (s : State) (later_on : List Request) (ms : List Answer) → Comes (if b then None else Some (said r s)) s later_on ms (r ∷ later_on) ms
said_goes true r s later_on ms = tt
said_goes false r s later_on ms = said_step s.queue s.place r later_on ms

happens_goes : (e : Event) (s : State) (later_on : List Request) (ms : List Answer) → Comes (happens e s) s later_on ms (requests (e ∷ []) ++ later_on) (answers_in (e ∷ []) ++ ms)
happens_goes (Sent r) s later_on ms = said_goes (is_open s.place) r s later_on ms
happens_goes (Ended b) s later_on ms = given_step b s.queue s.place later_on ms
happens_goes (Got m) s later_on ms = heard_step m s.queue s.place later_on ms

step_goes : (e : Event) (s : State) (later_on : List Request) (ms : List Answer) → Comes (as_plain (steps e (Plain s))) s later_on ms (requests (e ∷ []) ++ later_on) (answers_in (e ∷ []) ++ ms)
step_goes e s later_on ms =
    subst (λ (o : Option State). Comes o s later_on ms (requests (e ∷ []) ++ later_on) (answers_in (e ∷ []) ++ ms)) (sym (steps_plain e s)) (happens_goes e s later_on ms)

first_request : (e : Event) (es : List Event) (later_on : List Request) → requests (e ∷ []) ++ (requests es ++ later_on) ≡ requests (e ∷ es) ++ later_on
first_request (Sent r) es later_on = refl
first_request (Ended b) es later_on = refl
first_request (Got m) es later_on = refl

first_answer : (e : Event) (es : List Event) (ms : List Answer) → answers_in (e ∷ []) ++ (answers_in es ++ ms) ≡ answers_in (e ∷ es) ++ ms
first_answer (Sent r) es ms = refl
first_answer (Ended b) es ms = refl
first_answer (Got m) es ms = refl

whole_run : (es : List Event) (s : State) (later_on : List Request) (ms : List Answer) → Comes (run es (Some s)) s later_on ms (requests es ++ later_on) (answers_in es ++ ms)
whole_run [] s later_on ms = λ h. h
whole_run (e ∷ es) s later_on ms =
    let rs : List Request = requests es ++ later_on in
    let all : List Answer = answers_in es ++ ms in
    let next : Option State = as_plain (steps e (Plain s)) in
    subst (λ (l : List Request). Comes (run es next) s later_on ms l (answers_in (e ∷ es) ++ ms)) (first_request e es later_on)
    (subst (λ (l : List Answer). Comes (run es next) s later_on ms (requests (e ∷ []) ++ rs) l) (first_answer e es ms)
    (then_others es next s later_on ms (requests (e ∷ []) ++ rs) (answers_in (e ∷ []) ++ all) (λ t. whole_run es t later_on ms) (step_goes e s rs all)))

pub taken_is_answered : (es : List Event) → IsTaken es → Answered (requests es) false (answers_in es)
taken_is_answered es h =
    let start : State = state [] Start in
    let P : Option State → Type 0 = λ o. IfSome o (λ t. After t.queue t.place [] [] → After [] Start (requests es ++ []) (answers_in es ++ [])) in
    let all : After [] Start (requests es ++ []) (answers_in es ++ []) = subst P h (whole_run es start [] []) refl in
    subst (λ (rs : List Request). Answered rs false (answers_in es)) (append-nil (requests es))
    (subst (λ (ms : List Answer). Answered (requests es ++ []) false ms) (append-nil (answers_in es)) all)
