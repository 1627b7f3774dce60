-- A client takes all that a server's automaton allowed, and as an answer to the same request.
use Rattle.std.proofs.Common.{◌≡◌, List, [], ◌∷◌, ◌++◌, ◌⊎◌, inl, inr, refl, sym, ap, ◌∙◌, subst, append_assoc, append-nil, Bool, true, false, Option, Some, None}
use Rattle.std.specs.Prelude.{IfSome, if◌then◌else◌}
use Rattle.pg_flow.specs.declared.answer.Answer.{Answer}
use Rattle.pg_flow.specs.declared.answer.Answer.TheVariants.{BindComplete, CloseComplete, CommandComplete, CopyBoth, CopyData, CopyDone, CopyIn, CopyOut, DataRow, EmptyQuery, Failure, FunctionResult, NoData, ParameterDescription, ParseComplete, PortalSuspended, Ready, RowDescription}
use Rattle.pg_flow.specs.declared.place.Place.{Place}
use Rattle.pg_flow.specs.declared.place.Place.TheVariants.{Asked, Both, BothDone, BothIn, BothOut, Failed, Given, Out, OutDone, Over, Parameters, Rows, Skipping, Start, Value}
use Rattle.pg_flow.specs.declared.request.Request.{Request}
use Rattle.pg_flow.specs.declared.request.Request.TheVariants.{Bind, Call, Close, DescribePortal, DescribeStatement, Execute, Parse, Query, Sync}
use Rattle.pg_flow.specs.declared.table.Next.{Next}
use Rattle.pg_flow.specs.declared.table.Next.TheVariants.{At, Done, Wrong}
use Rattle.pg_flow.specs.Plain.{State, answers, at_open, at_place, failed_at, failed_ready, from_sync, given, is_asked, is_open, may_end, opens_data, resumed, said, said_to, state, went}
use Rattle.pg_flow.specs.ServerFlow.{Asks, Ends, Up}
use Rattle.pg_flow.specs.Table.{at_bound, at_call, at_closed, at_complete, at_data, at_data_both, at_description, at_last_rows, at_next_copy, at_next_statement, at_parameters, at_parsed, at_portal, at_portal_rows, at_ready, at_row_sets, at_statement, in_call, in_execute, in_portal, in_query, in_statement, in_sync, next_of, only}

-- a COPY takes data by CopyIn and CopyBoth alone, but for one that takes some

abbrev pub AskedBy : Answer → Next → Type 0
AskedBy m (At Asked) = opens_data m ≡ true
AskedBy m (At Both) = opens_data m ≡ true
AskedBy m (At BothIn) = opens_data m ≡ true
AskedBy m _ = Unit {0}

pub impossible : {A : Type 0} → false ≡ true → A
impossible e = cc

pub by_statement : (m : Answer) → AskedBy m (at_statement m)
by_statement CopyIn = refl
by_statement CopyBoth = refl
by_statement RowDescription = tt
by_statement CommandComplete = tt
by_statement EmptyQuery = tt
by_statement CopyOut = tt
by_statement _ = tt

pub by_next_statement : (m : Answer) → AskedBy m (at_next_statement m)
by_next_statement Ready = tt
by_next_statement m = by_statement m

pub by_row_sets : (m : Answer) → AskedBy m (at_row_sets m)
by_row_sets RowDescription = tt
by_row_sets DataRow = tt
by_row_sets CommandComplete = tt
by_row_sets _ = tt

pub by_data : (m : Answer) → AskedBy m (at_data m)
by_data CopyData = tt
by_data CopyDone = tt
by_data _ = tt

pub by_over : (m : Answer) → AskedBy m (at_complete (At Over) m)
by_over CommandComplete = tt
by_over _ = tt

pub by_done : (m : Answer) → AskedBy m (at_complete Done m)
by_done CommandComplete = tt
by_done _ = tt

pub by_ready : (m : Answer) → AskedBy m (at_ready m)
by_ready Ready = tt
by_ready _ = tt

pub by_last_rows : (m : Answer) → AskedBy m (at_last_rows m)
by_last_rows RowDescription = tt
by_last_rows CommandComplete = tt
by_last_rows _ = tt

pub by_next_copy : (m : Answer) → AskedBy m (at_next_copy m)
by_next_copy CopyOut = tt
by_next_copy m = by_last_rows m

pub by_data_both : (m : Answer) → AskedBy m (at_data_both BothOut BothDone m)
by_data_both CopyData = tt
by_data_both CopyDone = tt
by_data_both _ = tt

pub by_query : (place : Place) (m : Answer) → is_open place ≡ false → AskedBy m (in_query place m)
by_query Start m e = by_statement m
by_query Over m e = by_next_statement m
by_query Rows m e = by_row_sets m
by_query Out m e = by_data m
by_query OutDone m e = by_next_copy m
by_query Given m e = by_over m
by_query Both m e = impossible (sym e)
by_query BothOut m e = by_data_both m
by_query BothDone m e = by_last_rows m
by_query Failed m e = by_ready m
by_query _ m e = tt

pub by_portal : (m : Answer) → AskedBy m (at_portal m)
by_portal CopyIn = refl
by_portal DataRow = tt
by_portal CommandComplete = tt
by_portal PortalSuspended = tt
by_portal EmptyQuery = tt
by_portal CopyOut = tt
by_portal _ = tt

pub by_portal_rows : (m : Answer) → AskedBy m (at_portal_rows m)
by_portal_rows DataRow = tt
by_portal_rows CommandComplete = tt
by_portal_rows PortalSuspended = tt
by_portal_rows _ = tt

pub by_execute : (place : Place) (m : Answer) → AskedBy m (in_execute place m)
by_execute Start m = by_portal m
by_execute Rows m = by_portal_rows m
by_execute Out m = by_data m
by_execute OutDone m = by_done m
by_execute Given m = by_done m
by_execute _ m = tt

pub by_call : (m : Answer) → AskedBy m (at_call m)
by_call FunctionResult = tt
by_call _ = tt

pub by_calls : (place : Place) (m : Answer) → AskedBy m (in_call place m)
by_calls Start m = by_call m
by_calls Value m = by_ready m
by_calls Failed m = by_ready m
by_calls _ m = tt

pub by_sync : (place : Place) (m : Answer) → AskedBy m (in_sync place m)
by_sync Start m = by_ready m
by_sync Failed m = by_ready m
by_sync _ m = tt

pub by_description : (m : Answer) → AskedBy m (at_description m)
by_description RowDescription = tt
by_description NoData = tt
by_description _ = tt

pub by_parameters : (m : Answer) → AskedBy m (at_parameters m)
by_parameters ParameterDescription = tt
by_parameters _ = tt

pub by_describe : (place : Place) (m : Answer) → AskedBy m (in_statement place m)
by_describe Start m = by_parameters m
by_describe Parameters m = by_description m
by_describe _ m = tt

pub by_portals : (place : Place) (m : Answer) → AskedBy m (in_portal place m)
by_portals Start m = by_description m
by_portals _ m = tt

pub by_parsed : (m : Answer) → AskedBy m (at_parsed m)
by_parsed ParseComplete = tt
by_parsed _ = tt

pub by_bound : (m : Answer) → AskedBy m (at_bound m)
by_bound BindComplete = tt
by_bound _ = tt

pub by_closed : (m : Answer) → AskedBy m (at_closed m)
by_closed CloseComplete = tt
by_closed _ = tt

pub by_only : (place : Place) (m : Answer) (n : Next) → AskedBy m n → AskedBy m (only n place)
by_only Start m n h = h
by_only _ m n h = tt

pub asked_by : (r : Request) (place : Place) (m : Answer) → is_open place ≡ false → AskedBy m (next_of r place m)
asked_by Query place m e = by_query place m e
asked_by Call place m e = by_calls place m
asked_by Parse place m e = by_only place m (at_parsed m) (by_parsed m)
asked_by Bind place m e = by_only place m (at_bound m) (by_bound m)
asked_by DescribeStatement place m e = by_describe place m
asked_by DescribePortal place m e = by_portals place m
asked_by Execute place m e = by_execute place m
asked_by Close place m e = by_only place m (at_closed m) (by_closed m)
asked_by Sync place m e = by_sync place m

-- requests that are said one after another

abbrev pub push : Up → State → State
push (Asks r) s = said r s
push (Ends is_whole) s = state s.queue (given is_whole s.place)

abbrev pub pushes_up : List Up → State → State
pushes_up [] s = s
pushes_up (u ∷ p) s = pushes_up p (push u s)

abbrev pub asks : List Up → List Request
asks [] = []
asks (Asks r ∷ p) = r ∷ asks p
asks (Ends b ∷ p) = asks p

abbrev pub placed : List Up → Place → Place
placed [] place = place
placed (Asks r ∷ p) place = placed p place
placed (Ends b ∷ p) place = placed p (given b place)

abbrev pub has_end : List Up → Bool
has_end [] = false
has_end (Asks r ∷ p) = has_end p
has_end (Ends b ∷ p) = true

pub given_not : (b : Bool) (place : Place) → is_open place ≡ false → given b place ≡ place
given_not b Asked e = impossible (sym e)
given_not b Both e = impossible (sym e)
given_not b BothIn e = impossible (sym e)
given_not b _ e = refl

pub placed_not : (p : List Up) (place : Place) → is_open place ≡ false → placed p place ≡ place
placed_not [] place e = refl
placed_not (Asks r ∷ p) place e = placed_not p place e
placed_not (Ends b ∷ p) place e = ap (placed p) (given_not b place e) ∙ placed_not p place e

pub up_behind : (p : List Up) (r : Request) (qs : List Request) (place : Place) → pushes_up p (state (r ∷ qs) place) ≡ state (r ∷ (qs ++ asks p)) (placed p place)
up_behind [] r qs place = ap (λ (l : List Request). state (r ∷ l) place) (sym (append-nil qs))
up_behind (Asks x ∷ p) r qs place = up_behind p r (qs ++ x ∷ []) place ∙ ap (λ (l : List Request). state (r ∷ l) (placed p place)) (append_assoc qs (x ∷ []) (asks p))
up_behind (Ends b ∷ p) r qs place = up_behind p r qs (given b place)

pub up_still : (p : List Up) (r : Request) (place : Place) → is_open place ≡ false → pushes_up p (state (r ∷ []) place) ≡ state (r ∷ asks p) place
up_still p r place e = up_behind p r [] place ∙ ap (λ (q : Place). state (r ∷ asks p) q) (placed_not p place e)

pub up_idle : (p : List Up) → pushes_up p (state [] Start) ≡ state (asks p) Start
up_idle [] = refl
up_idle (Asks r ∷ p) = up_still p r Start refl
up_idle (Ends b ∷ p) = up_idle p

pub up_skipping : (p : List Up) → pushes_up p (state [] Skipping) ≡ resumed (from_sync (asks p))
up_skipping [] = refl
up_skipping (Asks Sync ∷ p) = up_still p Sync Start refl
up_skipping (Asks Query ∷ p) = up_skipping p
up_skipping (Asks Call ∷ p) = up_skipping p
up_skipping (Asks Parse ∷ p) = up_skipping p
up_skipping (Asks Bind ∷ p) = up_skipping p
up_skipping (Asks DescribeStatement ∷ p) = up_skipping p
up_skipping (Asks DescribePortal ∷ p) = up_skipping p
up_skipping (Asks Execute ∷ p) = up_skipping p
up_skipping (Asks Close ∷ p) = up_skipping p
up_skipping (Ends b ∷ p) = up_skipping p

-- what a server may say to one request, a client takes whatever it has said behind it

-- where data are to be said, nothing was said behind
abbrev pub Alone : State → List Up → Type 0
Alone s p = is_open s.place ≡ true → p ≡ []

abbrev pub Takes_it : List Up → Answer → Option State → State → Type 0
Takes_it p m o s = ((o ≡ Some (pushes_up p s)) × Alone (pushes_up p s) p) ⊎ ((o ≡ None) × (opens_data m ≡ true))

abbrev pub Clean : List Up → Next → Type 0
Clean p (At Asked) = has_end p ≡ false
Clean p (At Both) = has_end p ≡ false
Clean p (At BothIn) = has_end p ≡ false
Clean p _ = Unit {0}

pub never_asked : (s t : State) (p : List Up) → s ≡ t → is_open t.place ≡ false → Alone s p
never_asked s t p e f = λ h. impossible (sym f ∙ sym (ap (λ (u : State). is_open u.place) e) ∙ h)

pub taken_as : (o : Option State) (s t : State) (p : List Up) (m : Answer) → pushes_up p s ≡ t → o ≡ Some t → is_open t.place ≡ false → Takes_it p m o s
taken_as o s t p m e f g = inl (f ∙ ap Some (sym e), never_asked (pushes_up p s) t p e g)

pub open_taken : (q : Place) (r : Request) (m : Answer) (p : List Up) → opens_data m ≡ true → has_end p ≡ false → IfSome (at_open q r []) (Takes_it p m (at_open q r (asks p)))
open_taken q r m [] h k = inl (refl, (λ _. refl))
open_taken q r m (Asks x ∷ p) h k = inr (refl, h)
open_taken q r m (Ends b ∷ p) h k = impossible (sym k)

pub place_taken : (q : Place) (r : Request) (m : Answer) (p : List Up) → AskedBy m (At q) → Clean p (At q) → IfSome (at_place q r []) (Takes_it p m (at_place q r (asks p)))
place_taken Asked r m p h k = open_taken Asked r m p h k
place_taken Both r m p h k = open_taken Both r m p h k
place_taken BothIn r m p h k = open_taken BothIn r m p h k
place_taken q r m p h k = taken_as (Some (state (r ∷ asks p) q)) (state (r ∷ []) q) (state (r ∷ asks p) q) p m (up_still p r q refl) refl refl

pub went_taken : (n : Next) (r : Request) (m : Answer) (p : List Up) → AskedBy m n → Clean p n → IfSome (went n r []) (Takes_it p m (went n r (asks p)))
went_taken (At q) r m p h k = place_taken q r m p h k
went_taken Done r m p h k = taken_as (Some (state (asks p) Start)) (state [] Start) (state (asks p) Start) p m (up_idle p) refl refl
went_taken Wrong r m p h k = tt

abbrev pub is_failed : Place → Bool
is_failed Failed = true
is_failed _ = false

pub given_fails : (b : Bool) (place : Place) → is_failed place ≡ false → is_failed (given b place) ≡ false
given_fails true Asked e = refl
given_fails false Asked e = refl
given_fails true Both e = refl
given_fails false Both e = refl
given_fails true BothIn e = refl
given_fails false BothIn e = refl
given_fails b _ e = e

pub fails : (p : List Up) (place : Place) (r : Request) (rs : List Request) → is_failed place ≡ false → failed_ready (placed p place) r rs ≡ Some (state (r ∷ rs) Failed)
fails [] Failed r rs e = impossible (sym e)
fails [] _ r rs e = refl
fails (Asks x ∷ p) place r rs e = fails p place r rs e
fails (Ends b ∷ p) place r rs e = fails p (given b place) r rs (given_fails b place e)

pub ready_taken : (place : Place) (r : Request) (p : List Up) → IfSome (failed_ready place r []) (Takes_it p Failure (failed_ready (placed p place) r (asks p)))
ready_taken Failed r p = tt
ready_taken place r p =
    taken_as (failed_ready (placed p place) r (asks p)) (state (r ∷ []) Failed) (state (r ∷ asks p) Failed) p Failure (up_still p r Failed refl) (fails p place r (asks p) refl) refl

pub resumed_not : (qs : List Request) → is_open (resumed qs).place ≡ false
resumed_not [] = refl
resumed_not (q ∷ qs) = refl

pub skips_taken : (p : List Up) → Takes_it p Failure (Some (resumed (from_sync (asks p)))) (state [] Skipping)
skips_taken p = taken_as (Some (resumed (from_sync (asks p)))) (state [] Skipping) (resumed (from_sync (asks p))) p Failure (up_skipping p) refl (resumed_not (from_sync (asks p)))

pub failed_taken : (r : Request) (place : Place) (p : List Up) → IfSome (failed_at r place []) (Takes_it p Failure (failed_at r (placed p place) (asks p)))
failed_taken Query place p = ready_taken place Query p
failed_taken Call place p = ready_taken place Call p
failed_taken Sync place p = ready_taken place Sync p
failed_taken _ place p = skips_taken p

pub asked_none : (r : Request) (m : Answer) (P : State → Type 0) → IfSome (went (next_of r Asked m) r []) P
asked_none Query m P = tt
asked_none Call m P = tt
asked_none Parse m P = tt
asked_none Bind m P = tt
asked_none DescribeStatement m P = tt
asked_none DescribePortal m P = tt
asked_none Execute m P = tt
asked_none Close m P = tt
asked_none Sync m P = tt

-- while data go both ways, the client may have ended its own
pub both_way : (p : List Up) → (placed p Both ≡ Both) ⊎ ((placed p Both ≡ BothOut) × (placed p BothIn ≡ BothDone))
both_way [] = inl refl
both_way (Asks r ∷ p) = both_way p
both_way (Ends true ∷ p) = inr (placed_not p BothOut refl, placed_not p BothDone refl)
both_way (Ends false ∷ p) = both_way p

pub both_alone : (r : Request) (p : List Up) → Alone (pushes_up p (state (r ∷ []) Both)) p → placed p Both ≡ Both → p ≡ []
both_alone r p a e = a (ap (λ (s : State). is_open s.place) (up_behind p r [] Both) ∙ ap is_open e)

abbrev pub Both_taken : Answer → List Up → Type 0
Both_taken m p = IfSome (went (in_query Both m) Query []) (Takes_it p m (went (in_query (placed p Both) m) Query (asks p)))

pub both_first : (m : Answer) → Both_taken m []
both_first CopyData = inl (refl, (λ _. refl))
both_first CopyDone = inl (refl, (λ _. refl))
both_first _ = tt

abbrev pub Out_taken : Answer → List Up → Place → Type 0
Out_taken m p q = IfSome (went (in_query Both m) Query []) (Takes_it p m (went (in_query q m) Query (asks p)))

pub both_out : (m : Answer) (p : List Up) → placed p Both ≡ BothOut → placed p BothIn ≡ BothDone → Out_taken m p BothOut
both_out CopyData p e f =
    taken_as (Some (state (Query ∷ asks p) BothOut)) (state (Query ∷ []) Both) (state (Query ∷ asks p) BothOut) p CopyData
    (up_behind p Query [] Both ∙ ap (λ (q : Place). state (Query ∷ asks p) q) e) refl refl
both_out CopyDone p e f =
    taken_as (Some (state (Query ∷ asks p) BothDone)) (state (Query ∷ []) BothIn) (state (Query ∷ asks p) BothDone) p CopyDone
    (up_behind p Query [] BothIn ∙ ap (λ (q : Place). state (Query ∷ asks p) q) f) refl refl
both_out _ p e f = tt

pub both_by : (m : Answer) (p : List Up) → Alone (pushes_up p (state (Query ∷ []) Both)) p → (placed p Both ≡ Both) ⊎ ((placed p Both ≡ BothOut) × (placed p BothIn ≡ BothDone)) → Both_taken m p
both_by m p a (inl e) = subst (Both_taken m) (sym (both_alone Query p a e)) (both_first m)
both_by m p a (inr (e, f)) = subst (Out_taken m p) (sym e) (both_out m p e f)

pub both_taken : (r : Request) (m : Answer) (p : List Up) → Alone (pushes_up p (state (r ∷ []) Both)) p →
    IfSome (went (next_of r Both m) r []) (Takes_it p m (went (next_of r (placed p Both) m) r (asks p)))
both_taken Query m p a = both_by m p a (both_way p)
both_taken Call m p a = tt
both_taken Parse m p a = tt
both_taken Bind m p a = tt
both_taken DescribeStatement m p a = tt
both_taken DescribePortal m p a = tt
both_taken Execute m p a = tt
both_taken Close m p a = tt
both_taken Sync m p a = tt

pub in_none : (r : Request) (m : Answer) (P : State → Type 0) → IfSome (went (next_of r BothIn m) r []) P
in_none Query m P = tt
in_none Call m P = tt
in_none Parse m P = tt
in_none Bind m P = tt
in_none DescribeStatement m P = tt
in_none DescribePortal m P = tt
in_none Execute m P = tt
in_none Close m P = tt
in_none Sync m P = tt

pub still_taken : (place : Place) (r : Request) (m : Answer) (p : List Up) → is_open place ≡ false → Clean p (next_of r place m) →
    IfSome (went (next_of r place m) r []) (Takes_it p m (went (next_of r (placed p place) m) r (asks p)))
still_taken place r m p e k =
    let P : Place → Type 0 = λ q. IfSome (went (next_of r place m) r []) (Takes_it p m (went (next_of r q m) r (asks p))) in
    subst P (sym (placed_not p place e)) (went_taken (next_of r place m) r m p (asked_by r place m e) k)

pub next_taken : (place : Place) (r : Request) (m : Answer) (p : List Up) → (is_open place ≡ false → Clean p (next_of r place m)) → Alone (pushes_up p (state (r ∷ []) place)) p →
    IfSome (went (next_of r place m) r []) (Takes_it p m (went (next_of r (placed p place) m) r (asks p)))
next_taken Asked r m p k a = asked_none r m (Takes_it p m (went (next_of r (placed p Asked) m) r (asks p)))
next_taken Both r m p k a = both_taken r m p a
next_taken BothIn r m p k a = in_none r m (Takes_it p m (went (next_of r (placed p BothIn) m) r (asks p)))
next_taken place r m p k a = still_taken place r m p refl (k refl)

pub answer_taken : (m : Answer) (r : Request) (place : Place) (p : List Up) → (is_open place ≡ false → Clean p (next_of r place m)) → Alone (pushes_up p (state (r ∷ []) place)) p →
    IfSome (answers m r place []) (Takes_it p m (answers m r (placed p place) (asks p)))
answer_taken Failure r place p k a = failed_taken r place p
answer_taken m r place p k a = next_taken place r m p k a

-- an end of data may be on its way that comes to nothing, where the COPY has failed

abbrev pub Late : List Request → Place → Type 0
Late [] place = Unit {0}
Late (r ∷ rs) Asked = Unit {0}
Late (r ∷ rs) Both = Unit {0}
Late (r ∷ rs) BothIn = Unit {0}
Late (r ∷ rs) Failed = Unit {0}
Late (r ∷ rs) _ = ⊥

abbrev pub Stale : List Request → Place → List Up → Type 0
Stale qs place [] = ⊥
Stale qs place (Asks r ∷ p) = ⊥
Stale qs place (Ends b ∷ p) = (has_end p ≡ false) × Late qs place

abbrev pub Tidy : State → List Up → Type 0
Tidy s p = (has_end p ≡ false) ⊎ Stale s.queue s.place p

pub clean_none : (n : Next) (p : List Up) → has_end p ≡ false → Clean p n
clean_none (At Asked) p e = e
clean_none (At Both) p e = e
clean_none (At BothIn) p e = e
clean_none (At _) p e = tt
clean_none Done p e = tt
clean_none Wrong p e = tt

pub ready_clean : (m : Answer) (p : List Up) → Clean p (at_ready m)
ready_clean Ready p = tt
ready_clean _ p = tt

pub failed_clean : (r : Request) (m : Answer) (p : List Up) → Clean p (next_of r Failed m)
failed_clean Query m p = ready_clean m p
failed_clean Call m p = ready_clean m p
failed_clean Sync m p = ready_clean m p
failed_clean Parse m p = tt
failed_clean Bind m p = tt
failed_clean DescribeStatement m p = tt
failed_clean DescribePortal m p = tt
failed_clean Execute m p = tt
failed_clean Close m p = tt

pub late_clean : (r : Request) (place : Place) (m : Answer) (p : List Up) → is_open place ≡ false → Late (r ∷ []) place → Clean p (next_of r place m)
late_clean r Failed m p e h = failed_clean r m p
late_clean r Asked m p e h = impossible (sym e)
late_clean r Both m p e h = impossible (sym e)
late_clean r BothIn m p e h = impossible (sym e)
late_clean r _ m p e h = absurd h

pub stale_clean : (r : Request) (place : Place) (m : Answer) (p : List Up) → is_open place ≡ false → Stale (r ∷ []) place p → Clean p (next_of r place m)
stale_clean r place m [] e h = absurd h
stale_clean r place m (Asks x ∷ p) e h = absurd h
stale_clean r place m (Ends b ∷ p) e h = late_clean r place m (Ends b ∷ p) e h.1

pub tidy_clean : (r : Request) (place : Place) (m : Answer) (p : List Up) → Tidy (state (r ∷ []) place) p → is_open place ≡ false → Clean p (next_of r place m)
tidy_clean r place m p (inl h) e = clean_none (next_of r place m) p h
tidy_clean r place m p (inr h) e = stale_clean r place m p e h

abbrev pub Late_then : Option State → Type 0
Late_then o = IfSome o (λ s. Late s.queue s.place)

pub ready_late : (m : Answer) (r : Request) → Late_then (went (at_ready m) r [])
ready_late Ready r = tt
ready_late _ r = tt

pub fails_late : (r : Request) (place : Place) → Late (r ∷ []) place → Late_then (failed_at r place [])
fails_late Query Failed h = tt
fails_late Call Failed h = tt
fails_late Sync Failed h = tt
fails_late Query _ h = tt
fails_late Call _ h = tt
fails_late Sync _ h = tt
fails_late _ place h = tt

pub failed_late : (r : Request) (m : Answer) → Late_then (went (next_of r Failed m) r [])
failed_late Query m = ready_late m Query
failed_late Call m = ready_late m Call
failed_late Sync m = ready_late m Sync
failed_late Parse m = tt
failed_late Bind m = tt
failed_late DescribeStatement m = tt
failed_late DescribePortal m = tt
failed_late Execute m = tt
failed_late Close m = tt

pub query_both_late : (m : Answer) → Late_then (went (in_query Both m) Query [])
query_both_late CopyData = tt
query_both_late CopyDone = tt
query_both_late _ = tt

pub both_late : (r : Request) (m : Answer) → Late_then (went (next_of r Both m) r [])
both_late Query m = query_both_late m
both_late Call m = tt
both_late Sync m = tt
both_late Parse m = tt
both_late Bind m = tt
both_late DescribeStatement m = tt
both_late DescribePortal m = tt
both_late Execute m = tt
both_late Close m = tt

pub went_late : (r : Request) (place : Place) (m : Answer) → Late (r ∷ []) place → Late_then (went (next_of r place m) r [])
went_late r Failed m h = failed_late r m
went_late r Asked m h = asked_none r m (λ s. Late s.queue s.place)
went_late r Both m h = both_late r m
went_late r BothIn m h = in_none r m (λ s. Late s.queue s.place)
went_late r _ m h = absurd h

pub answer_late : (m : Answer) (r : Request) (place : Place) → Late (r ∷ []) place → Late_then (answers m r place [])
answer_late Failure r place h = fails_late r place h
answer_late m r place h = went_late r place m h

pub stale_some : (o : Option State) (b : Bool) (p : List Up) → has_end p ≡ false → Late_then o → IfSome o (λ s. Stale s.queue s.place (Ends b ∷ p))
stale_some None b p e h = tt
stale_some (Some s) b p e h = (e, h)

pub stale_then : (m : Answer) (r : Request) (place : Place) (p : List Up) → Stale (r ∷ []) place p → IfSome (answers m r place []) (λ s. Stale s.queue s.place p)
stale_then m r place [] h = absurd h
stale_then m r place (Asks x ∷ p) h = absurd h
stale_then m r place (Ends b ∷ p) h = stale_some (answers m r place []) b p h.0 (answer_late m r place h.1)

pub tidy_then : (m : Answer) (r : Request) (place : Place) (p : List Up) (s : State) → answers m r place [] ≡ Some s → Tidy (state (r ∷ []) place) p → Tidy s p
tidy_then m r place p s e (inl h) = inl h
tidy_then m r place p s e (inr h) = inr (let P : Option State → Type 0 = λ o. IfSome o (λ t. Stale t.queue t.place p) in subst P e (stale_then m r place p h))

-- how a server comes from a state to another, with what it takes and what it says
pub pushes_last : (p : List Up) (u : Up) (s : State) → pushes_up (p ++ u ∷ []) s ≡ push u (pushes_up p s)
pushes_last [] u s = refl
pushes_last (v ∷ p) u s = pushes_last p u (push v s)

pub asks_last : (p : List Up) (r : Request) → asks (p ++ Asks r ∷ []) ≡ asks p ++ r ∷ []
asks_last [] r = refl
asks_last (Asks x ∷ p) r = ap (λ (l : List Request). x ∷ l) (asks_last p r)
asks_last (Ends b ∷ p) r = asks_last p r

pub has_end_last : (p : List Up) (r : Request) → has_end (p ++ Asks r ∷ []) ≡ has_end p
has_end_last [] r = refl
has_end_last (Asks x ∷ p) r = has_end_last p r
has_end_last (Ends b ∷ p) r = refl

pub stale_last : (qs : List Request) (place : Place) (p : List Up) (r : Request) → Stale qs place p → Stale qs place (p ++ Asks r ∷ [])
stale_last qs place [] r h = absurd h
stale_last qs place (Asks x ∷ p) r h = absurd h
stale_last qs place (Ends b ∷ p) r h = (has_end_last p r ∙ h.0, h.1)

pub tidy_last : (s : State) (p : List Up) (r : Request) → Tidy s p → Tidy s (p ++ Asks r ∷ [])
tidy_last s p r (inl e) = inl (has_end_last p r ∙ e)
tidy_last s p r (inr h) = inr (stale_last s.queue s.place p r h)

pub said_not : (qs : List Request) (place : Place) (r : Request) → is_open place ≡ false → is_open (said_to qs place r).place ≡ false
said_not [] Skipping Sync e = refl
said_not [] Skipping _ e = refl
said_not [] _ r e = refl
said_not (q ∷ qs) place r e = e

pub given_gone : (b : Bool) (place : Place) → may_end b place ≡ true → is_open (given b place) ≡ false
given_gone true Asked e = refl
given_gone false Asked e = refl
given_gone true Both e = refl
given_gone true BothIn e = refl
given_gone b _ e = impossible e

pub given_asked : (b : Bool) → is_asked (given b Asked) ≡ false
given_asked true = refl
given_asked false = refl

pub ends_open : (b : Bool) (place : Place) → may_end b place ≡ true → is_open place ≡ true
ends_open b Asked e = refl
ends_open b Both e = refl
ends_open b BothIn e = refl
ends_open b _ e = impossible e

pub late_asked : (qs : List Request) (place : Place) → is_open place ≡ true → Late qs place
late_asked [] place e = tt
late_asked (q ∷ qs) Asked e = tt
late_asked (q ∷ qs) Both e = tt
late_asked (q ∷ qs) BothIn e = tt
late_asked (q ∷ qs) _ e = impossible e

pub asks_ends : (p : List Up) (b : Bool) → asks (p ++ Ends b ∷ []) ≡ asks p
asks_ends [] b = refl
asks_ends (Asks x ∷ p) b = ap (λ (l : List Request). x ∷ l) (asks_ends p b)
asks_ends (Ends c ∷ p) b = asks_ends p b
