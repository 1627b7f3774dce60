-- All that the grammar allows is taken.
use Rattle.std.proofs.Common.{◌≡◌, List, [], ◌∷◌, ◌++◌, inl, inr, refl, sym, ap, ◌∙◌, subst, append-nil, append_assoc, Bool, true, false, Option, Some, None}
use Rattle.std.specs.Prelude.{if◌then◌else◌}
use Rattle.pg_flow.specs.declared.answer.Answer.{Answer}
use Rattle.pg_flow.specs.declared.answer.Answer.TheVariants.{CopyBoth, CopyIn, Failure, Ready}
use Rattle.pg_flow.specs.declared.place.Place.{Place}
use Rattle.pg_flow.specs.declared.place.Place.TheVariants.{Asked, Both, BothIn, BothOut, Failed, Given, Skipping, Start}
use Rattle.pg_flow.specs.declared.request.Request.{Request}
use Rattle.pg_flow.specs.declared.request.Request.TheVariants.{Bind, Call, Close, DescribePortal, DescribeStatement, Execute, Parse, Query, Sync}
use Rattle.pg_flow.specs.declared.table.Next.{Next}
use Rattle.pg_flow.specs.declared.table.Next.TheVariants.{At, Done, Wrong}
use Rattle.pg_flow.specs.Answered.{Answered, Choose, OneOf, Parts}
use Rattle.pg_flow.specs.ClientFlow.{Plain}
use Rattle.pg_flow.specs.Pattern.{Is, Matches, Pattern, Then}
use Rattle.pg_flow.specs.Plain.{State, answers, at_place, ends_ready, failed_at, failed_ready, from_sync, is_open, opens_data, resumed, said, said_to, state, went}
use Rattle.pg_flow.specs.Sessions.{AsksForNone, Ended, Event, Got, IsTakenInTurn, IsTakenWhole, Sent, all_heard, all_said, answers_in, as_plain, requests, run, steps}
use Rattle.pg_flow.specs.Table.{next_of}
use Rattle.pg_flow.proofs.DeriveLemmas.{derive, derived, nullable, when_empty}
use Rattle.pg_flow.proofs.PlainLemmas.{AskedBy, asked_by}
use Rattle.pg_flow.proofs.RestLemmas.{cut, rest}
use Rattle.pg_flow.proofs.SessionsLemmas.{After, steps_plain}
use Rattle.pg_flow.proofs.TableExactLemmas.{Fails_to, Leads_to, exact, fails_to, not_over, soon, usual}

impossible : {A : Type 0} → false ≡ true → A
impossible e = cc

-- the first part has the message
Begins : Answer → Pattern → (List Answer → Type 0) → List Answer → Type 0
Begins m p P ms = (a : List Answer) × (b : List Answer) × (ms ≡ a ++ b) × Matches p (m ∷ a) × P b

begins : (m : Answer) (p : Pattern) (P : List Answer → Type 0) (ms : List Answer) → nullable p ≡ false → Parts p P (m ∷ ms) → Begins m p P ms
unfolding Begins
begins m p P ms nul ([], b, e, h, k) = impossible (sym nul ∙ when_empty p h)
begins m p P ms nul (x ∷ a, b, e, h, k) =
    let head : x ≡ m = cc in
    let rest_is : ms ≡ a ++ b = cc in
    let F : Answer → Type 0 = λ y. Matches p (y ∷ a) in
    (a, b, rest_is, subst F head h, k)

parts_on : (m : Answer) (p p' : Pattern) (P : List Answer → Type 0) (ms : List Answer) → ((a : List Answer) → Matches p (m ∷ a) → Matches p' a) → Begins m p P ms → Parts p' P ms
unfolding Begins
parts_on m p p' P ms f (a, b, e, h, k) = (a, b, e, f a h, k)

parts_done : (m : Answer) (p : Pattern) (P : List Answer → Type 0) (ms : List Answer) → ((a : List Answer) → Matches p (m ∷ a) → a ≡ []) → Begins m p P ms → P ms
unfolding Begins
parts_done m p P ms f (a, b, e, h, k) = subst P (sym (e ∙ ap (λ (v : List Answer). v ++ b) (f a h))) k

parts_wrong : (m : Answer) (p : Pattern) (P : List Answer → Type 0) (ms : List Answer) → ((a : List Answer) → Matches p (m ∷ a) → ⊥) → Begins m p P ms → ⊥
unfolding Begins
parts_wrong m p P ms f (a, b, e, h, k) = f a h

never_empty : (c : Pattern) → nullable (Then c (Is Failure)) ≡ false
never_empty c = elim (nullable c) as (λ b. (if b then false else false) ≡ false) [ true ↦ refl | false ↦ refl ]

-- before an error something else came
before_failure : (m : Answer) (c c' : Pattern) → (m ≡ Failure → ⊥) → ((w : List Answer) → Matches (derived m c) w → Matches c' w) →
    (a : List Answer) → Matches (Then c (Is Failure)) (m ∷ a) → Matches (Then c' (Is Failure)) a
before_failure m c c' n g a ([], v, e, h, k) = let same : m ∷ a ≡ Failure ∷ [] = e ∙ k in let is : m ≡ Failure = cc in absurd (n is)
before_failure m c c' n g a (x ∷ u, v, e, h, k) =
    let head : x ≡ m = cc in
    let rest_is : a ≡ u ++ v = cc in
    let F : Answer → Type 0 = λ y. Matches c (y ∷ u) in
    (u, v, rest_is, g u (derive m c u (subst F head h)), k)

not_before : (m : Answer) (c : Pattern) → (m ≡ Failure → ⊥) → ((w : List Answer) → Matches (derived m c) w → ⊥) → (a : List Answer) → Matches (Then c (Is Failure)) (m ∷ a) → ⊥
not_before m c n g a ([], v, e, h, k) = let same : m ∷ a ≡ Failure ∷ [] = e ∙ k in let is : m ≡ Failure = cc in n is
not_before m c n g a (x ∷ u, v, e, h, k) =
    let head : x ≡ m = cc in
    let F : Answer → Type 0 = λ y. Matches c (y ∷ u) in
    g u (derive m c u (subst F head h))

one_at : (b : Bool) (m : Answer) (p p' c c' : Pattern) (P Q : List Answer → Type 0) (ms : List Answer) → (m ≡ Failure → ⊥) → nullable p ≡ false →
    ((w : List Answer) → Matches (derived m p) w → Matches p' w) → Choose b (Unit {0}) ((w : List Answer) → Matches (derived m c) w → Matches c' w) →
    OneOf b p c P Q (m ∷ ms) → OneOf b p' c' P Q ms
one_at true m p p' c c' P Q ms n nul f g h = parts_on m p p' P ms (λ a k. f a (derive m p a k)) (begins m p P ms nul h)
one_at false m p p' c c' P Q ms n nul f g (inl h) = inl (parts_on m p p' P ms (λ a k. f a (derive m p a k)) (begins m p P ms nul h))
one_at false m p p' c c' P Q ms n nul f g (inr h) =
    inr (parts_on m (Then c (Is Failure)) (Then c' (Is Failure)) Q ms (before_failure m c c' n g) (begins m (Then c (Is Failure)) Q ms (never_empty c) h))

one_done : (b : Bool) (m : Answer) (p c : Pattern) (P Q : List Answer → Type 0) (ms : List Answer) → (m ≡ Failure → ⊥) → nullable p ≡ false →
    ((w : List Answer) → Matches (derived m p) w → w ≡ []) → Choose b (Unit {0}) ((w : List Answer) → Matches (derived m c) w → ⊥) →
    OneOf b p c P Q (m ∷ ms) → P ms
one_done true m p c P Q ms n nul f g h = parts_done m p P ms (λ a k. f a (derive m p a k)) (begins m p P ms nul h)
one_done false m p c P Q ms n nul f g (inl h) = parts_done m p P ms (λ a k. f a (derive m p a k)) (begins m p P ms nul h)
one_done false m p c P Q ms n nul f g (inr h) =
    absurd (parts_wrong m (Then c (Is Failure)) Q ms (not_before m c n g) (begins m (Then c (Is Failure)) Q ms (never_empty c) h))

one_wrong : (b : Bool) (m : Answer) (p c : Pattern) (P Q : List Answer → Type 0) (ms : List Answer) → (m ≡ Failure → ⊥) → nullable p ≡ false →
    ((w : List Answer) → Matches (derived m p) w → ⊥) → Choose b (Unit {0}) ((w : List Answer) → Matches (derived m c) w → ⊥) →
    OneOf b p c P Q (m ∷ ms) → ⊥
one_wrong true m p c P Q ms n nul f g h = parts_wrong m p P ms (λ a k. f a (derive m p a k)) (begins m p P ms nul h)
one_wrong false m p c P Q ms n nul f g (inl h) = parts_wrong m p P ms (λ a k. f a (derive m p a k)) (begins m p P ms nul h)
one_wrong false m p c P Q ms n nul f g (inr h) = parts_wrong m (Then c (Is Failure)) Q ms (not_before m c n g) (begins m (Then c (Is Failure)) Q ms (never_empty c) h)

-- the states that a session comes to

abbrev Fit : List Request → Place → Type 0
Fit [] place = Unit {0}
Fit (r ∷ rs) place = usual place r ≡ true

record Goes_on (o : Option State) (ms : List Answer) : Type 0 where
  next : State
  is_next : o ≡ Some next
  fits : Fit next.queue next.place
  allows : After next.queue next.place [] ms

to_start : (qs : List Request) (ms : List Answer) → Answered (qs ++ []) false ms → After qs Start [] ms
to_start [] ms h = h
to_start (q ∷ qs) ms h = h

fit_start : (qs : List Request) → Fit qs Start
fit_start [] = tt
fit_start (q ∷ qs) = refl

to_resumed : (rs : List Request) (ms : List Answer) → Answered (rs ++ []) true ms → After (resumed (from_sync rs)).queue (resumed (from_sync rs)).place [] ms
to_resumed [] ms h = h
to_resumed (Sync ∷ rs) ms h = h
to_resumed (Query ∷ rs) ms h = to_resumed rs ms h
to_resumed (Call ∷ rs) ms h = to_resumed rs ms h
to_resumed (Parse ∷ rs) ms h = to_resumed rs ms h
to_resumed (Bind ∷ rs) ms h = to_resumed rs ms h
to_resumed (DescribeStatement ∷ rs) ms h = to_resumed rs ms h
to_resumed (DescribePortal ∷ rs) ms h = to_resumed rs ms h
to_resumed (Execute ∷ rs) ms h = to_resumed rs ms h
to_resumed (Close ∷ rs) ms h = to_resumed rs ms h

fit_resumed : (qs : List Request) → Fit (resumed qs).queue (resumed qs).place
fit_resumed [] = tt
fit_resumed (q ∷ qs) = refl

-- no COPY asks for data
Never_opens : Answer → Type 0
Never_opens m = opens_data m ≡ true → ⊥

at_on : (p : Place) (r : Request) (place : Place) (m : Answer) (rs : List Request) (ms : List Answer) → (m ≡ Failure → ⊥) → nullable (rest place r) ≡ false →
    AskedBy m (At p) → Never_opens m → Leads_to r place m (soon (At p)) → After (r ∷ rs) place [] (m ∷ ms) → Goes_on (at_place p r rs) ms
unfolding Never_opens
at_on Asked r place m rs ms n nul a never l h = absurd (never a)
at_on Both r place m rs ms n nul a never l h = absurd (never a)
at_on BothIn r place m rs ms n nul a never l h = absurd (never a)
at_on p r place m rs ms n nul a never (f, g, u) h =
    record {
      next = state (r ∷ rs) p;
      is_next = refl;
      fits = u;
      allows = one_at (ends_ready r) m (rest place r) (rest p r) (cut place r) (cut p r) (Answered (rs ++ []) false) (Answered (rs ++ []) true) ms n nul f g h;
    }

went_on : (n : Next) (r : Request) (place : Place) (m : Answer) (rs : List Request) (ms : List Answer) → (m ≡ Failure → ⊥) → nullable (rest place r) ≡ false →
    AskedBy m n → Never_opens m → Leads_to r place m (soon n) → After (r ∷ rs) place [] (m ∷ ms) → Goes_on (went n r rs) ms
went_on (At p) r place m rs ms n nul a never l h = at_on p r place m rs ms n nul a never l h
went_on Done r place m rs ms n nul a never (f, g, u) h =
    record {
      next = state rs Start;
      is_next = refl;
      fits = fit_start rs;
      allows = to_start rs ms (one_done (ends_ready r) m (rest place r) (cut place r) (Answered (rs ++ []) false) (Answered (rs ++ []) true) ms n nul f g h);
    }
went_on Wrong r place m rs ms n nul a never (f, g, u) h =
    absurd (one_wrong (ends_ready r) m (rest place r) (cut place r) (Answered (rs ++ []) false) (Answered (rs ++ []) true) ms n nul f g h)

ready_on : (place : Place) (r : Request) (rs : List Request) (ms : List Answer) → ends_ready r ≡ true → nullable (rest place r) ≡ false → Fails_to true r place →
    Parts (rest place r) (Answered (rs ++ []) false) (Failure ∷ ms) → Goes_on (failed_ready place r rs) ms
ready_on Failed r rs ms e nul f h = absurd (parts_wrong Failure (rest Failed r) (Answered (rs ++ []) false) ms (λ a k. f a (derive Failure (rest Failed r) a k)) (begins Failure (rest Failed r) (Answered (rs ++ []) false) ms nul h))
ready_on place r rs ms e nul f h =
    let P : Bool → Type 0 = λ b. OneOf b (Is Ready) (cut Failed r) (Answered (rs ++ []) false) (Answered (rs ++ []) true) ms in
    record {
      next = state (r ∷ rs) Failed;
      is_next = refl;
      fits = e;
      allows = subst P (sym e) (parts_on Failure (rest place r) (Is Ready) (Answered (rs ++ []) false) ms (λ a k. f a (derive Failure (rest place r) a k)) (begins Failure (rest place r) (Answered (rs ++ []) false) ms nul h));
    }

extended_on : (r : Request) (place : Place) (rs : List Request) (ms : List Answer) → nullable (rest place r) ≡ false → Fails_to false r place →
    OneOf false (rest place r) (cut place r) (Answered (rs ++ []) false) (Answered (rs ++ []) true) (Failure ∷ ms) → Goes_on (Some (resumed (from_sync rs))) ms
extended_on r place rs ms nul (f, g) (inl h) =
    absurd (parts_wrong Failure (rest place r) (Answered (rs ++ []) false) ms (λ a k. f a (derive Failure (rest place r) a k)) (begins Failure (rest place r) (Answered (rs ++ []) false) ms nul h))
extended_on r place rs ms nul (f, g) (inr h) =
    let c : Pattern = Then (cut place r) (Is Failure) in
    record {
      next = resumed (from_sync rs);
      is_next = refl;
      fits = fit_resumed (from_sync rs);
      allows = to_resumed rs ms (parts_done Failure c (Answered (rs ++ []) true) ms (λ a k. g a (derive Failure c a k)) (begins Failure c (Answered (rs ++ []) true) ms (never_empty (cut place r)) h));
    }

failed_on : (r : Request) (place : Place) (rs : List Request) (ms : List Answer) → usual place r ≡ true → After (r ∷ rs) place [] (Failure ∷ ms) → Goes_on (failed_at r place rs) ms
failed_on Query place rs ms e h = ready_on place Query rs ms refl (not_over Query place e) (fails_to Query place e) h
failed_on Call place rs ms e h = ready_on place Call rs ms refl (not_over Call place e) (fails_to Call place e) h
failed_on Sync place rs ms e h = ready_on place Sync rs ms refl (not_over Sync place e) (fails_to Sync place e) h
failed_on Parse place rs ms e h = extended_on Parse place rs ms (not_over Parse place e) (fails_to Parse place e) h
failed_on Bind place rs ms e h = extended_on Bind place rs ms (not_over Bind place e) (fails_to Bind place e) h
failed_on DescribeStatement place rs ms e h = extended_on DescribeStatement place rs ms (not_over DescribeStatement place e) (fails_to DescribeStatement place e) h
failed_on DescribePortal place rs ms e h = extended_on DescribePortal place rs ms (not_over DescribePortal place e) (fails_to DescribePortal place e) h
failed_on Execute place rs ms e h = extended_on Execute place rs ms (not_over Execute place e) (fails_to Execute place e) h
failed_on Close place rs ms e h = extended_on Close place rs ms (not_over Close place e) (fails_to Close place e) h

usual_closed : (r : Request) (place : Place) → usual place r ≡ true → is_open place ≡ false
usual_closed r Asked e = impossible e
usual_closed r Both e = impossible e
usual_closed r BothIn e = impossible e
usual_closed r _ e = refl

never_opens : (m : Answer) (ms : List Answer) → AsksForNone (m ∷ ms) → Never_opens m
unfolding Never_opens
never_opens CopyIn ms h e = h
never_opens CopyBoth ms h e = h
never_opens _ ms h e = impossible e

answer_on : (m : Answer) (r : Request) (place : Place) (rs : List Request) (ms : List Answer) → usual place r ≡ true → AsksForNone (m ∷ ms) →
    After (r ∷ rs) place [] (m ∷ ms) → Goes_on (answers m r place rs) ms
answer_on Failure r place rs ms e none h = failed_on r place rs ms e h
answer_on m r place rs ms e none h =
    went_on (next_of r place m) r place m rs ms (λ f. cc) (not_over r place e) (asked_by r place m (usual_closed r place e)) (never_opens m ms none) (exact r place e m) h

asks_later : (m : Answer) (ms : List Answer) → AsksForNone (m ∷ ms) → AsksForNone ms
asks_later CopyIn ms h = absurd h
asks_later CopyBoth ms h = absurd h
asks_later _ ms h = h

-- nothing is left where nothing comes

idle_only : (place : Place) (m : Answer) (ms : List Answer) → After [] place [] (m ∷ ms) → ⊥
idle_only Skipping m ms h = let bot : ⊥ = cc in bot
idle_only _ m ms h = let bot : ⊥ = cc in bot

no_parts : (p : Pattern) (P : List Answer → Type 0) → nullable p ≡ false → Parts p P [] → ⊥
no_parts p P nul ([], b, e, h, k) = impossible (sym nul ∙ when_empty p h)
no_parts p P nul (x ∷ a, b, e, h, k) = let bot : ⊥ = cc in bot

no_one : (b : Bool) (p c : Pattern) (P Q : List Answer → Type 0) → nullable p ≡ false → OneOf b p c P Q [] → ⊥
no_one true p c P Q nul h = no_parts p P nul h
no_one false p c P Q nul (inl h) = no_parts p P nul h
no_one false p c P Q nul (inr h) = no_parts (Then c (Is Failure)) Q (never_empty c) h

abbrev Ends : List Answer → Option State → Type 0
Ends ms o = (p : Place) × (run (all_heard ms) o ≡ Some (state [] p))

all_taken : (ms : List Answer) (qs : List Request) (place : Place) → Fit qs place → AsksForNone ms → After qs place [] ms → Ends ms (Some (state qs place))
all_taken [] [] place f none h = (place, refl)
all_taken [] (r ∷ rs) place f none h = absurd (no_one (ends_ready r) (rest place r) (cut place r) (Answered (rs ++ []) false) (Answered (rs ++ []) true) (not_over r place f) h)
all_taken (m ∷ ms) [] place f none h = absurd (idle_only place m ms h)
all_taken (m ∷ ms) (r ∷ rs) place f none h =
    let on : Goes_on (answers m r place rs) ms = answer_on m r place rs ms f none h in
    subst (Ends ms) (sym (steps_plain (Got m) (state (r ∷ rs) place) ∙ on.is_next)) (all_taken ms on.next.queue on.next.place on.fits (asks_later m ms none) on.allows)

-- requests that are said one after another

abbrev pushes : List Request → State → State
pushes [] s = s
pushes (r ∷ rs) s = pushes rs (said r s)

pushes_behind : (p : List Request) (r : Request) (qs : List Request) (place : Place) → pushes p (state (r ∷ qs) place) ≡ state (r ∷ (qs ++ p)) place
pushes_behind [] r qs place = ap (λ (l : List Request). state (r ∷ l) place) (sym (append-nil qs))
pushes_behind (x ∷ p) r qs place = pushes_behind p r (qs ++ x ∷ []) place ∙ ap (λ (l : List Request). state (r ∷ l) place) (append_assoc qs (x ∷ []) p)

pushes_idle : (p : List Request) → pushes p (state [] Start) ≡ state p Start
pushes_idle [] = refl
pushes_idle (r ∷ p) = pushes_behind p r [] Start

said_calm : (qs : List Request) (place : Place) (r : Request) → is_open place ≡ false → is_open (said_to qs place r).place ≡ false
said_calm (q ∷ qs) place r e = e
said_calm [] Skipping Sync e = refl
said_calm [] Skipping _ e = refl
said_calm [] _ r e = refl

says_one : (r : Request) (s : State) → is_open s.place ≡ false → as_plain (steps (Sent r) (Plain s)) ≡ Some (said r s)
says_one r s e = steps_plain (Sent r) s ∙ ap (λ (b : Bool). if b then None else Some (said r s)) e

said_first_all : (rs : List Request) (es : List Event) (s : State) → is_open s.place ≡ false → run (all_said rs ++ es) (Some s) ≡ run es (Some (pushes rs s))
said_first_all [] es s e = refl
said_first_all (r ∷ rs) es s e = ap (run (all_said rs ++ es)) (says_one r s e) ∙ said_first_all rs es (said r s) (said_calm s.queue s.place r e)

pub allowed_is_taken : (rs : List Request) (ms : List Answer) → AsksForNone ms → Answered rs false ms → IsTakenWhole (all_said rs ++ all_heard ms)
allowed_is_taken rs ms none h =
    let start : State = state [] Start in
    let all : Answered (rs ++ []) false ms = subst (λ (l : List Request). Answered l false ms) (sym (append-nil rs)) h in
    let e : run (all_said rs ++ all_heard ms) (Some start) ≡ run (all_heard ms) (Some (state rs Start)) =
    said_first_all rs (all_heard ms) start refl ∙ ap (λ (s : State). run (all_heard ms) (Some s)) (pushes_idle rs) in
    let P : Option State → Type 0 = λ o. (p : Place) × (o ≡ Some (state [] p)) in
    subst P (sym e) (all_taken ms rs Start (fit_start rs) none (to_start rs ms all))

-- each request is said once the one before it is answered, and the data of a COPY are ended as soon as they are asked for

record In_turn (rs : List Request) (o : Option State) (ms : List Answer) : Type 0 where
  events : List Event
  says : requests events ≡ rs
  hears : answers_in events ≡ ms
  place : Place
  ends : run events o ≡ Some (state [] place)

abbrev idle : Bool → Place
idle true = Skipping
idle false = Start

-- what is made of the later requests, and of later answers to the first
abbrev Later : List Request → Type 0
Later rs = (skips : Bool) (ms : List Answer) → Answered rs skips ms → In_turn rs (Some (state [] (idle skips))) ms

abbrev Again : Request → List Request → List Answer → Type 0
Again r rs ms = (p : Place) → usual p r ≡ true → After (r ∷ []) p rs ms → In_turn rs (Some (state (r ∷ []) p)) ms

heard_turn : (m : Answer) (r : Request) (place : Place) (rs : List Request) (ms : List Answer) → In_turn rs (answers m r place []) ms → In_turn rs (Some (state (r ∷ []) place)) (m ∷ ms)
heard_turn m r place rs ms t =
    record { events = Got m ∷ t.events; says = t.says; hears = ap (λ (v : List Answer). m ∷ v) t.hears; place = t.place; ends = ap (run t.events) (steps_plain (Got m) (state (r ∷ []) place)) ∙ t.ends }

ended_turn : (r : Request) (place q : Place) (rs : List Request) (ms : List Answer) → as_plain (steps (Ended true) (Plain (state (r ∷ []) place))) ≡ Some (state (r ∷ []) q) →
    In_turn rs (Some (state (r ∷ []) q)) ms → In_turn rs (Some (state (r ∷ []) place)) ms
ended_turn r place q rs ms e t = record { events = Ended true ∷ t.events; says = t.says; hears = t.hears; place = t.place; ends = ap (run t.events) e ∙ t.ends }

said_turn : (r : Request) (s : State) (o : Option State) (rs : List Request) (ms : List Answer) → as_plain (steps (Sent r) (Plain s)) ≡ o → In_turn rs o ms → In_turn (r ∷ rs) (Some s) ms
said_turn r s o rs ms e t =
    record { events = Sent r ∷ t.events; says = ap (λ (l : List Request). r ∷ l) t.says; hears = t.hears; place = t.place; ends = ap (run t.events) e ∙ t.ends }

at_turn : (p : Place) (r : Request) (place : Place) (m : Answer) (rs : List Request) (ms : List Answer) → (m ≡ Failure → ⊥) → nullable (rest place r) ≡ false →
    Leads_to r place m (soon (At p)) → After (r ∷ []) place rs (m ∷ ms) → Again r rs ms → In_turn rs (at_place p r []) ms
at_turn Asked r place m rs ms n nul (f, g, u) h again =
    ended_turn r Asked Given rs ms refl
    (again Given u (one_at (ends_ready r) m (rest place r) (rest Given r) (cut place r) (cut Given r) (Answered rs false) (Answered rs true) ms n nul f g h))
at_turn Both r place m rs ms n nul (f, g, u) h again =
    ended_turn r Both BothOut rs ms refl
    (again BothOut u (one_at (ends_ready r) m (rest place r) (rest BothOut r) (cut place r) (cut BothOut r) (Answered rs false) (Answered rs true) ms n nul f g h))
at_turn BothIn r place m rs ms n nul (f, g, u) h again = impossible u
at_turn p r place m rs ms n nul (f, g, u) h again =
    again p u (one_at (ends_ready r) m (rest place r) (rest p r) (cut place r) (cut p r) (Answered rs false) (Answered rs true) ms n nul f g h)

went_turn : (n : Next) (r : Request) (place : Place) (m : Answer) (rs : List Request) (ms : List Answer) → (m ≡ Failure → ⊥) → nullable (rest place r) ≡ false →
    Leads_to r place m (soon n) → After (r ∷ []) place rs (m ∷ ms) → Later rs → Again r rs ms → In_turn rs (went n r []) ms
went_turn (At p) r place m rs ms n nul l h later again = at_turn p r place m rs ms n nul l h again
went_turn Done r place m rs ms n nul (f, g, u) h later again =
    later false ms (one_done (ends_ready r) m (rest place r) (cut place r) (Answered rs false) (Answered rs true) ms n nul f g h)
went_turn Wrong r place m rs ms n nul (f, g, u) h later again =
    absurd (one_wrong (ends_ready r) m (rest place r) (cut place r) (Answered rs false) (Answered rs true) ms n nul f g h)

ready_turn : (place : Place) (r : Request) (rs : List Request) (ms : List Answer) → ends_ready r ≡ true → nullable (rest place r) ≡ false → Fails_to true r place →
    Parts (rest place r) (Answered rs false) (Failure ∷ ms) → Again r rs ms → In_turn rs (failed_ready place r []) ms
ready_turn Failed r rs ms e nul f h again =
    absurd (parts_wrong Failure (rest Failed r) (Answered rs false) ms (λ a k. f a (derive Failure (rest Failed r) a k)) (begins Failure (rest Failed r) (Answered rs false) ms nul h))
ready_turn place r rs ms e nul f h again =
    let P : Bool → Type 0 = λ b. OneOf b (Is Ready) (cut Failed r) (Answered rs false) (Answered rs true) ms in
    again Failed e
    (subst P (sym e) (parts_on Failure (rest place r) (Is Ready) (Answered rs false) ms (λ a k. f a (derive Failure (rest place r) a k)) (begins Failure (rest place r) (Answered rs false) ms nul h)))

extended_turn : (r : Request) (place : Place) (rs : List Request) (ms : List Answer) → nullable (rest place r) ≡ false → Fails_to false r place →
    OneOf false (rest place r) (cut place r) (Answered rs false) (Answered rs true) (Failure ∷ ms) → Later rs → In_turn rs (Some (state [] Skipping)) ms
extended_turn r place rs ms nul (f, g) (inl h) later =
    absurd (parts_wrong Failure (rest place r) (Answered rs false) ms (λ a k. f a (derive Failure (rest place r) a k)) (begins Failure (rest place r) (Answered rs false) ms nul h))
extended_turn r place rs ms nul (f, g) (inr h) later =
    let c : Pattern = Then (cut place r) (Is Failure) in
    later true ms (parts_done Failure c (Answered rs true) ms (λ a k. g a (derive Failure c a k)) (begins Failure c (Answered rs true) ms (never_empty (cut place r)) h))

failed_turn : (r : Request) (place : Place) (rs : List Request) (ms : List Answer) → usual place r ≡ true → After (r ∷ []) place rs (Failure ∷ ms) → Later rs → Again r rs ms →
    In_turn rs (failed_at r place []) ms
failed_turn Query place rs ms e h later again = ready_turn place Query rs ms refl (not_over Query place e) (fails_to Query place e) h again
failed_turn Call place rs ms e h later again = ready_turn place Call rs ms refl (not_over Call place e) (fails_to Call place e) h again
failed_turn Sync place rs ms e h later again = ready_turn place Sync rs ms refl (not_over Sync place e) (fails_to Sync place e) h again
failed_turn Parse place rs ms e h later again = extended_turn Parse place rs ms (not_over Parse place e) (fails_to Parse place e) h later
failed_turn Bind place rs ms e h later again = extended_turn Bind place rs ms (not_over Bind place e) (fails_to Bind place e) h later
failed_turn DescribeStatement place rs ms e h later again = extended_turn DescribeStatement place rs ms (not_over DescribeStatement place e) (fails_to DescribeStatement place e) h later
failed_turn DescribePortal place rs ms e h later again = extended_turn DescribePortal place rs ms (not_over DescribePortal place e) (fails_to DescribePortal place e) h later
failed_turn Execute place rs ms e h later again = extended_turn Execute place rs ms (not_over Execute place e) (fails_to Execute place e) h later
failed_turn Close place rs ms e h later again = extended_turn Close place rs ms (not_over Close place e) (fails_to Close place e) h later

answer_turn : (m : Answer) (r : Request) (place : Place) (rs : List Request) (ms : List Answer) → usual place r ≡ true → After (r ∷ []) place rs (m ∷ ms) → Later rs → Again r rs ms →
    In_turn rs (answers m r place []) ms
answer_turn Failure r place rs ms e h later again = failed_turn r place rs ms e h later again
answer_turn m r place rs ms e h later again = went_turn (next_of r place m) r place m rs ms (λ f. cc) (not_over r place e) (exact r place e m) h later again

one_turn : (ms : List Answer) (r : Request) (place : Place) (rs : List Request) → usual place r ≡ true → After (r ∷ []) place rs ms → Later rs → In_turn rs (Some (state (r ∷ []) place)) ms
one_turn [] r place rs e h later = absurd (no_one (ends_ready r) (rest place r) (cut place r) (Answered rs false) (Answered rs true) (not_over r place e) h)
one_turn (m ∷ ms) r place rs e h later = heard_turn m r place rs ms (answer_turn m r place rs ms e h later (λ p f a. one_turn ms r p rs f a later))

all_turns : (rs : List Request) (skips : Bool) (ms : List Answer) → Answered rs skips ms → In_turn rs (Some (state [] (idle skips))) ms
all_turns [] skips ms h = record { events = []; says = refl; hears = sym h; place = idle skips; ends = refl }
all_turns (r ∷ rs) false ms h = said_turn r (state [] Start) (Some (state (r ∷ []) Start)) rs ms refl (one_turn ms r Start rs refl h (all_turns rs))
all_turns (Sync ∷ rs) true ms h = said_turn Sync (state [] Skipping) (Some (state (Sync ∷ []) Start)) rs ms refl (one_turn ms Sync Start rs refl h (all_turns rs))
all_turns (r ∷ rs) true ms h = said_turn r (state [] Skipping) (Some (state [] Skipping)) rs ms refl (all_turns rs true ms h)

pub allowed_in_turn : (rs : List Request) (ms : List Answer) → Answered rs false ms → IsTakenInTurn rs ms
allowed_in_turn rs ms h = let t : In_turn rs (Some (state [] Start)) ms = all_turns rs false ms h in (t.events, t.says, t.hears, (t.place, t.ends))
