-- A client hears what a server answered, and its state covers where the server is.
use Rattle.std.proofs.Common.{◌≡◌, ◌≤◌, ℕ, zero, suc, ◌+◌, ◌-◌, List, [], ◌∷◌, length, inl, inr, refl, sym, ap, ◌∙◌, subst, arith, Bool, true, false, Option, Some, None}
use Rattle.std.specs.Prelude.{IfSome, if◌then◌else◌}
use Rattle.pg_flow.specs.declared.answer.Answer.{Answer}
use Rattle.pg_flow.specs.declared.answer.Answer.TheVariants.{CommandComplete, CopyIn, Failure, Ready}
use Rattle.pg_flow.specs.declared.place.Place.{Place}
use Rattle.pg_flow.specs.declared.place.Place.TheVariants.{Asked, Both, BothIn, Failed, Given, Start, Withheld}
use Rattle.pg_flow.specs.declared.request.Request.{Request}
use Rattle.pg_flow.specs.declared.request.Request.TheVariants.{Call, Execute, Query, Sync}
use Rattle.pg_flow.specs.declared.table.Next.{Next}
use Rattle.pg_flow.specs.declared.table.Next.TheVariants.{At, Done, Wrong}
use Rattle.pg_flow.specs.ClientFlow.{Client, Copying, Group, Plain, all_syncs, behind, hear, hear_copying, hear_first, highest, is_none, is_start, lead, lowest, number, or_copying, ready_group}
use Rattle.pg_flow.specs.Plain.{State, answers, at_open, at_place, failed_at, failed_ready, opens_data, is_sync, state, went}
use Rattle.pg_flow.specs.ServerFlow.{Asks, Busy, Ends, Idle, Server, Skips, Up, after, is_failure, number_of, tell, tell_as, told}
use Rattle.pg_flow.specs.Table.{next_of}
use Rattle.pg_flow.proofs.PlainLemmas.{Alone, Takes_it, Tidy, answer_taken, asks, has_end, impossible, never_asked, placed, placed_not, pushes_up, tidy_clean, tidy_then, up_behind, up_idle, up_still}
use Rattle.pg_flow.proofs.RestLemmas.{rest}
use Rattle.pg_flow.proofs.CoversLemmas.{Awaits, Copy_as, Copy_at, Copy_covers, Covers, Group_busy, Group_covers, Neat, Numbered, Plain_covers, Reads, Sync_first, behind_up, lead_up, plain_of}
use Rattle.pg_flow.proofs.TakesLemmas.{neat_clean}

-- the server answers, and the client hears it

abbrev pub Heard_ok : ℕ → Answer → ℕ → Option Client → ℕ → ℕ → List Up → Server → ℕ → Type 0
Heard_ok n m j None low high p s count = opens_data m ≡ true
Heard_ok n m j (Some c) low high p s count = (low ≤ j) × (j ≤ high) × Covers c p s n count

abbrev pub Hears_from : ℕ → Answer → Client → List Up → ℕ → Server → Type 0
Hears_from n m c p count s = IfSome (tell m s) (λ t. Heard_ok n m (number_of s) (hear n m c) (lowest n m c) (highest n m c) p t count)

told_if : (b f : Bool) (o : Option Server) (P : Server → Type 0) → IfSome o P → IfSome (if b then (if f then None else o) else o) P
told_if true true o P h = tt
told_if true false o P h = h
told_if false f o P h = h

tell_if : (m : Answer) (r : Request) (place : Place) (quiet : Bool) (i : ℕ) (P : Server → Type 0) → IfSome (told (answers m r place []) r quiet i) P → IfSome (tell_as m r place quiet i) P
tell_if m r place true i P h = told_if (is_sync r) (is_failure m) (told (answers m r place []) r true i) P h
tell_if m r place false i P h = h

-- where a server is after an answer

abbrev Goes : Request → Bool → ℕ → State → Type 0
Goes r quiet i u = (plain_of (after u r quiet i) ≡ u) × ((count : ℕ) → i + 1 ≡ count → Numbered (after u r quiet i) count)

goes_at : (q : Place) (r : Request) (quiet : Bool) (i : ℕ) → IfSome (at_place q r []) (Goes r quiet i)
goes_at Asked r quiet i = (refl, (λ count e. e))
goes_at Both r quiet i = (refl, (λ count e. e))
goes_at BothIn r quiet i = (refl, (λ count e. e))
goes_at q r quiet i = (refl, (λ count e. e))

goes_next : (n : Next) (r : Request) (quiet : Bool) (i : ℕ) → IfSome (went n r []) (Goes r quiet i)
goes_next (At q) r quiet i = goes_at q r quiet i
goes_next Done r quiet i = (refl, (λ count e. tt))
goes_next Wrong r quiet i = tt

goes_ready : (place : Place) (r : Request) (quiet : Bool) (i : ℕ) → IfSome (failed_ready place r []) (Goes r quiet i)
goes_ready Failed r quiet i = tt
goes_ready _ r quiet i = (refl, (λ count e. e))

goes_failed : (r : Request) (place : Place) (quiet : Bool) (i : ℕ) → IfSome (failed_at r place []) (Goes r quiet i)
goes_failed Query place quiet i = goes_ready place Query quiet i
goes_failed Call place quiet i = goes_ready place Call quiet i
goes_failed Sync place quiet i = goes_ready place Sync quiet i
goes_failed _ place quiet i = (refl, (λ count e. tt))

goes : (m : Answer) (r : Request) (place : Place) (quiet : Bool) (i : ℕ) → IfSome (answers m r place []) (Goes r quiet i)
goes Failure r place quiet i = goes_failed r place quiet i
goes m r place quiet i = goes_next (next_of r place m) r quiet i

some_of : (o : Option State) (P : State → Type 0) → ((u : State) → o ≡ Some u → P u) → IfSome o P
some_of None P f = tt
some_of (Some u) P f = f u refl

tidy_some : (m : Answer) (r : Request) (place : Place) (p : List Up) → Tidy (state (r ∷ []) place) p → IfSome (answers m r place []) (λ u. Tidy u p)
tidy_some m r place p t = some_of (answers m r place []) (λ u. Tidy u p) (λ u e. tidy_then m r place p u e t)

plain_same : (n i count : ℕ) (m : Answer) (r : Request) (q : Place) (p : List Up) (x : Option State) (u : State) (quiet : Bool) (low high : ℕ) → low ≤ i → i ≤ high →
    Takes_it p m x u → Goes r quiet i u → Tidy u p → i + 1 ≡ count → or_copying m r q (asks p) None ≡ None →
    Heard_ok n m i (or_copying m r q (asks p) x) low high p (after u r quiet i) count
plain_same n i count m r q p x u quiet low high a b (inl (e, alone)) g t num c =
    subst (λ (o : Option State). Heard_ok n m i (or_copying m r q (asks p) o) low high p (after u r quiet i) count) (sym e)
    (a, b, record { like = ap (pushes_up p) (sym g.0); tidy = subst (λ (v : State). Tidy v p) (sym g.0) t; alone = alone; numbered = g.1 count num })
plain_same n i count m r q p x u quiet low high a b (inr (e, f)) g t num c =
    subst (λ (o : Option State). Heard_ok n m i (or_copying m r q (asks p) o) low high p (after u r quiet i) count) (sym e)
    (subst (λ (o : Option Client). Heard_ok n m i o low high p (after u r quiet i) count) (sym c) f)

plain_one : (o : Option State) (n i count : ℕ) (m : Answer) (r : Request) (q : Place) (p : List Up) (x : Option State) (quiet : Bool) (low high : ℕ) → low ≤ i → i ≤ high →
    IfSome o (Takes_it p m x) → IfSome o (Goes r quiet i) → IfSome o (λ u. Tidy u p) → i + 1 ≡ count → or_copying m r q (asks p) None ≡ None →
    IfSome (told o r quiet i) (λ t. Heard_ok n m i (or_copying m r q (asks p) x) low high p t count)
plain_one None n i count m r q p x quiet low high a b h g t num c = tt
plain_one (Some u) n i count m r q p x quiet low high a b h g t num c = plain_same n i count m r q p x u quiet low high a b h g t num c

numbered_low : (n i count : ℕ) (p : List Request) (r : Request) → n ≡ count + length p → i + 1 ≡ count → number n (r ∷ p) ≤ i
numbered_low n i count p r e f = omega arith

numbered_high : (n i count : ℕ) (p : List Request) (r : Request) → n ≡ count + length p → i + 1 ≡ count → i ≤ number n (r ∷ p)
numbered_high n i count p r e f = omega arith

abbrev Plain_hears : ℕ → Answer → Request → Place → Bool → ℕ → List Up → ℕ → Type 0
Plain_hears n m r place quiet i p count = IfSome (tell_as m r place quiet i) (λ t. Heard_ok n m i (hear_first m r (placed p place) (asks p)) (number n (r ∷ asks p)) (number n (r ∷ asks p)) p t count)

plain_rest : (n : ℕ) (m : Answer) (r : Request) (place : Place) (quiet : Bool) (i : ℕ) (p : List Up) (count : ℕ) → Tidy (state (r ∷ []) place) p → Alone (pushes_up p (state (r ∷ []) place)) p → n ≡ count + length (asks p) →
    i + 1 ≡ count → or_copying m r (placed p place) (asks p) None ≡ None → Plain_hears n m r place quiet i p count
plain_rest n m r place quiet i p count t a e f c =
    let low : ℕ = number n (r ∷ asks p) in
    tell_if m r place quiet i (λ s. Heard_ok n m i (hear_first m r (placed p place) (asks p)) low low p s count)
    (plain_one (answers m r place []) n i count m r (placed p place) p (answers m r (placed p place) (asks p)) quiet low low
    (numbered_low n i count (asks p) r e f) (numbered_high n i count (asks p) r e f)
    (answer_taken m r place p (tidy_clean r place m p t) a) (goes m r place quiet i) (tidy_some m r place p t) f c)

no_asks : (p : List Up) → has_end p ≡ false → asks p ≡ [] → p ≡ []
no_asks [] e f = refl
no_asks (Asks r ∷ p) e f = cc
no_asks (Ends b ∷ p) e f = impossible (sym e)

reads_syncs : (p : List Up) (j : ℕ) → has_end p ≡ false → all_syncs (asks p) ≡ true → length (asks p) ≤ j → Reads p j [] Asked
reads_syncs [] j e f g = (refl, refl)
reads_syncs (Asks Sync ∷ p) (suc j) e f g = reads_syncs p j e f (omega arith)
reads_syncs (Asks Sync ∷ p) zero e f g = absurd (omega arith)
reads_syncs (Asks _ ∷ p) j e f g = impossible f
reads_syncs (Ends b ∷ p) j e f g = impossible (sym e)

copy_in_if : (b : Bool) (n i count : ℕ) (xs : List Request) (p : List Up) (quiet : Bool) (low high : ℕ) → low ≤ i → i ≤ high → has_end p ≡ false → length (asks p) ≡ suc (length xs) →
    n ≡ count + length (asks p) → i + 1 ≡ count → all_syncs (asks p) ≡ b →
    Heard_ok n CopyIn i (if b then Some (Copying (length xs) [] Asked) else None) low high p (Busy Execute Asked quiet i) count
copy_in_if true n i count xs p quiet low high a b e g f num c =
    (a, b, record { reads = reads_syncs p (suc (length xs)) e c (omega arith); numbered = omega arith; before = omega arith; syncs = tt })
copy_in_if false n i count xs p quiet low high a b e g f num c = refl

copy_in : (qs : List Request) (n i count : ℕ) (p : List Up) (quiet : Bool) (low high : ℕ) → low ≤ i → i ≤ high → has_end p ≡ false → asks p ≡ qs → n ≡ count + length (asks p) → i + 1 ≡ count →
    Heard_ok n CopyIn i (or_copying CopyIn Execute Start qs (at_open Asked Execute qs)) low high p (Busy Execute Asked quiet i) count
copy_in [] n i count p quiet low high a b e f g num =
    let none : p ≡ [] = no_asks p e f in
    (a, b, record { like = ap (λ (l : List Up). pushes_up l (state (Execute ∷ []) Asked)) (sym none); tidy = inl e; alone = (λ h. none); numbered = num })
copy_in (x ∷ xs) n i count p quiet low high a b e f g num =
    copy_in_if (all_syncs (x ∷ xs)) n i count xs p quiet low high a b e (ap length f) g num (ap all_syncs f)

copy_begins : (n : ℕ) (quiet : Bool) (i : ℕ) (p : List Up) (count : ℕ) → Tidy (state (Execute ∷ []) Start) p → n ≡ count + length (asks p) → i + 1 ≡ count → Plain_hears n CopyIn Execute Start quiet i p count
copy_begins n quiet i p count t e f =
    let low : ℕ = number n (Execute ∷ asks p) in
    tell_if CopyIn Execute Start quiet i (λ s. Heard_ok n CopyIn i (hear_first CopyIn Execute (placed p Start) (asks p)) low low p s count)
    (subst (λ (q : Place). Heard_ok n CopyIn i (hear_first CopyIn Execute q (asks p)) low low p (Busy Execute Asked quiet i) count) (sym (placed_not p Start refl))
    (copy_in (asks p) n i count p quiet low low (numbered_low n i count (asks p) Execute e f) (numbered_high n i count (asks p) Execute e f)
    (tidy_clean Execute Start CopyIn p t refl) refl e f))

no_copy : (place : Place) (quiet : Bool) (i : ℕ) (P : Server → Type 0) → is_start place ≡ false → IfSome (tell_as CopyIn Execute place quiet i) P
no_copy Start quiet i P e = impossible (sym e)
no_copy _ true i P e = tt
no_copy _ false i P e = tt

plain_hears : (n : ℕ) (m : Answer) (r : Request) (place : Place) (quiet : Bool) (i : ℕ) (p : List Up) (count : ℕ) → Tidy (state (r ∷ []) place) p → Alone (pushes_up p (state (r ∷ []) place)) p → n ≡ count + length (asks p) →
    i + 1 ≡ count → Plain_hears n m r place quiet i p count
plain_hears n CopyIn Execute Start quiet i p count t a e f = copy_begins n quiet i p count t e f
plain_hears n CopyIn Execute place quiet i p count t a e f =
    no_copy place quiet i (λ s. Heard_ok n CopyIn i (hear_first CopyIn Execute (placed p place) (asks p)) (number n (Execute ∷ asks p)) (number n (Execute ∷ asks p)) p s count) refl
plain_hears n CopyIn r place quiet i p count t a e f = plain_rest n CopyIn r place quiet i p count t a e f refl
plain_hears n m r place quiet i p count t a e f = plain_rest n m r place quiet i p count t a e f refl

hears_plain : (n : ℕ) (m : Answer) (c : State) (p : List Up) (s : Server) (count : ℕ) → Plain_covers c p s count → n ≡ count + length (asks p) → Hears_from n m (Plain c) p count s
hears_plain n m c p (Idle quiet) count h e = tt
hears_plain n m c p Skips count h e = tt
hears_plain n m c p (Busy r place quiet i) count h e =
    subst (λ (d : State). Hears_from n m (Plain d) p count (Busy r place quiet i)) (sym (h.like ∙ up_behind p r [] place))
    (plain_hears n m r place quiet i p count h.tidy (subst (λ (d : State). Alone d p) h.like h.alone) e h.numbered)

-- the COPY fails, or is complete

clean_lead : (p : List Up) → has_end p ≡ false → (lead_up p ≡ lead (asks p)) × (behind_up p ≡ behind (asks p))
clean_lead [] e = (refl, refl)
clean_lead (Asks Sync ∷ p) e = let f : (lead_up p ≡ lead (asks p)) × (behind_up p ≡ behind (asks p)) = clean_lead p e in (ap (λ (z : ℕ). z + 1) f.0, f.1)
clean_lead (Asks _ ∷ p) e = (refl, refl)
clean_lead (Ends b ∷ p) e = impossible (sym e)

reads_lead : (p : List Up) (j : ℕ) (rest : List Request) (place : Place) → Reads p j rest place →
    (lead rest ≤ lead_up p) × (lead_up p ≤ lead rest + j) × (behind_up p ≡ behind rest) × Neat p
reads_lead [] j rest place h = subst (λ (l : List Request). (lead l ≤ 0) × (0 ≤ lead l + j) × ([] ≡ behind l) × Unit {0}) (sym h.1) (omega arith, omega arith, refl, tt)
reads_lead (Asks Sync ∷ p) (suc j) rest place h =
    let f : (lead rest ≤ lead_up p) × (lead_up p ≤ lead rest + j) × (behind_up p ≡ behind rest) × Neat p = reads_lead p j rest place h in
    let a : lead rest ≤ lead_up p = f.0 in
    let b : lead_up p ≤ lead rest + j = f.1 in
    (omega arith, omega arith, f.2, f.3)
reads_lead (Asks Sync ∷ p) zero rest place h = absurd h
reads_lead (Asks _ ∷ p) j rest place h = absurd h
reads_lead (Ends b ∷ p) j rest place h =
    let f : (lead_up p ≡ lead (asks p)) × (behind_up p ≡ behind (asks p)) = clean_lead p h.2 in
    let g : lead_up p ≡ lead rest = f.0 ∙ ap lead h.1 in
    (omega arith, omega arith, f.1 ∙ ap behind h.1, h.2)

record Leads (k : ℕ) (rest : List Request) (p : List Up) : Type 0 where
  low : lead rest ≤ lead_up p
  high : lead_up p ≤ lead rest + suc k
  same : behind_up p ≡ behind rest
  neat : Neat p

clean_leads : (k : ℕ) (rest : List Request) (p : List Up) → asks p ≡ rest → has_end p ≡ false → Leads k rest p
clean_leads k rest p e h =
    let f : (lead_up p ≡ lead (asks p)) × (behind_up p ≡ behind (asks p)) = clean_lead p h in
    let g : lead_up p ≡ lead rest = f.0 ∙ ap lead e in
    record { low = omega arith; high = omega arith; same = f.1 ∙ ap behind e; neat = neat_clean p h }

copy_leads : (q : Place) (k : ℕ) (rest : List Request) (place : Place) (p : List Up) → Copy_at q k rest place p → Leads k rest p
copy_leads Asked k rest place p h =
    let f : (lead rest ≤ lead_up p) × (lead_up p ≤ lead rest + suc k) × (behind_up p ≡ behind rest) × Neat p = reads_lead p (suc k) rest place h in
    record { low = f.0; high = f.1; same = f.2; neat = f.3 }
copy_leads Given k rest place p h = clean_leads k rest p h.1 h.2
copy_leads Withheld k rest place p h = clean_leads k rest p h.1 h.2
copy_leads _ k rest place p h = absurd h

none_behind : (rest : List Request) → is_none rest ≡ true → behind rest ≡ []
none_behind [] e = refl
none_behind (r ∷ rs) e = impossible e

some_lead : (rest : List Request) → Sync_first rest → is_none rest ≡ false → 1 ≤ lead rest
some_lead [] s e = impossible (sym e)
some_lead (Sync ∷ rs) s e = omega arith
some_lead (_ ∷ rs) s e = impossible s

abbrev Copy_hears : ℕ → Answer → Place → ℕ → List Request → Place → List Up → Bool → ℕ → ℕ → Type 0
Copy_hears n m q k rest place p quiet i count =
    IfSome (told (answers m Execute q []) Execute quiet i) (λ t. Heard_ok n m i (hear_copying n k rest place m) (n - (length rest + (k + 2))) (n - (length rest + (k + 2))) p t count)

copy_fails : (n : ℕ) (q : Place) (k : ℕ) (rest : List Request) (place : Place) (p : List Up) (quiet : Bool) (i count : ℕ) → Copy_as q k rest place p i n count →
    Copy_hears n Failure q k rest place p quiet i count
copy_fails n q k rest place p quiet i count h =
    let f : Leads k rest p = copy_leads q k rest place p h.reads in
    let a : i + (length rest + (k + 2)) ≡ n = h.numbered in
    let b : i + 1 ≤ count = h.before in
    let low : lead rest ≤ lead_up p = f.low in
    let high : lead_up p ≤ lead rest + suc k = f.high in (
      omega arith,
      omega arith,
      (
        record { low = f.low; high = omega arith; same = f.same; neat = f.neat; from = omega arith; quiet = none_behind rest },
        (λ e. let c : 1 ≤ lead rest = some_lead rest h.syncs e in omega arith),
      ),
    )

copy_given : (m : Answer) (n k : ℕ) (rest : List Request) (p : List Up) (quiet : Bool) (i count : ℕ) → Copy_as Given k rest Given p i n count →
    Copy_hears n m Given k rest Given p quiet i count
copy_given Failure n k rest p quiet i count h = copy_fails n Given k rest Given p quiet i count h
copy_given CommandComplete n k rest p quiet i count h =
    let a : i + (length rest + (k + 2)) ≡ n = h.numbered in
    (omega arith, omega arith, record { like = ap (λ (l : List Request). state l Start) (sym h.reads.1) ∙ sym (up_idle p); tidy = inl h.reads.2; alone = (λ e. impossible e); numbered = tt })
copy_given _ n k rest p quiet i count h = tt

copy_hears_at : (q : Place) (m : Answer) (n k : ℕ) (rest : List Request) (place : Place) (p : List Up) (quiet : Bool) (i count : ℕ) → Copy_as q k rest place p i n count →
    Copy_hears n m q k rest place p quiet i count
copy_hears_at q Failure n k rest place p quiet i count h = copy_fails n q k rest place p quiet i count h
copy_hears_at Given m n k rest place p quiet i count h =
    let e : place ≡ Given = h.reads.0 in
    subst (λ (z : Place). Copy_hears n m Given k rest z p quiet i count) (sym e)
    (copy_given m n k rest p quiet i count (record { reads = (refl, h.reads.1, h.reads.2); numbered = h.numbered; before = h.before; syncs = h.syncs }))
copy_hears_at Asked m n k rest place p quiet i count h = tt
copy_hears_at Withheld m n k rest place p quiet i count h = tt
copy_hears_at _ m n k rest place p quiet i count h = absurd h.reads

hears_copying : (n : ℕ) (m : Answer) (k : ℕ) (rest : List Request) (place : Place) (p : List Up) (s : Server) (count : ℕ) → Copy_covers k rest place p s n count →
    Hears_from n m (Copying k rest place) p count s
hears_copying n m k rest place p (Busy Execute q quiet i) count h =
    let low : ℕ = n - (length rest + (k + 2)) in
    tell_if m Execute q quiet i (λ t. Heard_ok n m i (hear_copying n k rest place m) low low p t count) (copy_hears_at q m n k rest place p quiet i count h)
hears_copying n m k rest place p _ count h = absurd h

-- a group hears a ReadyForQuery, or the first answer to what is behind it

led_length : (p : List Up) → length (asks p) ≡ lead_up p + length (behind_up p)
led_length [] = refl
led_length (Asks Sync ∷ p) = let e : length (asks p) ≡ lead_up p + length (behind_up p) = led_length p in omega arith
led_length (Asks _ ∷ p) = omega arith
led_length (Ends b ∷ p) = led_length p

led_none : (p : List Up) → lead_up p ≡ 0 → behind_up p ≡ asks p
led_none [] e = refl
led_none (Asks Sync ∷ p) e = absurd (omega arith)
led_none (Asks _ ∷ p) e = refl
led_none (Ends b ∷ p) e = led_none p e

led_tidy : (p : List Up) → lead_up p ≡ 0 → Neat p → Tidy (state [] Start) p
led_tidy [] e h = inl refl
led_tidy (Asks Sync ∷ p) e h = absurd (omega arith)
led_tidy (Asks _ ∷ p) e h = inl h
led_tidy (Ends b ∷ p) e h = inr (h, tt)

ready_covers : (l m first : ℕ) (rest : List Request) (skips : Bool) (p : List Up) (n i count : ℕ) → Awaits (lead_up p + 1) first l m rest skips p i → i + 1 ≡ count →
    Covers (ready_group first l m rest) p (Idle true) n count
ready_covers (suc l) m first rest skips p n i count h e =
    let a : suc l ≤ lead_up p + 1 = h.low in
    let b : lead_up p + 1 ≤ suc l + m + 1 = h.high in
    let c : first ≤ i = h.from in
    record { low = omega arith; high = omega arith; same = h.same; neat = h.neat; from = omega arith; quiet = (λ f. impossible f) }
ready_covers zero (suc m) first rest skips p n i count h e =
    let b : lead_up p + 1 ≤ zero + suc m + 1 = h.high in
    let c : first ≤ i = h.from in
    record { low = omega arith; high = omega arith; same = h.same; neat = h.neat; from = omega arith; quiet = (λ f. impossible f) }
ready_covers zero zero first rest skips p n i count h e =
    let b : lead_up p + 1 ≤ zero + zero + 1 = h.high in
    let none : lead_up p ≡ 0 = omega arith in
    record { like = ap (λ (l : List Request). state l Start) (sym h.same ∙ led_none p none) ∙ sym (up_idle p); tidy = led_tidy p none h.neat; alone = (λ f. impossible f); numbered = tt }

group_ready : (m : Answer) (first l k : ℕ) (rest : List Request) (skips : Bool) (p : List Up) (n i count : ℕ) → Awaits (lead_up p + 1) first l k rest skips p i → i + 1 ≡ count →
    n ≡ count + length (asks p) → Hears_from n m (Group first l k rest skips) p count (Busy Sync Start true i)
group_ready Ready first l k rest skips p n i count h e f =
    let a : length (asks p) ≡ lead_up p + length rest = led_length p ∙ ap (λ (q : List Request). lead_up p + length q) h.same in
    (h.from, omega arith, ready_covers l k first rest skips p n i count h e)
group_ready _ first l k rest skips p n i count h e f = tt

not_ready : (r : Request) (quiet : Bool) (i : ℕ) (P : Server → Type 0) → is_sync r ≡ false → IfSome (tell_as Ready r Start quiet i) P
not_ready Sync quiet i P e = impossible (sym e)
not_ready _ true i P e = tt
not_ready _ false i P e = tt

rest_alone : (n : ℕ) (m : Answer) (r : Request) (quiet : Bool) (i : ℕ) (p : List Up) (count : ℕ) → has_end p ≡ false → n ≡ count + length (asks p) → i + 1 ≡ count →
    IfSome (tell_as m r Start quiet i) (λ t. Heard_ok n m i (hear_first m r Start (asks p)) (number n (r ∷ asks p)) (number n (r ∷ asks p)) p t count)
rest_alone n m r quiet i p count h e f =
    subst (λ (q : Place). IfSome (tell_as m r Start quiet i) (λ t. Heard_ok n m i (hear_first m r q (asks p)) (number n (r ∷ asks p)) (number n (r ∷ asks p)) p t count))
    (placed_not p Start refl) (plain_hears n m r Start quiet i p count (inl h) (never_asked (pushes_up p (state (r ∷ []) Start)) (state (r ∷ asks p) Start) p (up_still p r Start refl) refl) e f)

abbrev Rest_hears : ℕ → Answer → ℕ → ℕ → ℕ → List Request → Bool → List Up → ℕ → Request → Bool → ℕ → Type 0
Rest_hears n m first l k rest skips p count r quiet i = Hears_from n m (Group first l k rest skips) p count (Busy r Start quiet i)

rest_hears : (m : Answer) (n first k : ℕ) (skips : Bool) (p : List Up) (count : ℕ) (r : Request) (quiet : Bool) (i : ℕ) → is_sync r ≡ false → has_end p ≡ false →
    n ≡ count + length (asks p) → i + 1 ≡ count → Rest_hears n m first zero k (r ∷ asks p) skips p count r quiet i
rest_hears Ready n first k skips p count r quiet i s h e f =
    not_ready r quiet i (λ t. Heard_ok n Ready i (hear n Ready (Group first zero k (r ∷ asks p) skips)) first (n - (length (r ∷ asks p) + 1)) p t count) s
rest_hears m n first k skips p count r quiet i s h e f = rest_alone n m r quiet i p count h e f

group_busy_hears : (b : Bool) (place : Place) (quiet : Bool) (first l k : ℕ) (rest : List Request) (skips : Bool) (r : Request) (p : List Up) (n i count : ℕ) (m : Answer) → is_sync r ≡ b →
    Group_busy b place quiet first l k rest skips r p i count → n ≡ count + length (asks p) → Hears_from n m (Group first l k rest skips) p count (Busy r place quiet i)
group_busy_hears true Start true first l k rest skips Sync p n i count m s h e = group_ready m first l k rest skips p n i count h.0 h.1 e
group_busy_hears true Start true first l k rest skips _ p n i count m s h e = impossible s
group_busy_hears true Start false first l k rest skips r p n i count m s h e = absurd h
group_busy_hears true _ quiet first l k rest skips r p n i count m s h e = absurd h
group_busy_hears false Start quiet first l k rest skips r p n i count m s h e =
    subst (λ (z : ℕ). Rest_hears n m first z k rest skips p count r quiet i) (sym h.none)
    (subst (λ (z : List Request). Rest_hears n m first zero k z skips p count r quiet i) (sym h.same) (rest_hears m n first k skips p count r quiet i s h.neat e h.numbered))
group_busy_hears false _ quiet first l k rest skips r p n i count m s h e = absurd h

hears_group : (n : ℕ) (m : Answer) (first l k : ℕ) (rest : List Request) (skips : Bool) (p : List Up) (s : Server) (count : ℕ) → Group_covers first l k rest skips p s count →
    n ≡ count + length (asks p) → Hears_from n m (Group first l k rest skips) p count s
hears_group n m first l k rest skips p (Idle quiet) count h e = tt
hears_group n m first l k rest skips p Skips count h e = tt
hears_group n m first l k rest skips p (Busy r place quiet i) count h e = group_busy_hears (is_sync r) place quiet first l k rest skips r p n i count m refl h e

pub covers_hears : (n : ℕ) (m : Answer) (c : Client) (p : List Up) (s : Server) (count : ℕ) → Covers c p s n count → n ≡ count + length (asks p) → Hears_from n m c p count s
covers_hears n m (Plain c) p s count h e = hears_plain n m c p s count h e
covers_hears n m (Copying k rest place) p s count h e = hears_copying n m k rest place p s count h
covers_hears n m (Group first l k rest skips) p s count h e = hears_group n m first l k rest skips p s count h e
