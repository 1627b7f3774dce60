-- A server takes what is on its way to it, and the client's state covers where it is.
use Rattle.std.proofs.Common.{◌≡◌, ◌≤◌, ℕ, zero, suc, ◌+◌, List, [], ◌∷◌, inl, inr, refl, sym, ap, ◌∙◌, arith, Bool, true, false, Option}
use Rattle.std.specs.Prelude.{IfSome}
use Rattle.pg_flow.specs.declared.place.Place.{Place}
use Rattle.pg_flow.specs.declared.place.Place.TheVariants.{Asked, Both, BothDone, BothIn, BothOut, Skipping, Start}
use Rattle.pg_flow.specs.declared.request.Request.{Request}
use Rattle.pg_flow.specs.declared.request.Request.TheVariants.{Execute, Sync}
use Rattle.pg_flow.specs.ClientFlow.{Client, Copying, Group, Plain}
use Rattle.pg_flow.specs.Plain.{State, given, is_open, is_sync, state}
use Rattle.pg_flow.specs.ServerFlow.{Asks, Busy, Ends, Idle, Server, Skips, Up, counted, drops, take, take_end}
use Rattle.pg_flow.proofs.PlainLemmas.{Alone, Tidy, asks, has_end, impossible, placed, pushes_up, up_behind}
use Rattle.pg_flow.proofs.RestLemmas.{rest}
use Rattle.pg_flow.proofs.CoversLemmas.{Awaits, Copy_as, Copy_covers, Covers, Group_busy, Group_covers, Neat, Plain_covers, Reads, lead_up}

-- the server takes a message

no_cons : {A : Type 0} (u : Up) (p : List Up) → u ∷ p ≡ [] → A
no_cons u p e = cc

alone_less : (c : State) (u : Up) (p : List Up) → Alone c (u ∷ p) → Alone c p
alone_less c u p h = λ e. no_cons u p (h e)

asks_less : (s t : State) (r : Request) (p : List Up) → Tidy s (Asks r ∷ p) → Tidy t p
asks_less s t r p (inl e) = inl e
asks_less s t r p (inr h) = absurd h

ends_less : (s t : State) (b : Bool) (p : List Up) → Tidy s (Ends b ∷ p) → Tidy t p
ends_less s t b p (inl e) = impossible (sym e)
ends_less s t b p (inr h) = inl h.0

no_end_after : (s : State) (r : Request) (p : List Up) → Tidy s (Asks r ∷ p) → has_end p ≡ false
no_end_after s r p (inl e) = e
no_end_after s r p (inr h) = absurd h

placed_clean : (p : List Up) (place : Place) → has_end p ≡ false → placed p place ≡ place
placed_clean [] place e = refl
placed_clean (Asks r ∷ p) place e = placed_clean p place e
placed_clean (Ends b ∷ p) place e = impossible (sym e)

abbrev pub Covers_then : Client → List Up → ℕ → ℕ → Option Server → Type 0
Covers_then c p n count o = IfSome o (λ s. Covers c p s n count)

idle_takes : (u : Up) (c : State) (p : List Up) (quiet : Bool) (n count : ℕ) → Plain_covers c (u ∷ p) (Idle quiet) count → Covers_then (Plain c) p n (counted u count) (take u (Idle quiet) count)
idle_takes (Asks r) c p quiet n count h = record { like = h.like; tidy = asks_less (state [] Start) (state (r ∷ []) Start) r p h.tidy; alone = alone_less c (Asks r) p h.alone; numbered = refl }
idle_takes (Ends b) c p quiet n count h = record { like = h.like; tidy = ends_less (state [] Start) (state [] Start) b p h.tidy; alone = alone_less c (Ends b) p h.alone; numbered = tt }

skips_takes : (u : Up) (c : State) (p : List Up) (n count : ℕ) → Plain_covers c (u ∷ p) Skips count → Covers_then (Plain c) p n (counted u count) (take u Skips count)
skips_takes (Asks Sync) c p n count h = record { like = h.like; tidy = asks_less (state [] Skipping) (state (Sync ∷ []) Start) Sync p h.tidy; alone = alone_less c (Asks Sync) p h.alone; numbered = refl }
skips_takes (Asks r) c p n count h = record { like = h.like; tidy = asks_less (state [] Skipping) (state [] Skipping) r p h.tidy; alone = alone_less c (Asks r) p h.alone; numbered = tt }
skips_takes (Ends b) c p n count h = record { like = h.like; tidy = ends_less (state [] Skipping) (state [] Skipping) b p h.tidy; alone = alone_less c (Ends b) p h.alone; numbered = tt }

asked_alone : {A : Type 0} (x r : Request) (c : State) (p : List Up) → c ≡ pushes_up (Asks r ∷ p) (state (x ∷ []) Asked) → Tidy (state (x ∷ []) Asked) (Asks r ∷ p) → Alone c (Asks r ∷ p) → A
asked_alone x r c p e t a =
    let q : placed p Asked ≡ Asked = placed_clean p Asked (no_end_after (state (x ∷ []) Asked) r p t) in
    let f : c ≡ state (x ∷ (r ∷ asks p)) (placed p Asked) = e ∙ up_behind (Asks r ∷ p) x [] Asked in
    no_cons (Asks r) p (a (ap (λ (s : State). is_open s.place) f ∙ ap is_open q))

busy_asks : (x : Request) (place : Place) (c : State) (p : List Up) (quiet : Bool) (i n count : ℕ) → Plain_covers c (Asks Sync ∷ p) (Busy x place quiet i) count →
    Covers_then (Plain c) p n (count + 1) (drops x place quiet i)
busy_asks x Asked c p quiet i n count h = asked_alone x Sync c p h.like h.tidy h.alone
busy_asks x _ c p quiet i n count h = tt

busy_ends : (b : Bool) (x : Request) (place : Place) (c : State) (p : List Up) (quiet : Bool) (i n count : ℕ) → Plain_covers c (Ends b ∷ p) (Busy x place quiet i) count →
    Covers_then (Plain c) p n count (take_end b x place quiet i)
busy_ends b x Asked c p quiet i n count h =
    record { like = h.like; tidy = ends_less (state (x ∷ []) Asked) (state (x ∷ []) (given b Asked)) b p h.tidy; alone = alone_less c (Ends b) p h.alone; numbered = h.numbered }
busy_ends true x Both c p quiet i n count h =
    record { like = h.like; tidy = ends_less (state (x ∷ []) Both) (state (x ∷ []) BothOut) true p h.tidy; alone = alone_less c (Ends true) p h.alone; numbered = h.numbered }
busy_ends true x BothIn c p quiet i n count h =
    record { like = h.like; tidy = ends_less (state (x ∷ []) BothIn) (state (x ∷ []) BothDone) true p h.tidy; alone = alone_less c (Ends true) p h.alone; numbered = h.numbered }
busy_ends b x _ c p quiet i n count h = tt

busy_takes : (u : Up) (x : Request) (place : Place) (c : State) (p : List Up) (quiet : Bool) (i n count : ℕ) → Plain_covers c (u ∷ p) (Busy x place quiet i) count →
    Covers_then (Plain c) p n (counted u count) (take u (Busy x place quiet i) count)
busy_takes (Asks Sync) x place c p quiet i n count h = busy_asks x place c p quiet i n count h
busy_takes (Asks r) x place c p quiet i n count h = tt
busy_takes (Ends b) x place c p quiet i n count h = busy_ends b x place c p quiet i n count h

plain_takes : (u : Up) (c : State) (p : List Up) (s : Server) (n count : ℕ) → Plain_covers c (u ∷ p) s count → Covers_then (Plain c) p n (counted u count) (take u s count)
plain_takes u c p (Idle quiet) n count h = idle_takes u c p quiet n count h
plain_takes u c p Skips n count h = skips_takes u c p n count h
plain_takes u c p (Busy x place quiet i) n count h = busy_takes u x place c p quiet i n count h

reads_more : (p : List Up) (j : ℕ) (rest : List Request) (place : Place) → Reads p j rest place → Reads p (suc j) rest place
reads_more [] j rest place h = h
reads_more (Asks Sync ∷ p) (suc j) rest place h = reads_more p j rest place h
reads_more (Asks Sync ∷ p) zero rest place h = absurd h
reads_more (Asks _ ∷ p) j rest place h = absurd h
reads_more (Ends b ∷ p) j rest place h = h

copy_takes_at : (u : Up) (q : Place) (k : ℕ) (rest : List Request) (place : Place) (p : List Up) (quiet : Bool) (i n count : ℕ) →
    Copy_as q k rest place (u ∷ p) i n count → Covers_then (Copying k rest place) p n (counted u count) (take u (Busy Execute q quiet i) count)
copy_takes_at (Asks Sync) Asked k rest place p quiet i n count h =
    record { reads = reads_more p k rest place h.reads; numbered = h.numbered; before = (let b : i + 1 ≤ count = h.before in omega arith); syncs = h.syncs }
copy_takes_at (Asks Sync) _ k rest place p quiet i n count h = tt
copy_takes_at (Asks r) q k rest place p quiet i n count h = tt
copy_takes_at (Ends true) Asked k rest place p quiet i n count h = record { reads = h.reads; numbered = h.numbered; before = h.before; syncs = h.syncs }
copy_takes_at (Ends false) Asked k rest place p quiet i n count h = record { reads = h.reads; numbered = h.numbered; before = h.before; syncs = h.syncs }
copy_takes_at (Ends true) Both k rest place p quiet i n count h = absurd h.reads
copy_takes_at (Ends true) BothIn k rest place p quiet i n count h = absurd h.reads
copy_takes_at (Ends b) _ k rest place p quiet i n count h = tt

copy_takes : (u : Up) (k : ℕ) (rest : List Request) (place : Place) (p : List Up) (s : Server) (n count : ℕ) →
    Copy_covers k rest place (u ∷ p) s n count → Covers_then (Copying k rest place) p n (counted u count) (take u s count)
copy_takes u k rest place p (Busy Execute q quiet i) n count h = copy_takes_at u q k rest place p quiet i n count h
copy_takes u k rest place p _ n count h = absurd h

pub neat_clean : (p : List Up) → has_end p ≡ false → Neat p
neat_clean [] e = tt
neat_clean (Asks Sync ∷ p) e = neat_clean p e
neat_clean (Asks _ ∷ p) e = e
neat_clean (Ends b ∷ p) e = impossible (sym e)

group_idle : (u : Up) (first l m : ℕ) (rest : List Request) (skips : Bool) (p : List Up) (n count : ℕ) →
    Awaits (lead_up (u ∷ p)) first l m rest skips (u ∷ p) count → Covers_then (Group first l m rest skips) p n (counted u count) (take u (Idle true) count)
group_idle (Asks Sync) first l m rest skips p n count h = (record { low = h.low; high = h.high; same = h.same; neat = h.neat; from = h.from; quiet = h.quiet }, refl)
group_idle (Asks r) first l m rest skips p n count h = record { none = (let a : l ≤ 0 = h.low in omega arith); same = sym h.same; neat = h.neat; numbered = refl }
group_idle (Ends b) first l m rest skips p n count h = record { low = h.low; high = h.high; same = h.same; neat = neat_clean p h.neat; from = h.from; quiet = h.quiet }

not_empty : (skips : Bool) (rest : List Request) (r : Request) (qs : List Request) → r ∷ qs ≡ rest → (skips ≡ true → rest ≡ []) → skips ≡ false
not_empty false rest r qs e h = refl
not_empty true rest r qs e h = let f : r ∷ qs ≡ [] = e ∙ h refl in cc

group_skips : (u : Up) (first l m : ℕ) (rest : List Request) (skips : Bool) (p : List Up) (n count : ℕ) →
    Awaits (lead_up (u ∷ p)) first l m rest skips (u ∷ p) count → (skips ≡ false → 1 ≤ lead_up (u ∷ p)) → Covers_then (Group first l m rest skips) p n (counted u count) (take u Skips count)
group_skips (Asks Sync) first l m rest skips p n count h g = (record { low = h.low; high = h.high; same = h.same; neat = h.neat; from = h.from; quiet = h.quiet }, refl)
group_skips (Asks r) first l m rest skips p n count h g = let a : 1 ≤ 0 = g (not_empty skips rest r (asks p) h.same h.quiet) in absurd (omega arith)
group_skips (Ends b) first l m rest skips p n count h g = (record { low = h.low; high = h.high; same = h.same; neat = neat_clean p h.neat; from = h.from; quiet = h.quiet }, g)

no_group : (b : Bool) (place : Place) (quiet : Bool) (first l m : ℕ) (rest : List Request) (skips : Bool) (x : Request) (p : List Up) (i count : ℕ) → is_open place ≡ true →
    Group_busy b place quiet first l m rest skips x p i count → ⊥
no_group true Start quiet first l m rest skips x p i count e h = impossible e
no_group true _ true first l m rest skips x p i count e h = h
no_group true _ false first l m rest skips x p i count e h = h
no_group false Start quiet first l m rest skips x p i count e h = impossible e
no_group false _ quiet first l m rest skips x p i count e h = h

group_busy : (u : Up) (x : Request) (place : Place) (quiet : Bool) (first l m : ℕ) (rest : List Request) (skips : Bool) (p : List Up) (i n count : ℕ) →
    Group_busy (is_sync x) place quiet first l m rest skips x (u ∷ p) i count → Covers_then (Group first l m rest skips) p n (counted u count) (take u (Busy x place quiet i) count)
group_busy (Asks Sync) x Asked quiet first l m rest skips p i n count h = absurd (no_group (is_sync x) Asked quiet first l m rest skips x (Asks Sync ∷ p) i count refl h)
group_busy (Asks Sync) x _ quiet first l m rest skips p i n count h = tt
group_busy (Asks r) x place quiet first l m rest skips p i n count h = tt
group_busy (Ends b) x Asked quiet first l m rest skips p i n count h = absurd (no_group (is_sync x) Asked quiet first l m rest skips x (Ends b ∷ p) i count refl h)
group_busy (Ends true) x Both quiet first l m rest skips p i n count h = absurd (no_group (is_sync x) Both quiet first l m rest skips x (Ends true ∷ p) i count refl h)
group_busy (Ends true) x BothIn quiet first l m rest skips p i n count h = absurd (no_group (is_sync x) BothIn quiet first l m rest skips x (Ends true ∷ p) i count refl h)
group_busy (Ends b) x _ quiet first l m rest skips p i n count h = tt

group_takes : (u : Up) (first l m : ℕ) (rest : List Request) (skips : Bool) (p : List Up) (s : Server) (n count : ℕ) →
    Group_covers first l m rest skips (u ∷ p) s count → Covers_then (Group first l m rest skips) p n (counted u count) (take u s count)
group_takes u first l m rest skips p (Idle true) n count h = group_idle u first l m rest skips p n count h
group_takes u first l m rest skips p (Idle false) n count h = absurd h
group_takes u first l m rest skips p Skips n count h = group_skips u first l m rest skips p n count h.0 h.1
group_takes u first l m rest skips p (Busy x place quiet i) n count h = group_busy u x place quiet first l m rest skips p i n count h

pub covers_takes : (u : Up) (c : Client) (p : List Up) (s : Server) (n count : ℕ) → Covers c (u ∷ p) s n count → Covers_then c p n (counted u count) (take u s count)
covers_takes u (Plain c) p s n count h = plain_takes u c p s n count h
covers_takes u (Copying k rest place) p s n count h = copy_takes u k rest place p s n count h
covers_takes u (Group first l m rest skips) p s n count h = group_takes u first l m rest skips p s n count h
