-- A client says a request or the end of the data of a COPY, and its state covers where the server is.
use Rattle.std.proofs.Common.{◌≡◌, ◌≤◌, ℕ, zero, suc, ◌+◌, ◌-◌, List, [], ◌∷◌, ◌++◌, length, inr, refl, sym, ap, ◌∙◌, subst, length-append, arith, Bool, true, false, Option, Some, None}
use Rattle.std.specs.Prelude.{IfSome, if◌then◌else◌}
use Rattle.pg_flow.specs.declared.place.Place.{Place}
use Rattle.pg_flow.specs.declared.place.Place.TheVariants.{Asked, Given, Skipping, Start, Withheld}
use Rattle.pg_flow.specs.declared.request.Request.{Request}
use Rattle.pg_flow.specs.declared.request.Request.TheVariants.{Execute, Sync}
use Rattle.pg_flow.specs.ClientFlow.{Client, Copying, Group, Plain, behind, end_data, is_only_execute, lead, number, say, say_asked, say_behind, say_group, say_open}
use Rattle.pg_flow.specs.Plain.{State, given, is_asked, is_open, is_sync, may_end, said, state}
use Rattle.pg_flow.specs.ServerFlow.{Asks, Busy, Ends, Idle, Server, Skips, Up}
use Rattle.pg_flow.proofs.PlainLemmas.{Tidy, asks, asks_last, ends_open, given_asked, given_gone, has_end_last, impossible, late_asked, push, pushes_last, pushes_up, said_not, tidy_last}
use Rattle.pg_flow.proofs.RestLemmas.{rest}
use Rattle.pg_flow.proofs.CoversLemmas.{Awaits, Copy_as, Copy_at, Copy_covers, Covers, Group_busy, Group_covers, Neat, Numbered, Plain_covers, Reads, Rest_is, Sync_first, behind_up, lead_up, plain_of}
use Rattle.pg_flow.proofs.TakesLemmas.{neat_clean}

-- the client says a request

abbrev pub Said_ok : List Up → Up → Server → ℕ → ℕ → Option Client → Type 0
Said_ok p u s n count o = IfSome o (λ c. Covers c (p ++ u ∷ []) s n count)

only_one : (qs : List Request) → is_only_execute qs ≡ true → qs ≡ Execute ∷ []
only_one [] e = impossible e
only_one (Execute ∷ []) e = refl
only_one (_ ∷ []) e = impossible e
only_one (x ∷ (y ∷ ys)) e = impossible e

only_asked : (place : Place) → is_asked place ≡ true → place ≡ Asked
only_asked Asked e = refl
only_asked _ e = impossible e

-- the server reads the data of an Execute
record Reading (s : Server) (count : ℕ) : Type 0 where
  quiet : Bool
  number : ℕ
  is : s ≡ Busy Execute Asked quiet number
  numbered : number + 1 ≡ count

reading : (s : Server) (count : ℕ) (qs : List Request) (place : Place) → state qs place ≡ plain_of s → is_only_execute qs ≡ true → is_asked place ≡ true → Numbered s count → Reading s count
reading (Idle quiet) count qs place e a b num = let f : place ≡ Start = ap (λ (u : State). u.place) e in impossible (sym (ap is_asked f) ∙ b)
reading Skips count qs place e a b num = let f : place ≡ Skipping = ap (λ (u : State). u.place) e in impossible (sym (ap is_asked f) ∙ b)
reading (Busy r q quiet i) count qs place e a b num =
    let f : q ≡ Asked = sym (ap (λ (u : State). u.place) e) ∙ only_asked place b in
    let g : r ∷ [] ≡ Execute ∷ [] = sym (ap (λ (u : State). u.queue) e) ∙ only_one qs a in
    let h : r ≡ Execute = cc in
    record { quiet = quiet; number = i; is = ap (λ (z : Request). Busy z q quiet i) h ∙ ap (λ (z : Place). Busy Execute z quiet i) f; numbered = num }

first_early : (s : Server) (n count : ℕ) → n ≡ count → Reading s count → Copy_covers 0 [] Asked (Asks Sync ∷ []) s (n + 1) count
first_early s n count e f =
    let a : f.number + 1 ≡ count = f.numbered in
    let g : Copy_as Asked 0 [] Asked (Asks Sync ∷ []) f.number (n + 1) count = record { reads = (refl, refl); numbered = omega arith; before = omega arith; syncs = tt } in
    subst (λ (t : Server). Copy_covers 0 [] Asked (Asks Sync ∷ []) t (n + 1) count) (sym f.is) g

nothing_on_its_way : (s : Server) (n count : ℕ) (p : List Up) → p ≡ [] → n ≡ count + length (asks p) → Reading s count → Copy_covers 0 [] Asked (p ++ Asks Sync ∷ []) s (n + 1) count
nothing_on_its_way s n count p none e f =
    let g : n ≡ count + 0 = e ∙ ap (λ (l : List Up). count + length (asks l)) none in
    subst (λ (l : List Up). Copy_covers 0 [] Asked (l ++ Asks Sync ∷ []) s (n + 1) count) (sym none) (first_early s n count (omega arith) f)

asked_if : (b : Bool) (s : Server) (n count : ℕ) (p : List Up) → (b ≡ true → Copy_covers 0 [] Asked (p ++ Asks Sync ∷ []) s (n + 1) count) →
    Said_ok p (Asks Sync) s (n + 1) count (if b then Some (Copying 0 [] Asked) else None)
asked_if true s n count p h = h refl
asked_if false s n count p h = tt

asked_says : (r : Request) (c : State) (p : List Up) (s : Server) (n count : ℕ) → is_open c.place ≡ true → is_asked c.place ≡ true → Plain_covers c p s count → n ≡ count + length (asks p) →
    Said_ok p (Asks r) s (n + 1) count (say_asked c.queue r)
asked_says Sync c p s n count o b h e =
    let none : p ≡ [] = h.alone o in
    let same : c ≡ plain_of s = h.like ∙ ap (λ (l : List Up). pushes_up l (plain_of s)) none in
    asked_if (is_only_execute c.queue) s n count p (λ a. nothing_on_its_way s n count p none e (reading s count c.queue c.place same a b h.numbered))
asked_says _ c p s n count o b h e = tt

open_says : (b : Bool) (r : Request) (c : State) (p : List Up) (s : Server) (n count : ℕ) → is_open c.place ≡ true → is_asked c.place ≡ b → Plain_covers c p s count → n ≡ count + length (asks p) →
    Said_ok p (Asks r) s (n + 1) count (if b then say_asked c.queue r else None)
open_says true r c p s n count o b h e = asked_says r c p s n count o b h e
open_says false r c p s n count o b h e = tt

plain_says_if : (b : Bool) (r : Request) (c : State) (p : List Up) (s : Server) (n count : ℕ) → is_open c.place ≡ b → Plain_covers c p s count → n ≡ count + length (asks p) →
    Said_ok p (Asks r) s (n + 1) count (if b then say_open c.queue c.place r else Some (Plain (said r c)))
plain_says_if true r c p s n count b h e = open_says (is_asked c.place) r c p s n count b refl h e
plain_says_if false r c p s n count b h e =
    record {
      like = ap (said r) h.like ∙ sym (pushes_last p (Asks r) (plain_of s));
      tidy = tidy_last (plain_of s) p r h.tidy;
      alone = (λ f. impossible (sym (said_not c.queue c.place r b) ∙ f));
      numbered = h.numbered;
    }

reads_sync : (p : List Up) (j : ℕ) (rest : List Request) (place : Place) → Reads p j rest place → is_asked place ≡ true → Reads (p ++ Asks Sync ∷ []) (suc j) rest place
reads_sync [] j rest place h e = h
reads_sync (Asks Sync ∷ p) (suc j) rest place h e = reads_sync p j rest place h e
reads_sync (Asks Sync ∷ p) zero rest place h e = absurd h
reads_sync (Asks _ ∷ p) j rest place h e = absurd h
reads_sync (Ends b ∷ p) j rest place h e = impossible (sym (given_asked b) ∙ sym (ap is_asked h.0) ∙ e)

reads_rest : (p : List Up) (j : ℕ) (rest : List Request) (place : Place) (r : Request) → Reads p j rest place → is_asked place ≡ false → Reads (p ++ Asks r ∷ []) j (rest ++ r ∷ []) place
reads_rest [] j rest place r h e = impossible (sym e ∙ ap is_asked h.0)
reads_rest (Asks Sync ∷ p) (suc j) rest place r h e = reads_rest p j rest place r h e
reads_rest (Asks Sync ∷ p) zero rest place r h e = absurd h
reads_rest (Asks _ ∷ p) j rest place r h e = absurd h
reads_rest (Ends b ∷ p) j rest place r h e = (h.0, asks_last p r ∙ ap (λ (l : List Request). l ++ r ∷ []) h.1, has_end_last p r ∙ h.2)

copy_sync_at : (q : Place) (k : ℕ) (rest : List Request) (place : Place) (p : List Up) → Copy_at q k rest place p → is_asked place ≡ true → Copy_at q (suc k) rest place (p ++ Asks Sync ∷ [])
copy_sync_at Asked k rest place p h e = reads_sync p (suc k) rest place h e
copy_sync_at Given k rest place p h e = impossible (sym (ap is_asked h.0) ∙ e)
copy_sync_at Withheld k rest place p h e = impossible (sym (ap is_asked h.0) ∙ e)
copy_sync_at _ k rest place p h e = h

copy_rest_at : (q : Place) (k : ℕ) (rest : List Request) (place : Place) (p : List Up) (r : Request) → Copy_at q k rest place p → is_asked place ≡ false →
    Copy_at q k (rest ++ r ∷ []) place (p ++ Asks r ∷ [])
copy_rest_at Asked k rest place p r h e = reads_rest p (suc k) rest place r h e
copy_rest_at Given k rest place p r h e = (h.0, asks_last p r ∙ ap (λ (l : List Request). l ++ r ∷ []) h.1, has_end_last p r ∙ h.2)
copy_rest_at Withheld k rest place p r h e = (h.0, asks_last p r ∙ ap (λ (l : List Request). l ++ r ∷ []) h.1, has_end_last p r ∙ h.2)
copy_rest_at _ k rest place p r h e = h

copy_sync_as : (k : ℕ) (rest : List Request) (place : Place) (p : List Up) (s : Server) (n count : ℕ) → Copy_covers k rest place p s n count → is_asked place ≡ true →
    Copy_covers (suc k) rest place (p ++ Asks Sync ∷ []) s (n + 1) count
copy_sync_as k rest place p (Busy Execute q quiet i) n count h e =
    let a : i + (length rest + (k + 2)) ≡ n = h.numbered in
    record { reads = copy_sync_at q k rest place p h.reads e; numbered = omega arith; before = h.before; syncs = h.syncs }
copy_sync_as k rest place p _ n count h e = h

copy_rest_as : (k : ℕ) (rest : List Request) (place : Place) (p : List Up) (s : Server) (n count : ℕ) (r : Request) → Copy_covers k rest place p s n count → is_asked place ≡ false →
    Sync_first (rest ++ r ∷ []) → Copy_covers k (rest ++ r ∷ []) place (p ++ Asks r ∷ []) s (n + 1) count
copy_rest_as k rest place p (Busy Execute q quiet i) n count r h e f =
    let a : i + (length rest + (k + 2)) ≡ n = h.numbered in
    let b : length (rest ++ r ∷ []) ≡ length rest + 1 = length-append rest (r ∷ []) in
    record { reads = copy_rest_at q k rest place p r h.reads e; numbered = omega arith; before = h.before; syncs = f }
copy_rest_as k rest place p _ n count r h e f = h

sync_first_of : (k : ℕ) (rest : List Request) (place : Place) (p : List Up) (s : Server) (n count : ℕ) → Copy_covers k rest place p s n count → Sync_first rest
sync_first_of k rest place p (Busy Execute q quiet i) n count h = h.syncs
sync_first_of k rest place p _ n count h = absurd h

copy_behind : (rest : List Request) (r : Request) (k : ℕ) (place : Place) (p : List Up) (s : Server) (n count : ℕ) → Copy_covers k rest place p s n count → is_asked place ≡ false →
    Said_ok p (Asks r) s (n + 1) count (say_behind k rest place r)
copy_behind [] Sync k place p s n count h e = copy_rest_as k [] place p s n count Sync h e refl
copy_behind [] _ k place p s n count h e = tt
copy_behind (x ∷ rest) r k place p s n count h e = copy_rest_as k (x ∷ rest) place p s n count r h e (sync_first_of k (x ∷ rest) place p s n count h)

copy_asked : (r : Request) (k : ℕ) (rest : List Request) (place : Place) (p : List Up) (s : Server) (n count : ℕ) → Copy_covers k rest place p s n count → is_asked place ≡ true →
    Said_ok p (Asks r) s (n + 1) count (if is_sync r then Some (Copying (suc k) rest place) else None)
copy_asked Sync k rest place p s n count h e = copy_sync_as k rest place p s n count h e
copy_asked _ k rest place p s n count h e = tt

copy_says_if : (b : Bool) (r : Request) (k : ℕ) (rest : List Request) (place : Place) (p : List Up) (s : Server) (n count : ℕ) → Copy_covers k rest place p s n count → is_asked place ≡ b →
    Said_ok p (Asks r) s (n + 1) count (if b then (if is_sync r then Some (Copying (suc k) rest place) else None) else say_behind k rest place r)
copy_says_if true r k rest place p s n count h e = copy_asked r k rest place p s n count h e
copy_says_if false r k rest place p s n count h e = copy_behind rest r k place p s n count h e

-- one more behind a group

record More (p q : List Up) (plus : ℕ) (rest : List Request) : Type 0 where
  lead : lead_up q ≡ lead_up p + plus
  behind : behind_up q ≡ rest
  neat : Neat q

more_sync : (p : List Up) → behind_up p ≡ [] → Neat p → More p (p ++ Asks Sync ∷ []) 1 []
more_sync [] e h = record { lead = refl; behind = refl; neat = tt }
more_sync (Asks Sync ∷ p) e h =
    let f : More p (p ++ Asks Sync ∷ []) 1 [] = more_sync p e h in
    let a : lead_up (p ++ Asks Sync ∷ []) ≡ lead_up p + 1 = f.lead in
    record { lead = omega arith; behind = f.behind; neat = f.neat }
more_sync (Asks _ ∷ p) e h = cc
more_sync (Ends b ∷ p) e h =
    let f : More p (p ++ Asks Sync ∷ []) 1 [] = more_sync p e (neat_clean p h) in
    record { lead = f.lead; behind = f.behind; neat = has_end_last p Sync ∙ h }

more_other : (p : List Up) (r : Request) → is_sync r ≡ false → Neat p → More p (p ++ Asks r ∷ []) 0 (behind_up p ++ r ∷ [])
more_other [] Sync e h = impossible (sym e)
more_other [] _ e h = record { lead = refl; behind = refl; neat = refl }
more_other (Asks Sync ∷ p) r e h =
    let f : More p (p ++ Asks r ∷ []) 0 (behind_up p ++ r ∷ []) = more_other p r e h in
    let a : lead_up (p ++ Asks r ∷ []) ≡ lead_up p + 0 = f.lead in
    record { lead = omega arith; behind = f.behind; neat = f.neat }
more_other (Asks x ∷ p) r e h = record { lead = refl; behind = ap (λ (l : List Request). x ∷ l) (asks_last p r); neat = has_end_last p r ∙ h }
more_other (Ends b ∷ p) r e h =
    let f : More p (p ++ Asks r ∷ []) 0 (behind_up p ++ r ∷ []) = more_other p r e (neat_clean p h) in
    record { lead = f.lead; behind = f.behind; neat = has_end_last p r ∙ h }

more_rest : (p : List Up) (r x : Request) (xs : List Request) → behind_up p ≡ x ∷ xs → Neat p → More p (p ++ Asks r ∷ []) 0 (x ∷ (xs ++ r ∷ []))
more_rest [] r x xs e h = cc
more_rest (Asks Sync ∷ p) r x xs e h =
    let f : More p (p ++ Asks r ∷ []) 0 (x ∷ (xs ++ r ∷ [])) = more_rest p r x xs e h in
    let a : lead_up (p ++ Asks r ∷ []) ≡ lead_up p + 0 = f.lead in
    record { lead = omega arith; behind = f.behind; neat = f.neat }
more_rest (Asks y ∷ p) r x xs e h =
    record { lead = refl; behind = ap (λ (l : List Request). y ∷ l) (asks_last p r) ∙ ap (λ (l : List Request). l ++ r ∷ []) e; neat = has_end_last p r ∙ h }
more_rest (Ends b ∷ p) r x xs e h =
    let f : More p (p ++ Asks r ∷ []) 0 (x ∷ (xs ++ r ∷ [])) = more_rest p r x xs e (neat_clean p h) in
    record { lead = f.lead; behind = f.behind; neat = has_end_last p r ∙ h }

await_more : (t u d first l k m : ℕ) (rest more : List Request) (skips now : Bool) (p q : List Up) (at : ℕ) → Awaits t first l m rest skips p at → More p q d more →
    u ≡ t + d → k ≡ l + d → (now ≡ true → more ≡ []) → Awaits u first k m more now q at
await_more t u d first l k m rest more skips now p q at h f e₁ e₂ g =
    let a : l ≤ t = h.low in
    let b : t ≤ l + m + 1 = h.high in
    record { low = omega arith; high = omega arith; same = f.behind; neat = f.neat; from = h.from; quiet = g }

-- how a group's state goes on to the next, where one more request is said
record Grows (l k d : ℕ) (rest more : List Request) (skips now : Bool) (p q : List Up) (count : ℕ) : Type 0 where
  least : k ≡ l + d
  quiet : (skips ≡ true → rest ≡ []) → now ≡ true → more ≡ []
  way : behind_up p ≡ rest → Neat p → More p q d more
  sure : (skips ≡ false → 1 ≤ lead_up p) → now ≡ false → 1 ≤ lead_up p + d
  alone : (r : Request) (i : ℕ) → Rest_is l rest r p i count → Rest_is k more r q i count

busy_grows : (b : Bool) (place : Place) (quiet : Bool) (first l k m d : ℕ) (rest more : List Request) (skips now : Bool) (r : Request) (p q : List Up) (i count : ℕ) → Grows l k d rest more skips now p q count →
    Group_busy b place quiet first l m rest skips r p i count → Group_busy b place quiet first k m more now r q i count
busy_grows true Start true first l k m d rest more skips now r p q i count g h =
    let f : More p q d more = g.way h.0.same h.0.neat in
    let e : lead_up q ≡ lead_up p + d = f.lead in
    (await_more (lead_up p + 1) (lead_up q + 1) d first l k m rest more skips now p q i h.0 f (omega arith) g.least (g.quiet h.0.quiet), h.1)
busy_grows true Start false first l k m d rest more skips now r p q i count g h = absurd h
busy_grows true _ quiet first l k m d rest more skips now r p q i count g h = absurd h
busy_grows false Start quiet first l k m d rest more skips now r p q i count g h = g.alone r i h
busy_grows false _ quiet first l k m d rest more skips now r p q i count g h = absurd h

group_grows : (s : Server) (first l k m d : ℕ) (rest more : List Request) (skips now : Bool) (p q : List Up) (count : ℕ) → Grows l k d rest more skips now p q count →
    Group_covers first l m rest skips p s count → Group_covers first k m more now q s count
group_grows (Idle true) first l k m d rest more skips now p q count g h =
    let f : More p q d more = g.way h.same h.neat in await_more (lead_up p) (lead_up q) d first l k m rest more skips now p q count h f f.lead g.least (g.quiet h.quiet)
group_grows (Idle false) first l k m d rest more skips now p q count g h = absurd h
group_grows Skips first l k m d rest more skips now p q count g h =
    let f : More p q d more = g.way h.0.same h.0.neat in
    let e : lead_up q ≡ lead_up p + d = f.lead in (
      await_more (lead_up p) (lead_up q) d first l k m rest more skips now p q count h.0 f f.lead g.least (g.quiet h.0.quiet),
      (λ z. let a : 1 ≤ lead_up p + d = g.sure h.1 z in omega arith),
    )
group_grows (Busy r place quiet i) first l k m d rest more skips now p q count g h = busy_grows (is_sync r) place quiet first l k m d rest more skips now r p q i count g h

not_alone : {A : Type 0} (l : ℕ) (r : Request) (p : List Up) (i count : ℕ) → Rest_is l [] r p i count → A
not_alone l r p i count h = let e : [] ≡ r ∷ asks p = h.same in cc

grows_sync : (l : ℕ) (skips : Bool) (p : List Up) (count : ℕ) → Grows l (suc l) 1 [] [] skips false p (p ++ Asks Sync ∷ []) count
grows_sync l skips p count =
    record { least = omega arith; quiet = (λ e f. refl); way = more_sync p; sure = (λ a b. omega arith); alone = (λ r i h. not_alone l r p i count h) }

grows_other : (l : ℕ) (p : List Up) (r : Request) (count : ℕ) → is_sync r ≡ false → Grows l l 0 [] (r ∷ []) false false p (p ++ Asks r ∷ []) count
grows_other l p r count e =
    record {
      least = omega arith;
      quiet = (λ a f. impossible f);
      way = (λ f h. subst (λ (q : List Request). More p (p ++ Asks r ∷ []) 0 (q ++ r ∷ [])) f (more_other p r e h));
      sure = (λ a b. let c : 1 ≤ lead_up p = a refl in omega arith);
      alone = (λ x i h. not_alone l x p i count h);
    }

rest_more : (l : ℕ) (x : Request) (xs : List Request) (p : List Up) (r y : Request) (i count : ℕ) → Rest_is l (x ∷ xs) y p i count → Rest_is l (x ∷ (xs ++ r ∷ [])) y (p ++ Asks r ∷ []) i count
rest_more l x xs p r y i count h =
    record { none = h.none; same = ap (λ (q : List Request). q ++ r ∷ []) h.same ∙ ap (λ (q : List Request). y ∷ q) (sym (asks_last p r)); neat = has_end_last p r ∙ h.neat; numbered = h.numbered }

grows_rest : (l : ℕ) (x : Request) (xs : List Request) (skips : Bool) (p : List Up) (r : Request) (count : ℕ) → Grows l l 0 (x ∷ xs) (x ∷ (xs ++ r ∷ [])) skips skips p (p ++ Asks r ∷ []) count
grows_rest l x xs skips p r count =
    record {
      least = omega arith;
      quiet = (λ f e. let g : x ∷ xs ≡ [] = f e in cc);
      way = more_rest p r x xs;
      sure = (λ a b. let c : 1 ≤ lead_up p = a b in omega arith);
      alone = (λ y i h. rest_more l x xs p r y i count h);
    }

group_says : (rest : List Request) (skips : Bool) (r : Request) (first l m : ℕ) (p : List Up) (s : Server) (n count : ℕ) → Group_covers first l m rest skips p s count →
    Said_ok p (Asks r) s (n + 1) count (say_group first l m rest skips r)
group_says [] skips Sync first l m p s n count h = group_grows s first l (suc l) m 1 [] [] skips false p (p ++ Asks Sync ∷ []) count (grows_sync l skips p count) h
group_says [] true _ first l m p s n count h = tt
group_says [] false r first l m p s n count h = group_grows s first l l m 0 [] (r ∷ []) false false p (p ++ Asks r ∷ []) count (grows_other l p r count refl) h
group_says (x ∷ xs) skips r first l m p s n count h =
    group_grows s first l l m 0 (x ∷ xs) (x ∷ (xs ++ r ∷ [])) skips skips p (p ++ Asks r ∷ []) count (grows_rest l x xs skips p r count) h

pub covers_says : (r : Request) (c : Client) (p : List Up) (s : Server) (n count : ℕ) → Covers c p s n count → n ≡ count + length (asks p) → Said_ok p (Asks r) s (n + 1) count (say r c)
covers_says r (Plain c) p s n count h e = plain_says_if (is_open c.place) r c p s n count refl h e
covers_says r (Copying k rest place) p s n count h e = copy_says_if (is_asked place) r k rest place p s n count h refl
covers_says r (Group first l m rest skips) p s n count h e = group_says rest skips r first l m p s n count h

-- the client says the end of the data

plain_ends_if : (b whole : Bool) (c : State) (p : List Up) (s : Server) (n count : ℕ) → may_end whole c.place ≡ b → Plain_covers c p s count →
    Said_ok p (Ends whole) s n count (if b then Some (Plain (state c.queue (given whole c.place))) else None)
plain_ends_if true whole c p s n count b h =
    let open_now : is_open c.place ≡ true = ends_open whole c.place b in
    let none : p ≡ [] = h.alone open_now in
    let same : c ≡ plain_of s = h.like ∙ ap (λ (l : List Up). pushes_up l (plain_of s)) none in
    let asked : is_open (plain_of s).place ≡ true = subst (λ (u : State). is_open u.place ≡ true) same open_now in
    record {
      like = ap (push (Ends whole)) h.like ∙ sym (pushes_last p (Ends whole) (plain_of s));
      tidy = subst (λ (l : List Up). Tidy (plain_of s) (l ++ Ends whole ∷ [])) (sym none) (inr (refl, late_asked (plain_of s).queue (plain_of s).place asked));
      alone = (λ f. impossible (sym (given_gone whole c.place b) ∙ f));
      numbered = h.numbered;
    }
plain_ends_if false whole c p s n count b h = tt

reads_ends : (p : List Up) (j : ℕ) (rest : List Request) (place : Place) (b : Bool) → Reads p j rest place → is_asked place ≡ true → Reads (p ++ Ends b ∷ []) j rest (given b place)
reads_ends [] j rest place b h e = (ap (given b) h.0, sym h.1, refl)
reads_ends (Asks Sync ∷ p) (suc j) rest place b h e = reads_ends p j rest place b h e
reads_ends (Asks Sync ∷ p) zero rest place b h e = absurd h
reads_ends (Asks _ ∷ p) j rest place b h e = absurd h
reads_ends (Ends c ∷ p) j rest place b h e = impossible (sym (given_asked c) ∙ sym (ap is_asked h.0) ∙ e)

copy_end_at : (q : Place) (k : ℕ) (rest : List Request) (place : Place) (p : List Up) (b : Bool) → Copy_at q k rest place p → is_asked place ≡ true → Copy_at q k rest (given b place) (p ++ Ends b ∷ [])
copy_end_at Asked k rest place p b h e = reads_ends p (suc k) rest place b h e
copy_end_at Given k rest place p b h e = impossible (sym (ap is_asked h.0) ∙ e)
copy_end_at Withheld k rest place p b h e = impossible (sym (ap is_asked h.0) ∙ e)
copy_end_at _ k rest place p b h e = absurd h

copy_ends : (k : ℕ) (rest : List Request) (place : Place) (p : List Up) (s : Server) (n count : ℕ) (b : Bool) → Copy_covers k rest place p s n count → is_asked place ≡ true →
    Copy_covers k rest (given b place) (p ++ Ends b ∷ []) s n count
copy_ends k rest place p (Busy Execute q quiet i) n count b h e = record { reads = copy_end_at q k rest place p b h.reads e; numbered = h.numbered; before = h.before; syncs = h.syncs }
copy_ends k rest place p _ n count b h e = h

copy_ends_if : (b whole : Bool) (k : ℕ) (rest : List Request) (place : Place) (p : List Up) (s : Server) (n count : ℕ) → is_asked place ≡ b → Copy_covers k rest place p s n count →
    Said_ok p (Ends whole) s n count (if b then Some (Copying k rest (given whole place)) else None)
copy_ends_if true whole k rest place p s n count b h = copy_ends k rest place p s n count whole h b
copy_ends_if false whole k rest place p s n count b h = tt

pub covers_ends : (whole : Bool) (c : Client) (p : List Up) (s : Server) (n count : ℕ) → Covers c p s n count → Said_ok p (Ends whole) s n count (end_data whole c)
covers_ends whole (Plain c) p s n count h = plain_ends_if (may_end whole c.place) whole c p s n count refl h
covers_ends whole (Copying k rest place) p s n count h = copy_ends_if (is_asked place) whole k rest place p s n count refl h
covers_ends whole (Group first l m rest skips) p s n count h = tt
