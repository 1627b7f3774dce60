-- A client with Syncs before the end of its data takes all that a server's automaton allowed, and as an answer to the same request
-- or, where that can't be known, to one of the same group.
use Rattle.std.proofs.Common.{◌≡◌, ◌≤◌, ℕ, ◌+◌, ◌-◌, List, [], ◌∷◌, ◌++◌, length, inl, refl, sym, ap, ◌∙◌, subst, append_assoc, length-append, arith, Bool, true, Option, Some, None}
use Rattle.std.specs.Prelude.{IfSome, if◌then◌else◌, nat_le}
use Rattle.std.proofs.lemmas.Bool.{le-leb}
use Rattle.pg_flow.specs.declared.answer.Answer.{Answer}
use Rattle.pg_flow.specs.declared.place.Place.TheVariants.{Start}
use Rattle.pg_flow.specs.declared.request.Request.{Request}
use Rattle.pg_flow.specs.ClientFlow.{Client, end_data, hear, highest, lowest, number, say}
use Rattle.pg_flow.specs.Plain.{opens_data, state}
use Rattle.pg_flow.specs.ServerFlow.{Asks, Ends, Idle, Server, Up, counted, number_of, take, tell}
use Rattle.pg_flow.specs.World.{Answers, Behind_copy, Choice, Disagreed, Ends_data, Fine, Hears, Outcome, Says, Takes, Told, Told_as, World, at_first, ends_next, ends_with, hears_it, hears_next, picked, says_next, schedule, takes_it, takes_next, tells_next, while_agreed, world}
use Rattle.pg_flow.proofs.PlainLemmas.{asks, asks_ends, asks_last}
use Rattle.pg_flow.proofs.CoversLemmas.{Covers, Plain_covers}
use Rattle.pg_flow.proofs.TakesLemmas.{covers_takes}
use Rattle.pg_flow.proofs.HearsLemmas.{Heard_ok, covers_hears}
use Rattle.pg_flow.proofs.SaysLemmas.{Said_ok, covers_ends, covers_says}

-- the whole world

data Lags : Server → ℕ → List Up → List Told → Server → ℕ → Type 0 where
  here : (s : Server) (n : ℕ) → Lags s n [] [] s n
  takes : (u : Up) (s t : Server) (n : ℕ) (p : List Up) (ms : List Told) (z : Server) (k : ℕ) → take u s n ≡ Some t → Lags t (counted u n) p ms z k → Lags s n (u ∷ p) ms z k
  tells : (m : Answer) (s t : Server) (n : ℕ) (p : List Up) (ms : List Told) (z : Server) (k : ℕ) → tell m s ≡ Some t → Lags t n p ms z k → Lags s n p (Told_as m (number_of s) ∷ ms) z k

lag_takes : {s z : Server} {n k : ℕ} {p : List Up} {ms : List Told} → Lags s n p ms z k → (u : Up) (y : Server) → take u z k ≡ Some y → Lags s n (p ++ u ∷ []) ms y (counted u k)
lag_takes (here s n) u y e = takes u s y n [] [] y (counted u n) e (here y (counted u n))
lag_takes (takes v s t n p ms z k a h) u y e = takes v s t n (p ++ u ∷ []) ms y (counted u k) a (lag_takes h u y e)
lag_takes (tells m s t n p ms z k a h) u y e = tells m s t n (p ++ u ∷ []) ms y (counted u k) a (lag_takes h u y e)

lag_tells : {s z : Server} {n k : ℕ} {p : List Up} {ms : List Told} → Lags s n p ms z k → (m : Answer) (y : Server) → tell m z ≡ Some y → Lags s n p (ms ++ Told_as m (number_of z) ∷ []) y k
lag_tells (here s n) m y e = tells m s y n [] [] y n e (here y n)
lag_tells (takes v s t n p ms z k a h) m y e = takes v s t n p (ms ++ Told_as m (number_of z) ∷ []) y k a (lag_tells h m y e)
lag_tells (tells x s t n p ms z k a h) m y e = tells x s t n p (ms ++ Told_as m (number_of z) ∷ []) y k a (lag_tells h m y e)

-- The client's state covers where the server was when it said what the client heard last, with all that the client said since.
record Follows_it (client : Client) (n : ℕ) (server : Server) (k : ℕ) (up : List Up) (down : List Told) : Type 0 where
  shadow : Server
  count : ℕ
  taken : List Up
  lags : Lags shadow count taken down server k
  covers : Covers client (taken ++ up) shadow n count
  number : n ≡ count + length (asks (taken ++ up))

abbrev Next_ok : Client → ℕ → Server → ℕ → List Up → List Told → Answer → ℕ → Option Client → Type 0
Next_ok client n server k up ms m j None = opens_data m ≡ true
Next_ok client n server k up ms m j (Some c) = (lowest n m client ≤ j) × (j ≤ highest n m client) × Follows_it c n server k up ms

abbrev Hears_next : Client → ℕ → Server → ℕ → List Up → List Told → Type 0
Hears_next client n server k up [] = Unit {0}
Hears_next client n server k up (Told_as m j ∷ ms) = Next_ok client n server k up ms m j (hear n m client)

then_some : {A : Type 0} (o : Option A) (t : A) (P : A → Type 0) → o ≡ Some t → IfSome o P → P t
then_some o t P e h = subst (λ (x : Option _). IfSome x P) e h

next_ok : (o : Option Client) (client : Client) (n : ℕ) (t z : Server) (count k : ℕ) (p up : List Up) (ms : List Told) (m : Answer) (j : ℕ) → Lags t count p ms z k → n ≡ count + length (asks (p ++ up)) →
    Heard_ok n m j o (lowest n m client) (highest n m client) (p ++ up) t count → Next_ok client n z k up ms m j o
next_ok None client n t z count k p up ms m j l e h = h
next_ok (Some c) client n t z count k p up ms m j l e h = (h.0, h.1, record { shadow = t; count = count; taken = p; lags = l; covers = h.2; number = e })

count_takes : (u : Up) (n count : ℕ) (p : List Up) → n ≡ count + length (asks (u ∷ p)) → n ≡ counted u count + length (asks p)
count_takes (Asks r) n count p e = omega arith
count_takes (Ends b) n count p e = e

client_hears : {s z : Server} {count k : ℕ} {p : List Up} {ms : List Told} → Lags s count p ms z k → (up : List Up) (c : Client) (n : ℕ) → Covers c (p ++ up) s n count → n ≡ count + length (asks (p ++ up)) →
    Hears_next c n z k up ms
client_hears (here s count) up c n h e = tt
client_hears (takes u s t count p ms z k a l) up c n h e =
    client_hears l up c n (then_some (take u s count) t (λ x. Covers c (p ++ up) x n (counted u count)) a (covers_takes u c (p ++ up) s n count h)) (count_takes u n count (p ++ up) e)
client_hears (tells m s t count p ms z k a l) up c n h e =
    next_ok (hear n m c) c n t z count k p up ms m (number_of s) l e
    (then_some (tell m s) t (λ x. Heard_ok n m (number_of s) (hear n m c) (lowest n m c) (highest n m c) (p ++ up) x count) a (covers_hears n m c (p ++ up) s count h e))

abbrev Good_as : Outcome → World → Type 0
Good_as Fine w = Follows_it w.client w.said_count w.server w.taken_count w.up w.down
Good_as Behind_copy w = Unit {0}
Good_as Disagreed w = ⊥

abbrev Good : World → Type 0
Good w = Good_as w.outcome w

abbrev Follows : World → Type 0
Follows w = Follows_it w.client w.said_count w.server w.taken_count w.up w.down

says_good : (o : Option Client) (w : World) (r : Request) (f : Follows w) → Good w → Said_ok (f.taken ++ w.up) (Asks r) f.shadow (w.said_count + 1) f.count o → Good (says_next w r o)
says_good None w r f g h = g
says_good (Some c) w r f g h =
    let whole : List Up = f.taken ++ w.up in
    let e : whole ++ Asks r ∷ [] ≡ f.taken ++ (w.up ++ Asks r ∷ []) = append_assoc f.taken w.up (Asks r ∷ []) in
    record {
      shadow = f.shadow;
      count = f.count;
      taken = f.taken;
      lags = f.lags;
      covers = subst (λ (p : List Up). Covers c p f.shadow (w.said_count + 1) f.count) e h;
      number =
          let a : length (asks (f.taken ++ (w.up ++ Asks r ∷ []))) ≡ length (asks whole) + 1 =
          ap (λ (p : List Up). length (asks p)) (sym e) ∙ ap length (asks_last whole r) ∙ length-append (asks whole) (r ∷ []) in
          let b : w.said_count ≡ f.count + length (asks whole) = f.number in
          omega arith;
    }

ends_good : (o : Option Client) (w : World) (b : Bool) (f : Follows w) → Good w → Said_ok (f.taken ++ w.up) (Ends b) f.shadow w.said_count f.count o → Good (ends_next w b o)
ends_good None w b f g h = g
ends_good (Some c) w b f g h =
    let whole : List Up = f.taken ++ w.up in
    let e : whole ++ Ends b ∷ [] ≡ f.taken ++ (w.up ++ Ends b ∷ []) = append_assoc f.taken w.up (Ends b ∷ []) in
    record {
      shadow = f.shadow;
      count = f.count;
      taken = f.taken;
      lags = f.lags;
      covers = subst (λ (p : List Up). Covers c p f.shadow w.said_count f.count) e h;
      number = f.number ∙ ap (λ (l : List Request). f.count + length l) (sym (asks_ends whole b)) ∙ ap (λ (p : List Up). f.count + length (asks p)) e;
    }

takes_some : (o : Option Server) (w : World) (u : Up) (up : List Up) → take u w.server w.taken_count ≡ o → w.up ≡ u ∷ up → Follows w → Good w → Good (takes_it w u up o)
takes_some None w u up e a f g = g
takes_some (Some t) w u up e a f g =
    let z : f.taken ++ w.up ≡ (f.taken ++ u ∷ []) ++ up = ap (λ (l : List Up). f.taken ++ l) a ∙ sym (append_assoc f.taken (u ∷ []) up) in
    record {
      shadow = f.shadow;
      count = f.count;
      taken = f.taken ++ u ∷ [];
      lags = lag_takes f.lags u t e;
      covers = subst (λ (p : List Up). Covers w.client p f.shadow w.said_count f.count) z f.covers;
      number = f.number ∙ ap (λ (p : List Up). f.count + length (asks p)) z;
    }

takes_good : (up : List Up) (w : World) → w.up ≡ up → Follows w → Good w → Good (takes_next w up)
takes_good [] w a f g = g
takes_good (u ∷ up) w a f g = takes_some (take u w.server w.taken_count) w u up refl a f g

tells_good : (o : Option Server) (w : World) (m : Answer) → tell m w.server ≡ o → Follows w → Good w → Good (tells_next w m o)
tells_good None w m e f g = g
tells_good (Some t) w m e f g = record { shadow = f.shadow; count = f.count; taken = f.taken; lags = lag_tells f.lags m t e; covers = f.covers; number = f.number }

heard_good : (o : Option Client) (w : World) (m : Answer) (j : ℕ) (ms : List Told) → Next_ok w.client w.said_count w.server w.taken_count w.up ms m j o → Good (hears_it w ms m j o)
heard_good None w m j ms h = let P : Bool → Type 0 = λ b. Good (ends_with w (if b then Behind_copy else Disagreed)) in subst P (sym h) tt
heard_good (Some c) w m j ms h =
    let low : ℕ = lowest w.said_count m w.client in
    let high : ℕ = highest w.said_count m w.client in
    let next : World = world c w.said_count w.server w.taken_count w.up ms in
    let P : Bool → Type 0 = λ b. Good (if b then (if nat_le j high then next else ends_with w Disagreed) else ends_with w Disagreed) in
    let Q : Bool → Type 0 = λ b. Good (if b then next else ends_with w Disagreed) in
    subst P (sym (le-leb low j h.0)) (subst Q (sym (le-leb j high h.1)) h.2)

hears_good : (down : List Told) (w : World) → Good w → Hears_next w.client w.said_count w.server w.taken_count w.up down → Good (hears_next w down)
hears_good [] w g h = g
hears_good (Told_as m j ∷ ms) w g h = heard_good (hear w.said_count m w.client) w m j ms h

picked_good : (c : Choice) (w : World) → Good w → Follows w → Good (picked c w)
picked_good (Says r) w g f = says_good (say r w.client) w r f g (covers_says r w.client (f.taken ++ w.up) f.shadow w.said_count f.count f.covers f.number)
picked_good (Ends_data b) w g f = ends_good (end_data b w.client) w b f g (covers_ends b w.client (f.taken ++ w.up) f.shadow w.said_count f.count f.covers)
picked_good Takes w g f = takes_good w.up w refl f g
picked_good (Answers m) w g f = tells_good (tell m w.server) w m refl f g
picked_good Hears w g f = hears_good w.down w g (client_hears f.lags w.up w.client w.said_count f.covers f.number)

step_good : (o : Outcome) (c : Choice) (w : World) → Good w → Good_as o w → Good (while_agreed o (picked c w) w)
step_good Fine c w g f = picked_good c w g f
step_good Behind_copy c w g f = g
step_good Disagreed c w g f = g

plan_good : (cs : List Choice) (w : World) → Good w → Good (schedule cs w)
plan_good [] w g = g
plan_good (c ∷ cs) w g = plan_good cs (while_agreed w.outcome (picked c w) w) (step_good w.outcome c w g g)

pub ends_agreed : (cs : List Choice) → (schedule cs at_first).outcome ≡ Disagreed → ⊥
ends_agreed cs e =
    let w : World = schedule cs at_first in
    let begin : Plain_covers (state [] Start) [] (Idle true) 0 = record { like = refl; tidy = inl refl; alone = (λ _. refl); numbered = tt } in
    let g : Good w = plan_good cs at_first (record { shadow = Idle true; count = 0; taken = []; lags = here (Idle true) 0; covers = begin; number = refl }) in
    subst (λ (o : Outcome). Good_as o w) e g
