-- The things that stand one after the other in some bytes are given one by one.
use Rattle.std.proofs.Common.{◌≡◌, ℕ, ◌+◌, ◌<◌, ◌≤◌, Option, Some, List, [], ◌∷◌, ◌++◌, length, set, refl, sym, ap, ◌∙◌, arith, append_assoc, append-nil, length-append}
use Rattle.pg_c.specs.Read.{AreGiven}
use Rattle.pg_c.proofs.ReadLemmas.{none_given, one_more_given, no_more_given}

-- `count` things are read from `start` on, up to an offset of the body, and the rest is left
pub record GivesAll {X P : Type 0} (things_in : List ℕ → List X) (thing_at : P → Option X) (body start rest : List ℕ) (at count : ℕ) (old new : List P) : Type 0 where
  pub things : List X
  pub counted : length things ≡ count
  pub few : count ≤ at
  pub before : List ℕ
  pub up_to : length before ≡ at
  pub parts : body ≡ before ++ rest
  pub all : things_in start ≡ things ++ things_in rest
  pub given : AreGiven thing_at things old new

pub none_yet : {X P : Type 0} (things_in : List ℕ → List X) (thing_at : P → Option X) (body before start : List ℕ) (at : ℕ) (places : List P) → length before ≡ at → body ≡ before ++ start
    → GivesAll things_in thing_at body start start at 0 places places
none_yet things_in thing_at body before start at places up_to parts =
    record { things = []; counted = refl; few = omega arith; before = before; up_to = up_to; parts = parts; all = refl; given = none_given thing_at places }

module _ {X P : Type 0} (things_in : List ℕ → List X) (thing_at : P → Option X) (body start rest : List ℕ) (at count : ℕ) (old new : List P) (p : GivesAll things_in thing_at body start rest at count old new) where
  -- where the next thing is
  pub next_parts : (spelled after : List ℕ) → rest ≡ spelled ++ after → body ≡ p.before ++ (spelled ++ after)
  next_parts spelled after e = p.parts ∙ ap (λ (l : List ℕ). p.before ++ l) e

  next_all : (x : X) (after : List ℕ) → things_in rest ≡ x ∷ things_in after → things_in start ≡ (p.things ++ x ∷ []) ++ things_in after
  next_all x after e = p.all ∙ ap (λ (l : List X). p.things ++ l) e ∙ sym (append_assoc p.things (x ∷ []) (things_in after))

  pub one_more : (place : P) (x : X) (spelled after : List ℕ) → rest ≡ spelled ++ after → thing_at place ≡ Some x → things_in rest ≡ x ∷ things_in after → 0 < length spelled → count < length new
      → GivesAll things_in thing_at body start after (at + length spelled) (count + 1) old (set new count place)
  one_more place x spelled after e at_place is some lt = record {
    things = p.things ++ x ∷ [];
    counted = omega (arith, p.counted, length-append p.things (x ∷ []));
    few = omega (arith, p.few, some);
    before = p.before ++ spelled;
    up_to = omega (arith, p.up_to, length-append p.before spelled);
    parts = next_parts spelled after e ∙ sym (append_assoc p.before spelled after);
    all = next_all x after is;
    given = rw (← p.counted) (one_more_given thing_at p.things old new place x p.given at_place (omega (arith, lt, p.counted)));
  }

  pub no_more : (x : X) (spelled after : List ℕ) → rest ≡ spelled ++ after → things_in rest ≡ x ∷ things_in after → 0 < length spelled → length new ≤ count
      → GivesAll things_in thing_at body start after (at + length spelled) (count + 1) old new
  no_more x spelled after e is some le = record {
    things = p.things ++ x ∷ [];
    counted = omega (arith, p.counted, length-append p.things (x ∷ []));
    few = omega (arith, p.few, some);
    before = p.before ++ spelled;
    up_to = omega (arith, p.up_to, length-append p.before spelled);
    parts = next_parts spelled after e ∙ sym (append_assoc p.before spelled after);
    all = next_all x after is;
    given = no_more_given thing_at p.things old new x p.given (omega (arith, le, p.counted));
  }

  pub at_the_end : things_in rest ≡ [] → (count ≡ length (things_in start)) × AreGiven thing_at (things_in start) old new
  at_the_end none =
      let all : things_in start ≡ p.things = p.all ∙ ap (λ (l : List X). p.things ++ l) none ∙ append-nil p.things in
      (omega (arith, p.counted, ap length all), rw all p.given)
