-- The mechanisms that a server offers are given one by one.
use Rattle.std.proofs.Common.{◌≡◌, ℕ, ◌+◌, ◌<◌, ◌≤◌, Some, List, [], ◌∷◌, ◌++◌, length, set, sym, ap, ◌∙◌, arith, append_assoc, length-append}
use Rattle.pg_base.specs.Reading.{Text}
use Rattle.pg_c.specs.Place.{part}
use Rattle.pg_c.specs.declared.place.PgmsgSpan.{PgmsgSpan}
use Rattle.pg_c.proofs.ReadListsLemmas.{GivesAll, one_more, no_more}
use Rattle.pg_c.proofs.PlaceLemmas.{bytes_are}

module _ (names_in : List ℕ → List (List ℕ)) (body start : List ℕ) where
  abbrev pub GivesNames : List ℕ → ℕ → ℕ → List PgmsgSpan → List PgmsgSpan → Type 0
  GivesNames rest at count old new = GivesAll names_in (part body) body start rest at count old new

  module _ (rest : List ℕ) (at count : ℕ) (old new : List PgmsgSpan) (name after : List ℕ) (p : GivesNames rest at count old new) (q : Text rest name after) (first : names_in rest ≡ name ∷ names_in after) where
    abbrev place : PgmsgSpan
    place = record { at = at; len = length name }

    abbrev spelled : List ℕ
    spelled = name ++ 0 ∷ []

    rest_is : rest ≡ spelled ++ after
    rest_is = q.parts ∙ sym (append_assoc name (0 ∷ []) after)

    place_is : part body place ≡ Some name
    place_is = bytes_are body p.before name (0 ∷ after) at (p.parts ∙ ap (λ (l : List ℕ). p.before ++ l) q.parts) p.up_to

    wide : length spelled ≡ length name + 1
    wide = length-append name (0 ∷ [])

    pub one_more_name : count < length new → GivesNames after (at + (length name + 1)) (count + 1) old (set new count place)
    one_more_name lt = rw (← wide) (one_more names_in (part body) body start rest at count old new p place name spelled after rest_is place_is first (omega (arith, wide)) lt)

    pub no_more_name : length new ≤ count → GivesNames after (at + (length name + 1)) (count + 1) old new
    no_more_name le = rw (← wide) (no_more names_in (part body) body start rest at count old new p name spelled after rest_is first (omega (arith, wide)) le)
