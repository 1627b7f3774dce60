-- Lists in a body: one more item of one, how long one is, and what has no fault.
use Rattle.std.proofs.Common.{◌≡◌, ◌≢◌, ℕ, zero, suc, ◌+◌, ◌≤◌, ◌<◌, eqb, leb, Bool, true, false, Option, Some, None, List, [], ◌∷◌, ◌++◌, length, take, get_or, map, All, refl, sym, ap, ◌∙◌, arith, ◌||◌}
use Rattle.std.specs.List.{flat_map, list_any}
use Rattle.std.specs.Option.{option_or, is_some}
use Rattle.std.proofs.lemmas.Bool.{eq-eqb, leb-true}
use Rattle.std.proofs.lemmas.List.{take_more, map_push, flat_map_more}
use Rattle.std.proofs.lemmas.List.Elements.{All-push}
use Rattle.std.proofs.lemmas.List.Folds.{flat_map-map, length-flat_map-take}
use Rattle.pg_base.specs.Reading.{HoldsNo}
use Rattle.pg_base.specs.declared.error.ProtocolFault.{ProtocolFault}
use Rattle.pg_base.specs.declared.error.ProtocolFault.TheVariants.{TooMany, TextHoldsNul}
use Rattle.pg_server.specs.Backend.OutboundItem.{too_many, holds_nul, nul_fault}
use Rattle.pg_base.proofs.TaggedLemmas.{passed}

module _ {X N : Type 0} (spell : N → List ℕ) (value : X → N) (xs : List X) (i : ℕ) (d : X) (before : i < length xs) where
  -- one more and those before it are no longer than all
  pub fits_one : length (flat_map spell (map value (take i xs))) + length (spell (value (get_or xs i d))) ≤ length (flat_map spell (map value xs))
  fits_one = rw (flat_map-map spell value (take i xs), flat_map-map spell value xs) (length-flat_map-take (λ x. spell (value x)) xs i d before)

  -- the bytes gain the spelling of one more
  pub one_more : (old mid new : List ℕ) → mid ≡ old ++ flat_map spell (map value (take i xs)) → new ≡ mid ++ spell (value (get_or xs i d))
      → new ≡ old ++ flat_map spell (map value (take (i + 1) xs))
  one_more old mid new is adds =
      rw (take_more xs i d before, map_push value (take i xs) (get_or xs i d))
      (adds ∙ ap (λ (l : List ℕ). l ++ spell (value (get_or xs i d))) is ∙ flat_map_more spell old (map value (take i xs)) (value (get_or xs i d)))

  -- and what holds of each value before holds of one more
  pub all_more : (P : N → Type 0) → All P (map value (take i xs)) → P (value (get_or xs i d)) → All P (map value (take (i + 1) xs))
  all_more P all one =
      rw (take_more xs i d before, map_push value (take i xs) (get_or xs i d)) (All-push P (map value (take i xs)) (value (get_or xs i d)) all one)

-- ---- tests

or_true : (b : Bool) → (b || true) ≡ true
or_true true = refl
or_true false = refl

not_true : (b : Bool) → (b ≡ true → true ≡ false) → b ≡ false
not_true true h = h refl
not_true false h = refl

-- one value that passes is enough
pub any_at : {X N : Type 0} (test : N → Bool) (value : X → N) (xs : List X) (i : ℕ) (d : X) → i < length xs → test (value (get_or xs i d)) ≡ true → list_any test (map value xs) ≡ true
any_at test value [] i d lt e = absurd (omega (arith, lt))
any_at test value (x ∷ xs) zero d lt e = ap (λ b. b || list_any test (map value xs)) e
any_at test value (x ∷ xs) (suc i) d lt e = ap (λ b. test (value x) || b) (any_at test value xs i d (omega (arith, lt)) e) ∙ or_true (test (value x))

-- none that passes is among them
pub none_at : {X N : Type 0} (test : N → Bool) (value : X → N) (xs : List X) (i : ℕ) (d : X) → i < length xs → list_any test (map value xs) ≡ false → test (value (get_or xs i d)) ≡ false
none_at test value xs i d lt e = not_true (test (value (get_or xs i d))) (λ is. sym (any_at test value xs i d lt is) ∙ e)

-- a test that never passes
pub never_any : {A : Type 0} (xs : List A) → list_any (λ (x : A). false) xs ≡ false
never_any [] = refl
never_any (x ∷ xs) = never_any xs

-- ---- faults

pub or_none : {A : Type 0} (x : Option A) → option_or x None ≡ x
or_none None = refl
or_none (Some y) = refl

-- that of a list whose items have none is that of its count
pub count_alone : {A : Type 0} (fault : Option ProtocolFault) (xs : List A) → option_or fault (nul_fault (list_any (λ (x : A). false) xs)) ≡ fault
count_alone fault xs = rw (never_any xs) (or_none fault)

-- what has a fault is broken
pub broken : (holds : Bool) {fault : Option ProtocolFault} → fault ≡ nul_fault holds → is_some fault ≡ true → holds ≡ true
broken true is some = refl
broken false is some = absurd (let clash : false ≡ true = ap is_some (sym is) ∙ some in cc)

pub neither_is : (x y : Bool) → (x || y) ≡ false → (x ≡ false) × (y ≡ false)
neither_is true y e = absurd (let clash : true ≡ false = e in cc)
neither_is false y e = (refl, e)

pub no_nul_fault : (holds : Bool) → nul_fault holds ≡ None → holds ≡ false
no_nul_fault true e = absurd (let clash : Some TextHoldsNul ≡ None = e in cc)
no_nul_fault false e = refl

-- two texts without a fault
pub both_clean : (x y : Bool) → option_or (nul_fault x) (nul_fault y) ≡ None → (x ≡ false) × (y ≡ false)
both_clean true y e = absurd (let clash : Some TextHoldsNul ≡ None = e in cc)
both_clean false y e = (refl, no_nul_fault y e)

pub few : (most count : ℕ) → too_many most count ≡ None → count ≤ most
few most count e = leb-true count most (passed (leb count most) (TooMany count) e)

pub neither : (x y : Option ProtocolFault) → option_or x y ≡ None → (x ≡ None) × (y ≡ None)
neither None y e = (refl, e)
neither (Some f) y e = absurd (let clash : Some f ≡ None = e in cc)

no_zero : (b : ℕ) → eqb b 0 ≡ false → b ≢ 0
no_zero b e is = absurd (let clash : true ≡ false = sym (eq-eqb b 0 is) ∙ e in cc)

-- a text in which no NUL was found
pub clean : (text : List ℕ) → holds_nul text ≡ false → HoldsNo 0 text
clean [] e = tt
clean (b ∷ bytes) e = let both = neither_is (eqb b 0) (holds_nul bytes) e in (no_zero b both.0, clean bytes both.1)
