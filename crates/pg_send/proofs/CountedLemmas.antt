-- Lists after their counts: how one is written element by element, how long it is, and that it is read
-- as itself.
use Rattle.std.proofs.Common.{◌≡◌, ℕ, ◌+◌, ◌*◌, ◌^◌, ◌<◌, ◌≤◌, leb, Option, Some, None, List, [], ◌∷◌, ◌++◌, length, take, get_or, map, All, suc, suc-mul, refl, sym, ap, ◌∙◌, arith, append_assoc, length-append}
use Rattle.std.specs.List.{flat_map}
use Rattle.std.specs.Option.{option_or}
use Rattle.pg_base.specs.Numbers.{be16, be32}
use Rattle.pg_base.specs.declared.error.ProtocolFault.{ProtocolFault}
use Rattle.pg_base.specs.Numbers.{max_count}
use Rattle.pg_base.specs.Reading.{Number, Numbers, Counted}
use Rattle.pg_base.proofs.RoundTripLemmas.{number_of_be16, number_of_be32}
use Rattle.std.proofs.lemmas.Bool.{leb-true}
use Rattle.pg_send.specs.Counted.{counted16, counted32, too_many}
use Rattle.pg_base.proofs.TaggedLemmas.{passed}
use Rattle.std.proofs.lemmas.List.{take_more, map_push, flat_map_more}
use Rattle.std.proofs.lemmas.List.Elements.{All-push, All-head, All-tail}
use Rattle.std.proofs.lemmas.List.Folds.{flat_map-map, length-flat_map-take}

module _ {X N : Type 0} (spell : N → List ℕ) (value : X → N) (xs : List X) (i : ℕ) (d : X) (before : i < length xs) where
  -- the bytes gain the spelling of one more
  pub one_more : (old count mid new : List ℕ) → mid ≡ old ++ (count ++ flat_map spell (map value (take i xs))) → new ≡ mid ++ spell (value (get_or xs i d))
      → new ≡ old ++ (count ++ flat_map spell (map value (take (i + 1) xs)))
  one_more old count mid new is adds =
      let there = is ∙ sym (append_assoc old count (flat_map spell (map value (take i xs)))) in
      rw (take_more xs i d before, map_push value (take i xs) (get_or xs i d))
      (adds ∙ ap (λ (l : List ℕ). l ++ spell (value (get_or xs i d))) there ∙ flat_map_more spell (old ++ count) (map value (take i xs)) (value (get_or xs i d))
      ∙ append_assoc old count (flat_map spell (map value (take i xs) ++ value (get_or xs i d) ∷ [])))

  -- room for all is room for one more
  pub room_for_one : (old count mid : List ℕ) (capacity : ℕ) → mid ≡ old ++ (count ++ flat_map spell (map value (take i xs))) → length old + length (count ++ flat_map spell (map value xs)) ≤ capacity
      → length mid + length (spell (value (get_or xs i d))) ≤ capacity
  room_for_one old count mid capacity is room =
      let fits = length-flat_map-take (λ x. spell (value x)) xs i d before in
      let fits_mapped : length (flat_map spell (map value (take i xs))) + length (spell (value (get_or xs i d))) ≤ length (flat_map spell (map value xs)) =
      rw (flat_map-map spell value (take i xs), flat_map-map spell value xs) fits in
      let len_mid = ap length is in
      omega (arith, fits_mapped, len_mid, length-append old (count ++ flat_map spell (map value (take i xs))), length-append count (flat_map spell (map value (take i xs))), length-append count (flat_map spell (map value xs)), room)

  -- and what holds of each value before holds of one more
  pub all_more : (P : N → Type 0) → All P (map value (take i xs)) → P (value (get_or xs i d)) → All P (map value (take (i + 1) xs))
  all_more P all one =
      rw (take_more xs i d before, map_push value (take i xs) (get_or xs i d)) (All-push P (map value (take i xs)) (value (get_or xs i d)) all one)

-- the length of a list after its count
each_long : (spell : ℕ → List ℕ) (width : ℕ) → ((n : ℕ) → length (spell n) ≡ width) → (ns : List ℕ) → length (flat_map spell ns) ≡ length ns * width
each_long spell width long [] = omega arith
each_long spell width long (n ∷ ns) =
    let step : suc (length ns) * width ≡ length ns * width + width = suc-mul (length ns) width in
    omega (arith, length-append (spell n) (flat_map spell ns), long n, each_long spell width long ns, step)

pub length-counted16 : (ns : List ℕ) → length (counted16 ns) ≡ 2 + length ns * 2
length-counted16 ns = omega (arith, each_long be16 2 (λ _. refl) ns, length-append (be16 (length ns)) (flat_map be16 ns))

pub length-counted32 : (ns : List ℕ) → length (counted32 ns) ≡ 2 + length ns * 4
length-counted32 ns = omega (arith, each_long be32 4 (λ _. refl) ns, length-append (be16 (length ns)) (flat_map be32 ns))

-- ---- round trip

read_numbers : (spell : ℕ → List ℕ) (width limit : ℕ) → ((n : ℕ) (rest : List ℕ) → n < limit → Number width (spell n ++ rest) n rest) → (ns rest : List ℕ) → All (λ n. n < limit) ns → Numbers width (flat_map spell ns ++ rest) ns rest
read_numbers spell width limit read [] rest small = refl
read_numbers spell width limit read (n ∷ ns) rest small = (
  flat_map spell ns ++ rest,
  rw append_assoc (read n (flat_map spell ns ++ rest) (All-head (λ n. n < limit) n ns small)),
  read_numbers spell width limit read ns rest (All-tail (λ n. n < limit) n ns small),
)

read_counted : (spell : ℕ → List ℕ) (width limit : ℕ) → ((n : ℕ) (rest : List ℕ) → n < limit → Number width (spell n ++ rest) n rest) → (ns rest : List ℕ) → length ns < 2 ^ 16 → All (λ n. n < limit) ns
    → Counted width ((be16 (length ns) ++ flat_map spell ns) ++ rest) ns rest
read_counted spell width limit read ns rest few small = record {
  after = flat_map spell ns ++ rest;
  count = number_of_be16 (length ns) (flat_map spell ns ++ rest) few;
  numbers = read_numbers spell width limit read ns rest small;
}

pub read_counted16 : (ns rest : List ℕ) → length ns < 2 ^ 16 → All (λ n. n < 2 ^ 16) ns → Counted 2 (counted16 ns ++ rest) ns rest
read_counted16 = read_counted be16 2 (2 ^ 16) number_of_be16

pub read_counted32 : (ns rest : List ℕ) → length ns < 2 ^ 16 → All (λ n. n < 2 ^ 32) ns → Counted 4 (counted32 ns ++ rest) ns rest
read_counted32 = read_counted be32 4 (2 ^ 32) number_of_be32

-- a count without a fault is one that two bytes can say
pub few : (make : ℕ → ProtocolFault) (count : ℕ) → too_many make count ≡ None → count < 2 ^ 16
few make count e = omega (arith, leb-true count max_count (passed (leb count max_count) (make count) e))

-- of two faults neither is there where the first of them is none
pub neither : (x y : Option ProtocolFault) → option_or x y ≡ None → (x ≡ None) × (y ≡ None)
neither None y e = (refl, e)
neither (Some f) y e = absurd (let clash : Some f ≡ None = e in cc)
