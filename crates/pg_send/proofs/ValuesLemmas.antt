-- Values that may be NULL: how long they are, and that they fit where a body is within the limits.
use Rattle.std.proofs.Common.{◌≡◌, ℕ, ◌+◌, ◌^◌, ◌<◌, ◌≤◌, List, [], ◌∷◌, ◌++◌, length, All, Option, Some, None, refl, arith, length-append}
use Rattle.std.specs.List.{flat_map}
use Rattle.std.proofs.lemmas.List.Elements.{All-head, All-tail}
use Rattle.pg_base.specs.Cutting.{max_length}
use Rattle.pg_base.specs.Numbers.{be16}
use Rattle.pg_format.specs.Format.{Format, Lawful, Means}
use Rattle.pg_format.specs.Format.Lists.{AllFit, counted, counted_least}
use Rattle.pg_format.specs.Format.Nullable.{value}
use Rattle.pg_format.specs.Format.Parts.{unsigned, be_u32}
use Rattle.pg_format.specs.Messages as page
use Rattle.std.proofs.lemmas.List.{append-nil}
use Rattle.pg_send.specs.Values.{value_text, counted_values}

-- what is written of a value that fits is read as it
pub itself : {A : Type 0} {g : Format A} → Lawful g → (v : A) → g.Fits v [] → Means g (g.Writes v) v
itself lawful v fits = rw append-nil at (lawful.written v [] fits)

pub one_meant : {A : Type 0} {g : Format A} → Lawful g → (bytes : List ℕ) (v w : A) → Means g bytes v → Means g bytes w → v ≡ w
one_meant lawful bytes v w p q = (lawful.one_value bytes [] [] v w p q).0

-- ---- numbers

numbers_fit : (width : ℕ) (ns rest : List ℕ) → All (λ n. n < 256 ^ width) ns → AllFit (unsigned width) ns rest
numbers_fit width [] rest h = tt
numbers_fit width (n ∷ ns) rest h = (All-head (λ n. n < 256 ^ width) n ns h, numbers_fit width ns rest (All-tail (λ n. n < 256 ^ width) n ns h))

pub codes_fit : (codes rest : List ℕ) → length codes < 2 ^ 16 → All (λ n. n < 2 ^ 16) codes → page.format_codes.Fits codes rest
codes_fit codes rest few small = ((few, (refl, numbers_fit 2 codes rest small)), refl)

pub types_fit : (types rest : List ℕ) → length types < 2 ^ 16 → All (λ n. n < 2 ^ 32) types → (counted_least 4 be_u32).Fits types rest
types_fit types rest few small = ((few, (refl, numbers_fit 4 types rest small)), refl)

-- ---- values

pub value_fits : (v : Option (List ℕ)) (rest : List ℕ) → length (value_text v) ≤ max_length → value.Fits v rest
value_fits None rest small = ((omega arith, refl), refl)
value_fits (Some v) rest small = ((omega (arith, small), (refl, refl)), refl)

all_fit : (vs : List (Option (List ℕ))) (rest : List ℕ) → length (flat_map value_text vs) ≤ max_length → AllFit value vs rest
all_fit [] rest small = tt
all_fit (v ∷ vs) rest small =
    let split = length-append (value_text v) (flat_map value_text vs) in
    (value_fits v (flat_map value.Writes vs ++ rest) (omega (arith, small, split)), all_fit vs rest (omega (arith, small, split)))

pub values_fit : (vs : List (Option (List ℕ))) (rest : List ℕ) → length vs < 2 ^ 16 → length (flat_map value_text vs) ≤ max_length → (counted value).Fits vs rest
values_fit vs rest few small = ((few, (refl, all_fit vs rest small)), refl)

pub length-counted_values : (vs : List (Option (List ℕ))) → length (counted_values vs) ≡ 2 + length (flat_map value_text vs)
length-counted_values vs = length-append (be16 (length vs)) (flat_map value_text vs)
