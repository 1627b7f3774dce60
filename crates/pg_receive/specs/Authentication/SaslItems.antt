-- The items of SASL data: pieces between commas. Each has a key, a byte that isn't looked at, and a
-- value.

use Rattle.std.specs.Prelude.{◌≡◌, ◌≢◌, ℕ, List, [], ◌∷◌, Option, unwrap_or}
use Rattle.std.specs.Borrow.{Bor}
use Rattle.std.specs.List.{join_with_byte}
use Rattle.std.specs.Option.{option_map_or}
use Rattle.pg_base.specs.Reading.{HoldsNo}
use Rattle.pg_format.specs.Sasl.{base64_of, items_in}

abbrev pub comma : ℕ
comma = 44

abbrev pub EachHoldsNo : ℕ → List (List ℕ) → Type 0
EachHoldsNo byte [] = Unit {0}
EachHoldsNo byte (item ∷ items) = HoldsNo byte item × EachHoldsNo byte items

-- pieces without a comma, at least one, that joined by commas are the data
pub record AreItems (bytes : List ℕ) (items : List (List ℕ)) : Type 0 where
  pub some_are_there : items ≢ []
  pub clean : EachHoldsNo comma items
  pub joined : join_with_byte comma items ≡ bytes

-- the items of the bytes that are left, and none where nothing is
abbrev pub items_left : Option (Bor (List ℕ)) → List (List ℕ)
items_left left = option_map_or (λ rest. items_in rest.now) left []

-- an item is a key, any one byte, and a value
abbrev pub IsKeyAndValue : List ℕ → ℕ → List ℕ → Type 0
IsKeyAndValue item key value = (separator : ℕ) × (item ≡ key ∷ separator ∷ value)

-- an item without room for a key and what parts it from its value
abbrev pub IsShortItem : List ℕ → Type 0
IsShortItem [] = Unit {0}
IsShortItem (key ∷ []) = Unit {0}
IsShortItem (key ∷ separator ∷ value) = ⊥

abbrev pub base64_value : List ℕ → List ℕ
base64_value value = unwrap_or (base64_of value) []
