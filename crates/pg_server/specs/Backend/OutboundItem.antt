-- Lists in a body, and what is wrong with them.
use Rattle.std.specs.Prelude.{ℕ, ◌==◌, ◌||◌, Bool, true, false, List, [], ◌∷◌, length, map, All, Option, Some, None, nat_le, if◌then◌else◌}
use Rattle.std.specs.List.{flat_map, list_any}
use Rattle.pg_base.specs.Numbers.{be16}
use Rattle.pg_base.specs.Part.{PartLaw}
use Rattle.pg_base.specs.Tagged.{IsSame}
use Rattle.pg_base.specs.Ended.{ended}
use Rattle.pg_base.specs.declared.error.ProtocolFault.{ProtocolFault}
use Rattle.pg_base.specs.declared.error.ProtocolFault.TheVariants.{TooMany, TextHoldsNul}
use Rattle.pg_format.specs.Format.{Format}
use Rattle.pg_format.specs.Messages.{key_fault}

-- the most that an unsigned count of two bytes can say, and a signed one
abbrev pub max_unsigned : ℕ
max_unsigned = 65535

abbrev pub max_signed : ℕ
max_signed = 32767

-- the fault of a list that is longer, of which it tells the length
abbrev pub too_many : ℕ → ℕ → Option ProtocolFault
too_many most count = if nat_le count most then None else Some (TooMany count)

-- a NUL is among the bytes
abbrev pub holds_nul : List ℕ → Bool
holds_nul bytes = list_any (λ byte. byte == 0) bytes

-- the fault of texts of which one holds a NUL
abbrev pub nul_fault : Bool → Option ProtocolFault
nul_fault holds = if holds then Some TextHoldsNul else None

abbrev pub text_fault : List ℕ → Option ProtocolFault
text_fault text = nul_fault (holds_nul text)

abbrev pub is_empty : List ℕ → Bool
is_empty [] = true
is_empty (byte ∷ bytes) = false

-- it would end a list of names
abbrev pub breaks_names : List ℕ → Bool
breaks_names name = is_empty name || holds_nul name

-- what items say, of what a caller has in their places
abbrev pub said : {T I V : Type 0} → (T → I) → (I → V) → List T → List V
said item value had = map (λ x. value (item x)) had

-- ---- parts

-- a text and the NUL that ends it, which holds no other
abbrev pub text_part : List ℕ → PartLaw
text_part text = record { text = ended text; fault = text_fault text; IsInRange = Unit {0} }

-- the same of a text that isn't empty
abbrev pub name_part : List ℕ → PartLaw
name_part name = record { text = ended name; fault = nul_fault (breaks_names name); IsInRange = Unit {0} }

-- a key of a length that can be sent
abbrev pub key_part : List ℕ → PartLaw
key_part key = record { text = key; fault = key_fault (length key); IsInRange = Unit {0} }

-- an item, which may be broken
abbrev pub item_part : {V : Type 0} → Format V → (V → Bool) → (V → Type 0) → V → PartLaw
item_part format is_broken IsInRange value = record { text = format.Writes value; fault = nul_fault (is_broken value); IsInRange = IsInRange value }

-- the part is that of an item with this value
abbrev pub IsItemPart : {V : Type 0} → Format V → (V → Bool) → (V → Type 0) → V → PartLaw → Type 0
IsItemPart format is_broken IsInRange value part = IsSame part (item_part format is_broken IsInRange value)

-- items, one after the other
abbrev pub items_part : {V : Type 0} → Format V → (V → Bool) → (V → Type 0) → List V → PartLaw
items_part format is_broken IsInRange values = record { text = flat_map format.Writes values; fault = nul_fault (list_any is_broken values); IsInRange = All IsInRange values }

-- how many items follow, at most so many
abbrev pub count_part : ℕ → ℕ → PartLaw
count_part most count = record { text = be16 count; fault = too_many most count; IsInRange = Unit {0} }
