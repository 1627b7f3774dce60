-- Values that may be NULL, each after its length. Documentation: "Message Formats", Bind (F).
use Rattle.std.specs.Prelude.{ℕ, List, ◌++◌, length, map, Option}
use Rattle.std.specs.List.{flat_map}
use Rattle.pg_base.specs.declared.error.ProtocolFault.TheVariants.{BadParams}
use Rattle.pg_base.specs.Numbers.{be16}
use Rattle.pg_base.specs.Part.{PartLaw}
use Rattle.pg_format.specs.Format.Nullable.{value}
use Rattle.pg_send.specs.Counted.{too_many}

-- a value after its length, and NULL as a length of -1, as the page writes them
abbrev pub value_text : Option (List ℕ) → List ℕ
value_text v = value.Writes v

-- values, one after the other
abbrev pub values_text : List (Option (List ℕ)) → List ℕ
values_text values = flat_map value_text values

-- the same of items that hold a value each
abbrev pub texts : {V : Type 0} → (V → Option (List ℕ)) → List V → List ℕ
texts value items = values_text (map value items)

-- values after their count
abbrev pub counted_values : List (Option (List ℕ)) → List ℕ
counted_values values = be16 (length values) ++ values_text values

abbrev pub values : List (Option (List ℕ)) → PartLaw
values vs = record { text = counted_values vs; fault = too_many (λ _. BadParams) (length vs); IsInRange = Unit {0} }
