-- The values of a list that is walked: in its bytes, and then in what a caller gives.
use Rattle.std.specs.Prelude.{◌≡◌, ℕ, Bool, List, ◌∷◌, ◌++◌, map}
use Rattle.pg_base.specs.Part.{PartLaw}
use Rattle.pg_format.specs.Format.{Format, Total}
use Rattle.pg_format.specs.Listed.{values_in}
use Rattle.pg_server.specs.Backend.OutboundItem.{IsItemPart}

-- the values of so many at the front of some bytes, and those of some items
abbrev pub listed : {I A : Type 0} {g : Format A} → Total g → (I → A) → ℕ → List ℕ → List I → List A
listed total shown left bytes given = values_in total left bytes ++ map shown given

-- a part is that of the first of some values, and the others follow
pub record IsFirst {V : Type 0} (format : Format V) (is_broken : V → Bool) (IsInRange : V → Type 0) (all rest : List V) (part : PartLaw) : Type 0 where
  pub value : V
  pub first : all ≡ value ∷ rest
  pub parts : IsItemPart format is_broken IsInRange value part
