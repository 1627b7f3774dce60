-- The values of a list that is walked in its bytes.
use Rattle.std.specs.Prelude.{ℕ, zero, suc, List, [], ◌∷◌, ◌⊎◌}
use Rattle.std.proofs.Common.{inl, inr}
use Rattle.pg_format.specs.Format.{Format, Total, IsRead, IsBroken}

-- the value that is read, and what follows it; nothing where it is broken
abbrev pub value_and : {A : Type 0} (g : Format A) (bytes : List ℕ) → (List ℕ → List A) → IsRead g bytes ⊎ IsBroken g 0 bytes → List A
value_and g bytes more (inl read) = read.0 ∷ more read.1
value_and g bytes more (inr broken) = []

-- so many values at the front of some bytes, or those before the first that is broken
abbrev pub values_in : {A : Type 0} {g : Format A} → Total g → ℕ → List ℕ → List A
values_in total zero bytes = []
values_in {g = g} total (suc n) bytes = value_and g bytes (values_in total n) (total.decides 0 bytes)
