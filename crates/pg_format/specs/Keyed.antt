-- Of what is keyed, the last of a key counts; of what may be wrong, the first fault.
use Rattle.std.specs.Prelude.{◌≢◌, ℕ, ◌==◌, List, [], ◌∷◌, Option, None, if◌then◌else◌}
use Rattle.std.specs.Option.{option_or}
use Rattle.pg_base.specs.declared.error.ProtocolFault.{ProtocolFault}

-- a value as it is
abbrev pub plain : List ℕ → List ℕ
plain value = value

-- what is seen in the last value of a key, or the default where there is none
abbrev pub last : {A : Type 0} → (List ℕ → A) → A → ℕ → List (ℕ × List ℕ) → A
last view default key [] = default
last view default key (pair ∷ pairs) = last view (if pair.0 == key then view pair.1 else default) key pairs

-- none of them has the key
abbrev pub IsAbsent : ℕ → List (ℕ × List ℕ) → Type 0
IsAbsent key [] = Unit {0}
IsAbsent key (pair ∷ pairs) = (pair.0 ≢ key) × IsAbsent key pairs

-- the own fault of the first, or where it has none, the fault of the others
abbrev pub first_fault_of : {A : Type 0} → (A → Option ProtocolFault) → List A → Option ProtocolFault
first_fault_of own [] = None
first_fault_of own (x ∷ xs) = option_or (own x) (first_fault_of own xs)
