-- Texts one after the other, each ended by a NUL, and lists of what such texts mean.
use Rattle.std.specs.Prelude.{ℕ, ◌==◌, List, [], ◌∷◌, Option, if◌then◌else◌}
use Rattle.std.specs.Option.{option_map_or}

-- a byte at the front of the first text, where there is one
abbrev pub onto_first_text : ℕ → List (List ℕ) → List (List ℕ)
onto_first_text byte [] = []
onto_first_text byte (text ∷ texts) = (byte ∷ text) ∷ texts

-- the texts; what follows the last NUL is none
unfoldable pub texts_in : List ℕ → List (List ℕ)
texts_in [] = []
texts_in (byte ∷ bytes) = if byte == 0 then [] ∷ texts_in bytes else onto_first_text byte (texts_in bytes)

-- what the texts mean, each one thing, up to the first that means none
abbrev pub meanings_of : {X : Type 0} → (List ℕ → Option X) → List (List ℕ) → List X
meanings_of meaning [] = []
meanings_of meaning (text ∷ texts) = option_map_or (λ x. x ∷ meanings_of meaning texts) (meaning text) []

-- each begins what the ones before it leave, and none begins the rest
abbrev pub AreInOrder : {X : Type 0} → (List ℕ → X → List ℕ → Type 0) → List ℕ → List X → Type 0
AreInOrder {X} Begins bytes [] = (x : X) (rest : List ℕ) → ¬ Begins bytes x rest
AreInOrder {X} Begins bytes (x ∷ more) = (rest : List ℕ) × Begins bytes x rest × AreInOrder Begins rest more
