-- Texts as a message has them. Documentation: "Message Data Types", String.
use Rattle.std.specs.Prelude.{ℕ, List, [], ◌∷◌, ◌++◌}

-- a text and the NUL that ends it
abbrev pub ended : List ℕ → List ℕ
ended text = text ++ 0 ∷ []
