-- A stream of tagged messages, and where each ends. Documentation: "Messaging Overview".
use Rattle.std.specs.Prelude.{◌≡◌, ℕ, ◌+◌, ◌≤◌, List, [], ◌∷◌, ◌++◌, length, pos}
use Rattle.pg_base.specs.Numbers.{be32, int}

-- the greatest length field
abbrev pub max_length : ℕ
max_length = 2147483647

-- the bytes begin with one message: its tag, a length that counts itself and the body, and the body
pub record Begins (bytes : List ℕ) (tag : ℕ) (body rest : List ℕ) : Type 0 where
  pub field : List ℕ
  pub wide : length field ≡ 4
  pub counts : int field ≡ pos (4 + length body)
  pub fits : 4 + length body ≤ max_length
  pub parts : bytes ≡ tag ∷ (field ++ body ++ rest)

-- tags and lengths cut the bytes into just these messages, each a tag and a body
abbrev pub Cut : List ℕ → List (ℕ × List ℕ) → Type 0
Cut bytes [] = bytes ≡ []
Cut bytes (message ∷ more) = (rest : List ℕ) × Begins bytes message.0 message.1 rest × Cut rest more

-- and into no others
pub record IsCutInto (bytes : List ℕ) (messages : List (ℕ × List ℕ)) : Type 0 where
  pub cut : Cut bytes messages
  pub only : (others : List (ℕ × List ℕ)) → Cut bytes others → others ≡ messages

-- a message as it stands on the stream
abbrev pub frame : ℕ → List ℕ → List ℕ
frame tag body = tag ∷ (be32 (length body + 4) ++ body)
