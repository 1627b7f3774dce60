-- Rows as the messages of a COPY. Documentation: "COPY Operations", and "Message Formats", CopyData.
use Rattle.std.specs.Prelude.{◌≡◌, ℕ, ◌≤◌, List, [], ◌∷◌, ◌++◌, length}
use Rattle.pg_message.specs.Message.{Cut, frame}

-- a statement as a Query message, by its tag Q
abbrev pub query_text : List ℕ → List ℕ
query_text statement = frame 81 (statement ++ 0 ∷ [])

-- bodies, one after the other
abbrev pub joined : List (List ℕ) → List ℕ
joined [] = []
joined (body ∷ bodies) = body ++ joined bodies

-- a CopyData message, by its tag d, for each body
abbrev pub copy_data : List (List ℕ) → List (ℕ × List ℕ)
copy_data [] = []
copy_data (body ∷ bodies) = (100, body) ∷ copy_data bodies

-- no body is longer
abbrev pub AreWithin : ℕ → List (List ℕ) → Type 0
AreWithin most [] = Unit {0}
AreWithin most (body ∷ bodies) = (length body ≤ most) × AreWithin most bodies

-- tags and lengths cut what is added into CopyData messages of at most so many bytes of data, and
-- their bodies joined are the rows
pub record AddsCopyOf (most : ℕ) (rows old new : List ℕ) : Type 0 where
  pub added : List ℕ
  pub bodies : List (List ℕ)
  pub adds : new ≡ old ++ added
  pub cut : Cut added (copy_data bodies)
  pub within : AreWithin most bodies
  pub joins : joined bodies ≡ rows

-- what is added is such a copy of a front of the rows
pub record AddsFrontOf (most : ℕ) (rows old new : List ℕ) : Type 0 where
  pub front : List ℕ
  pub rest : List ℕ
  pub splits : rows ≡ front ++ rest
  pub copies : AddsCopyOf most front old new
