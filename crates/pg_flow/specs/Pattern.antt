-- What a list of messages looks like, in the words of a grammar.
use Rattle.std.specs.Prelude.{◌≡◌, List, [], ◌∷◌, ◌++◌, ◌⊎◌}
use Rattle.pg_flow.specs.declared.answer.Answer.{Answer}

pub data Pattern : Type 0 where
  Never : Pattern
  Nothing : Pattern
  Is : Answer → Pattern
  Then : Pattern → Pattern → Pattern
  Either : Pattern → Pattern → Pattern
  Many : Pattern → Pattern

-- lists with P, one after another
pub data Repeats (P : List Answer → Type 0) : List Answer → Type 0 where
  none : Repeats P []
  more : (a b w : List Answer) → w ≡ a ++ b → P a → Repeats P b → Repeats P w

abbrev pub Matches : Pattern → List Answer → Type 0
Matches Never w = ⊥
Matches Nothing w = w ≡ []
Matches (Is m) w = w ≡ m ∷ []
Matches (Then p q) w = (a : List Answer) × (b : List Answer) × (w ≡ a ++ b) × Matches p a × Matches q b
Matches (Either p q) w = Matches p w ⊎ Matches q w
Matches (Many p) w = Repeats (Matches p) w
