-- What the messages of one kind in a stream mean, and what decoding them answers.
use Rattle.std.specs.Prelude.{◌≡◌, ℕ, ◌==◌, List, [], ◌∷◌, if◌then◌else◌, Result, Ok, Err, Some}
use Rattle.pg_base.specs.Decode.{Decodes}
use Rattle.pg_base.specs.Format.{backend_tag}
use Rattle.pg_base.specs.declared.error.Error.{Error}
use Rattle.pg_base.specs.declared.error.Error.TheVariants.{Protocol, OutOfMemory}
use Rattle.pg_format.specs.Format.{Means, IsFaultOf}
use Rattle.pg_format.specs.declared.received.BackendMessage.{Ghosts}

-- the bodies of the messages with this tag, in order; other messages are passed over
abbrev pub bodies_of : ℕ → List (ℕ × List ℕ) → List (List ℕ)
bodies_of tag [] = []
bodies_of tag (message ∷ more) = if message.0 == tag then message.1 ∷ bodies_of tag more else bodies_of tag more

-- each body has the value at its place, such as what it means
abbrev pub EachHas : {V : Type 0} → (List ℕ → V → Type 0) → List (List ℕ) → List V → Type 0
EachHas Has [] [] = Unit {0}
EachHas Has [] (value ∷ values) = ⊥
EachHas Has (body ∷ bodies) [] = ⊥
EachHas Has (body ∷ bodies) (value ∷ values) = Has body value × EachHas Has bodies values

-- the messages of a type's kind mean these values, each by its body
abbrev pub HaveValues : {A : Type 0} (law : Ghosts A) → List (ℕ × List ℕ) → List law.Shown → Type 0
HaveValues law messages values = EachHas (Means law.format) (bodies_of (backend_tag law.FORMAT) messages) values

-- these are the answers of decoding them
abbrev pub HaveAnswers : {A : Type 0} → Ghosts A → List (ℕ × List ℕ) → List (Result A Error) → Type 0
HaveAnswers law messages answers =
    EachHas (λ body. Decodes (Means law.format) (IsFaultOf law.format) law.NeedsNoMemory law.shown (Some law.FORMAT) body) (bodies_of (backend_tag law.FORMAT) messages) answers

-- two answers for one body: equal values, or not a value and a fault; memory may run out in either
abbrev pub Agree : {A V : Type 0} → (A → V) → Result A Error → Result A Error → Type 0
Agree shown (Ok a) (Ok b) = shown a ≡ shown b
Agree shown (Ok a) (Err (Protocol reading fault)) = ⊥
Agree shown (Ok a) (Err OutOfMemory) = Unit {0}
Agree shown (Err (Protocol reading fault)) (Ok b) = ⊥
Agree shown (Err (Protocol reading fault)) (Err error) = Unit {0}
Agree shown (Err OutOfMemory) answer = Unit {0}

-- the same of the answers at each place
abbrev pub EachAgree : {A V : Type 0} → (A → V) → List (Result A Error) → List (Result A Error) → Type 0
EachAgree shown [] [] = Unit {0}
EachAgree shown [] (b ∷ bs) = ⊥
EachAgree shown (a ∷ as') [] = ⊥
EachAgree shown (a ∷ as') (b ∷ bs) = Agree shown a b × EachAgree shown as' bs
