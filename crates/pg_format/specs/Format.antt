-- What bytes mean: a format says how they are read, which fault they have where they can't be, and how a
-- value is written. A message's format is made of those of its parts, by the combinators of the modules below.
pub mod Ends
pub mod Lists
pub mod Nullable
pub mod Parts
pub mod Places
pub mod Sequences
pub mod Tests
use Rattle.std.specs.Prelude.{◌≡◌, ℕ, ◌<◌, List, [], ◌∷◌, ◌++◌, length, ◌⊎◌, Result, Ok, Err}
use Rattle.pg_base.specs.declared.error.ProtocolFault.{ProtocolFault}

-- Reads: bytes begin with a value, and a rest follows it.
-- Breaks: bytes, the last of a body of so many, can't be read, for this fault.
-- Writes: the bytes of a value. Fits: a value may be written before these bytes.
pub record Format (A : Type 0) : Type 1 where
  pub Reads : List ℕ → A → List ℕ → Type 0
  pub Breaks : ℕ → List ℕ → ProtocolFault → Type 0
  pub Writes : A → List ℕ
  pub Fits : A → List ℕ → Type 0

-- what a whole body means, and what is wrong with one that means nothing
abbrev pub Means : {A : Type 0} → Format A → List ℕ → A → Type 0
Means g body a = g.Reads body a []

abbrev pub IsFaultOf : {A : Type 0} → Format A → List ℕ → ProtocolFault → Type 0
IsFaultOf g body fault = g.Breaks (length body) body fault

-- what a reader of whole bodies returns: the value, or the fault
abbrev pub ReadsAs : {A V : Type 0} → Format V → (A → V) → List ℕ → Result A ProtocolFault → Type 0
ReadsAs g shown body (Ok value) = Means g body (shown value)
ReadsAs g shown body (Err fault) = IsFaultOf g body fault

-- one value and one rest; one fault; never both; and what is written is read
pub record Lawful {A : Type 0} (g : Format A) : Type 0 where
  pub one_value : (bytes x y : List ℕ) (a b : A) → g.Reads bytes a x → g.Reads bytes b y → (a ≡ b) × (x ≡ y)
  pub one_fault : (len : ℕ) (bytes : List ℕ) (e f : ProtocolFault) → g.Breaks len bytes e → g.Breaks len bytes f → e ≡ f
  pub never_both : (len : ℕ) (bytes rest : List ℕ) (a : A) (f : ProtocolFault) → g.Reads bytes a rest → g.Breaks len bytes f → ⊥
  pub written : (a : A) (rest : List ℕ) → g.Fits a rest → g.Reads (g.Writes a ++ rest) a rest

abbrev pub IsRead : {A : Type 0} → Format A → List ℕ → Type 0
IsRead {A} g bytes = (a : A) × (rest : List ℕ) × g.Reads bytes a rest

abbrev pub IsBroken : {A : Type 0} → Format A → ℕ → List ℕ → Type 0
IsBroken g len bytes = (fault : ProtocolFault) × g.Breaks len bytes fault

-- reading is decided: there is a value, or a fault
pub record Total {A : Type 0} (g : Format A) : Type 0 where
  pub decides : (len : ℕ) (bytes : List ℕ) → IsRead g bytes ⊎ IsBroken g len bytes

-- numbers that are bytes
abbrev pub AreBytes : List ℕ → Type 0
AreBytes [] = Unit {0}
AreBytes (b ∷ bytes) = (b < 256) × AreBytes bytes

-- a value has one spelling: bytes that are read are those that are written of it, and it fits there
pub record Canonical {A : Type 0} (g : Format A) : Type 0 where
  pub same : (bytes rest : List ℕ) (a : A) → AreBytes bytes → g.Reads bytes a rest → bytes ≡ g.Writes a ++ rest
  pub fits : (bytes rest : List ℕ) (a : A) → AreBytes bytes → g.Reads bytes a rest → g.Fits a rest
