-- Formats after each other, and of values that are made of others.
use Rattle.std.specs.Prelude.{◌≡◌, ℕ, List, [], ◌++◌, Option, Some, None, Bool, true, false, ◌⊎◌}
use Rattle.pg_base.specs.declared.error.ProtocolFault.{ProtocolFault}
use Rattle.pg_format.specs.Format.{Format}

-- the first is read, and what follows it can't be
pub record BreaksAfter {A : Type 0} (g : Format A) (Next : A → ℕ → List ℕ → ProtocolFault → Type 0) (len : ℕ) (bytes : List ℕ) (fault : ProtocolFault) : Type 0 where
  pub value : A
  pub mid : List ℕ
  pub reads : g.Reads bytes value mid
  pub breaks : Next value len mid fault

pub record ReadsBoth {A B : Type 0} (g : Format A) (h : A → Format B) (bytes : List ℕ) (a : A) (b : B) (rest : List ℕ) : Type 0 where
  pub mid : List ℕ
  pub first : g.Reads bytes a mid
  pub second : (h a).Reads mid b rest

-- a value, and then another, whose format may depend on it: a count and its items
abbrev pub dep_pair : {A B : Type 0} → Format A → (A → Format B) → Format (A × B)
dep_pair g h = record {
  Reads = λ bytes v rest. ReadsBoth g h bytes v.0 v.1 rest;
  Breaks = λ len bytes fault. g.Breaks len bytes fault ⊎ BreaksAfter g (λ a. (h a).Breaks) len bytes fault;
  Writes = λ v. g.Writes v.0 ++ (h v.0).Writes v.1;
  Fits = λ v rest. g.Fits v.0 ((h v.0).Writes v.1 ++ rest) × (h v.0).Fits v.1 rest;
}

-- one after the other: `until_nul ⨾ be_u32`
infixr 5 ◌⨾◌
abbrev pub ◌⨾◌ : {A B : Type 0} → Format A → Format B → Format (A × B)
g ⨾ h = dep_pair g (λ _. h)

-- a record of the parts: `record_of (λ s. (s.name, s.value)) (utf8 ⨾ utf8)`
abbrev pub record_of : {A B : Type 0} → (B → A) → Format A → Format B
record_of parts g = record {
  Reads = λ bytes v rest. g.Reads bytes (parts v) rest;
  Breaks = g.Breaks;
  Writes = λ v. g.Writes (parts v);
  Fits = λ v rest. g.Fits (parts v) rest;
}

-- what a function makes of the value that is read; what is written is what another gives back
abbrev pub mapped : {A B : Type 0} → (A → B) → (B → A) → Format A → Format B
mapped {A} f back g = record {
  Reads = λ bytes v rest. (a : A) × g.Reads bytes a rest × (v ≡ f a);
  Breaks = g.Breaks;
  Writes = λ v. g.Writes (back v);
  Fits = λ v rest. g.Fits (back v) rest × (f (back v) ≡ v);
}

-- what a function makes of the value that is read, for who only reads
abbrev pub viewed : {A B : Type 0} → (A → B) → Format A → Format B
viewed {A} f g = record {
  Reads = λ bytes v rest. (a : A) × g.Reads bytes a rest × (v ≡ f a);
  Breaks = g.Breaks;
  Writes = λ v. [];
  Fits = λ v rest. ⊥;
}

-- one case of several: a value of another case has nothing to be written
abbrev pub written_where : {A : Type 0} → (A → List ℕ) → Option A → List ℕ
written_where write None = []
written_where write (Some a) = write a

abbrev pub FitsWhere : {A : Type 0} → (A → Type 0) → Option A → Type 0
FitsWhere Fits None = ⊥
FitsWhere Fits (Some a) = Fits a

abbrev pub case_of : {A B : Type 0} → (A → B) → (B → Option A) → Format A → Format B
case_of {A} f back g = record {
  Reads = λ bytes v rest. (a : A) × g.Reads bytes a rest × (v ≡ f a);
  Breaks = g.Breaks;
  Writes = λ v. written_where g.Writes (back v);
  Fits = λ v rest. FitsWhere (λ a. g.Fits a rest × (f a ≡ v)) (back v);
}

-- one of two
abbrev pub choose : {A : Type 0} → Bool → Format A → Format A → Format A
choose true g h = g
choose false g h = h
