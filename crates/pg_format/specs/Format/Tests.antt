-- Formats of values that are tested.
use Rattle.std.specs.Prelude.{◌≡◌, ℕ, ◌≤◌, List, [], ◌++◌, length, Option, Some, None, ◌⊎◌, IsUtf8}
use Rattle.pg_base.specs.Reading.{BeginsWith}
use Rattle.pg_base.specs.declared.error.ProtocolFault.{ProtocolFault}
use Rattle.pg_base.specs.declared.error.ProtocolFault.TheVariants.{NotUtf8}
use Rattle.pg_format.specs.Format.{Format}
use Rattle.pg_format.specs.Format.Parts.{Lacks, until_nul}

pub record IsNotSo {A : Type 0} (Is : A → Type 0) (wrong : ProtocolFault) (g : Format A) (bytes : List ℕ) (fault : ProtocolFault) : Type 0 where
  pub value : A
  pub rest : List ℕ
  pub reads : g.Reads bytes value rest
  pub is_not : ¬ (Is value)
  pub is : fault ≡ wrong

-- values that are so; of another this is the fault
abbrev pub verify : {A : Type 0} → (A → Type 0) → ProtocolFault → Format A → Format A
verify Is wrong g = record {
  Reads = λ bytes v rest. g.Reads bytes v rest × Is v;
  Breaks = λ len bytes fault. g.Breaks len bytes fault ⊎ IsNotSo Is wrong g bytes fault;
  Writes = g.Writes;
  Fits = λ v rest. g.Fits v rest × Is v;
}

-- a String of UTF-8
abbrev pub utf8 : Format (List ℕ)
utf8 = verify IsUtf8 NotUtf8 until_nul

pub record IsFaulty {A : Type 0} (own : A → Option ProtocolFault) (g : Format A) (bytes : List ℕ) (fault : ProtocolFault) : Type 0 where
  pub value : A
  pub rest : List ℕ
  pub reads : g.Reads bytes value rest
  pub is : own value ≡ Some fault

-- values that have no fault of their own
abbrev pub checked : {A : Type 0} → (A → Option ProtocolFault) → Format A → Format A
checked own g = record {
  Reads = λ bytes v rest. g.Reads bytes v rest × (own v ≡ None);
  Breaks = λ len bytes fault. g.Breaks len bytes fault ⊎ IsFaulty own g bytes fault;
  Writes = g.Writes;
  Fits = λ v rest. g.Fits v rest × (own v ≡ None);
}

-- values that are so; another isn't read here, and is no fault: the field that ends the fields of a notice
abbrev pub only : {A : Type 0} → (A → Type 0) → Format A → Format A
only Is g = record {
  Reads = λ bytes v rest. g.Reads bytes v rest × Is v;
  Breaks = g.Breaks;
  Writes = g.Writes;
  Fits = λ v rest. g.Fits v rest × Is v;
}

-- so many bytes are there, before anything else is looked at
abbrev pub with_room : {A : Type 0} → ℕ → Format A → Format A
with_room needed g = record {
  Reads = g.Reads;
  Breaks = λ len bytes fault. Lacks needed len bytes fault ⊎ ((needed ≤ length bytes) × g.Breaks len bytes fault);
  Writes = g.Writes;
  Fits = g.Fits;
}

-- a value, or nothing where the bytes begin with this one, which belongs to what follows
abbrev pub ReadsUnless : {A : Type 0} → ℕ → Format A → List ℕ → Option A → List ℕ → Type 0
ReadsUnless stop g bytes None rest = BeginsWith stop bytes × (rest ≡ bytes)
ReadsUnless stop g bytes (Some a) rest = ¬ (BeginsWith stop bytes) × g.Reads bytes a rest

abbrev pub written_unless : {A : Type 0} → Format A → Option A → List ℕ
written_unless g None = []
written_unless g (Some a) = g.Writes a

abbrev pub FitsUnless : {A : Type 0} → ℕ → Format A → Option A → List ℕ → Type 0
FitsUnless stop g None rest = BeginsWith stop rest
FitsUnless stop g (Some a) rest = ¬ (BeginsWith stop (g.Writes a ++ rest)) × g.Fits a rest

abbrev pub unless : {A : Type 0} → ℕ → Format A → Format (Option A)
unless stop g = record {
  Reads = ReadsUnless stop g;
  Breaks = λ len bytes fault. ¬ (BeginsWith stop bytes) × g.Breaks len bytes fault;
  Writes = written_unless g;
  Fits = FitsUnless stop g;
}
