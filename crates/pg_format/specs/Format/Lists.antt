-- Formats of lists.
use Rattle.std.specs.Prelude.{◌≡◌, ℕ, zero, suc, ◌*◌, List, [], ◌∷◌, ◌++◌, length, ◌⊎◌}
use Rattle.std.specs.List.{flat_map}
use Rattle.pg_base.specs.Reading.{BeginsWith}
use Rattle.pg_base.specs.declared.error.ProtocolFault.{ProtocolFault}
use Rattle.pg_format.specs.Format.{Format}
use Rattle.pg_format.specs.Format.Parts.{be_u16, be_u32}
use Rattle.pg_format.specs.Format.Sequences.{BreaksAfter, dep_pair, mapped}
use Rattle.pg_format.specs.Format.Tests.{with_room}

-- items one after the other
abbrev pub AreRead : {A : Type 0} → Format A → List ℕ → List A → List ℕ → Type 0
AreRead g bytes [] rest = rest ≡ bytes
AreRead g bytes (a ∷ more) rest = (mid : List ℕ) × g.Reads bytes a mid × AreRead g mid more rest

-- of so many, the first that can't be read has this fault
abbrev pub OneBreaks : {A : Type 0} → Format A → ℕ → ℕ → List ℕ → ProtocolFault → Type 0
OneBreaks g zero len bytes fault = ⊥
OneBreaks g (suc more) len bytes fault = g.Breaks len bytes fault ⊎ BreaksAfter g (λ _. OneBreaks g more) len bytes fault

abbrev pub AllFit : {A : Type 0} → Format A → List A → List ℕ → Type 0
AllFit g [] rest = Unit {0}
AllFit g (a ∷ more) rest = g.Fits a (flat_map g.Writes more ++ rest) × AllFit g more rest

-- so many
abbrev pub times : {A : Type 0} → ℕ → Format A → Format (List A)
times n g = record {
  Reads = λ bytes values rest. (length values ≡ n) × AreRead g bytes values rest;
  Breaks = OneBreaks g n;
  Writes = flat_map g.Writes;
  Fits = λ values rest. (length values ≡ n) × AllFit g values rest;
}

abbrev pub with_count : {A : Type 0} → List A → ℕ × List A
with_count values = (length values, values)

-- as many as a count of two bytes before them says: `counted be_u16` of 7 is 0, 1, 0, 7
abbrev pub counted : {A : Type 0} → Format A → Format (List A)
counted g = mapped (λ v. v.1) with_count (dep_pair be_u16 (λ n. times n g))

-- as many as a count of four bytes before them says
abbrev pub counted_long : {A : Type 0} → Format A → Format (List A)
counted_long g = mapped (λ v. v.1) with_count (dep_pair be_u32 (λ n. times n g))

-- as `counted`, where so many bytes for each must be there before one is looked at
abbrev pub counted_least : {A : Type 0} → ℕ → Format A → Format (List A)
counted_least least g = mapped (λ v. v.1) with_count (dep_pair be_u16 (λ n. with_room (least * n) (times n g)))

-- items, and the byte 0 that ends them
pub record AreEnded {A : Type 0} (g : Format A) (bytes : List ℕ) (all : List A) (rest : List ℕ) : Type 0 where
  pub mid : List ℕ
  pub are_read : AreRead g bytes all mid
  pub ends : mid ≡ 0 ∷ rest

-- some items, no byte 0 after them, and one that can't be read
pub record BreaksBeforeEnd {A : Type 0} (g : Format A) (len : ℕ) (bytes : List ℕ) (fault : ProtocolFault) : Type 0 where
  pub some : List A
  pub mid : List ℕ
  pub are_read : AreRead g bytes some mid
  pub goes_on : ¬ (BeginsWith 0 mid)
  pub breaks : g.Breaks len mid fault

-- as many as stand before a byte 0, with which none begins
abbrev pub until_zero : {A : Type 0} → Format A → Format (List A)
until_zero g = record {
  Reads = AreEnded g;
  Breaks = BreaksBeforeEnd g;
  Writes = λ all. flat_map g.Writes all ++ 0 ∷ [];
  Fits = λ all rest. AllFit g all (0 ∷ rest);
}

-- one after the other, up to where none begins
abbrev pub AreInOrder : {A : Type 0} → Format A → List ℕ → List A → Type 0
AreInOrder {A} g bytes [] = (a : A) (rest : List ℕ) → ¬ (g.Reads bytes a rest)
AreInOrder g bytes (a ∷ more) = (mid : List ℕ) × g.Reads bytes a mid × AreInOrder g mid more

-- as many as there are; what is written ends with these bytes, at which none begins
abbrev pub many : {A : Type 0} → List ℕ → Format A → Format (List A)
many stop g = record {
  Reads = λ bytes values rest. AreInOrder g bytes values × (rest ≡ []);
  Breaks = λ len bytes fault. ⊥;
  Writes = λ values. flat_map g.Writes values ++ stop;
  Fits = λ values rest. AllFit g values stop × (rest ≡ []);
}
