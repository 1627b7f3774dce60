-- The parts of a body. Documentation: "Message Data Types".
use Rattle.std.specs.Prelude.{◌≡◌, ℕ, suc, ◌-◌, ◌*◌, ◌^◌, ◌<◌, ℤ, pos, negsuc, List, [], ◌∷◌, ◌++◌, length, Option, Some, None}
use Rattle.std.specs.Int.{bytes_high_first}
use Rattle.pg_base.specs.declared.error.ProtocolFault.{ProtocolFault}
use Rattle.pg_base.specs.declared.error.ProtocolFault.TheVariants.{Short, MissingNul}
use Rattle.pg_base.specs.Reading.{Number, Signed, Text, HoldsNo}
use Rattle.pg_base.specs.Ended.{ended}
use Rattle.pg_format.specs.Format.{Format}

-- where the last bytes of a body of so many begin
abbrev pub offset : ℕ → List ℕ → ℕ
offset len bytes = len - length bytes

-- fewer bytes than are needed
pub record Lacks (needed len : ℕ) (bytes : List ℕ) (fault : ProtocolFault) : Type 0 where
  pub few : length bytes < needed
  pub is : fault ≡ Short (offset len bytes) needed (length bytes)

-- no 0 ends a text
pub record LacksNul (len : ℕ) (bytes : List ℕ) (fault : ProtocolFault) : Type 0 where
  pub no_nul : HoldsNo 0 bytes
  pub is : fault ≡ MissingNul (offset len bytes)

-- String: a text, which the first 0 ends. `"ab"` is 97, 98, 0.
abbrev pub until_nul : Format (List ℕ)
until_nul = record { Reads = Text; Breaks = LacksNul; Writes = ended; Fits = λ text rest. HoldsNo 0 text }

-- Intn without a sign, highest byte first. `unsigned 2` of 258 is 1, 2.
abbrev pub unsigned : ℕ → Format ℕ
unsigned width = record {
  Reads = Number width;
  Breaks = Lacks width;
  Writes = bytes_high_first width;
  Fits = λ n rest. n < 256 ^ width;
}

-- a number's two's complement
abbrev pub complement : ℕ → ℤ → List ℕ
complement width (pos n) = bytes_high_first width n
complement width (negsuc n) = bytes_high_first width (256 ^ width - suc n)

abbrev pub FitsSigned : ℕ → ℤ → Type 0
FitsSigned width (pos n) = 2 * n < 256 ^ width
FitsSigned width (negsuc n) = 2 * n < 256 ^ width

-- Intn with a sign. `signed 2` of -1 is 255, 255.
abbrev pub signed : ℕ → Format ℤ
signed width = record {
  Reads = Signed width;
  Breaks = Lacks width;
  Writes = complement width;
  Fits = λ z rest. FitsSigned width z;
}

abbrev pub be_u8 : Format ℕ
be_u8 = unsigned 1

abbrev pub be_u16 : Format ℕ
be_u16 = unsigned 2

abbrev pub be_u32 : Format ℕ
be_u32 = unsigned 4

abbrev pub be_u64 : Format ℕ
be_u64 = unsigned 8

abbrev pub be_i8 : Format ℤ
be_i8 = signed 1

abbrev pub be_i16 : Format ℤ
be_i16 = signed 2

abbrev pub be_i32 : Format ℤ
be_i32 = signed 4

abbrev pub be_i64 : Format ℤ
be_i64 = signed 8

-- Byten: so many bytes as they are. `bytes_of 2` of 7, 8 is 7, 8.
abbrev pub bytes_of : ℕ → Format (List ℕ)
bytes_of n = record {
  Reads = λ bytes value rest. (length value ≡ n) × (bytes ≡ value ++ rest);
  Breaks = Lacks n;
  Writes = λ value. value;
  Fits = λ value rest. length value ≡ n;
}

-- all bytes that are left
abbrev pub remaining : Format (List ℕ)
remaining = record {
  Reads = λ bytes value rest. (value ≡ bytes) × (rest ≡ []);
  Breaks = λ len bytes fault. ⊥;
  Writes = λ value. value;
  Fits = λ value rest. rest ≡ [];
}

-- a byte that stands for no value
abbrev pub UnknownLetter : {A : Type 0} → (ℕ → Option A) → (ℕ → ProtocolFault) → ℕ → List ℕ → ProtocolFault → Type 0
UnknownLetter read unknown len [] fault = Lacks 1 len [] fault
UnknownLetter read unknown len (letter ∷ bytes) fault = (read letter ≡ None) × (fault ≡ unknown letter)

-- Byte1 by two tables, of what a letter stands for and of how a value is written; another letter has a fault
abbrev pub one_of : {A : Type 0} → (ℕ → Option A) → (A → ℕ) → (ℕ → ProtocolFault) → Format A
one_of read write unknown = record {
  Reads = λ bytes a rest. (letter : ℕ) × (bytes ≡ letter ∷ rest) × (read letter ≡ Some a);
  Breaks = UnknownLetter read unknown;
  Writes = λ a. write a ∷ [];
  Fits = λ a rest. Unit {0};
}

-- no bytes, and this value
abbrev pub success : {A : Type 0} → A → Format A
success a = record {
  Reads = λ bytes v rest. (v ≡ a) × (rest ≡ bytes);
  Breaks = λ len bytes fault. ⊥;
  Writes = λ v. [];
  Fits = λ v rest. v ≡ a;
}

-- never a value: the fault is of what stands so many bytes before, and may name that place
abbrev pub fail_before : {A : Type 0} → ℕ → (ℕ → ProtocolFault) → Format A
fail_before width wrong = record {
  Reads = λ bytes v rest. ⊥;
  Breaks = λ len bytes fault. fault ≡ wrong (offset len bytes - width);
  Writes = λ v. [];
  Fits = λ v rest. ⊥;
}

-- the same of a fault without a place
abbrev pub fail : {A : Type 0} → ProtocolFault → Format A
fail wrong = fail_before 0 (λ _. wrong)
