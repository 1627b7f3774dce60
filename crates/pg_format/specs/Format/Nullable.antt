-- Formats of values that may be NULL: a length of four bytes, and as many bytes.
use Rattle.std.specs.Prelude.{ℕ, zero, suc, ℤ, pos, negsuc, List, length, Option, Some, None}
use Rattle.pg_base.specs.declared.error.ProtocolFault.TheVariants.{ValueLength}
use Rattle.pg_format.specs.Format.{Format}
use Rattle.pg_format.specs.Format.Parts.{be_i32, bytes_of, success, fail_before}
use Rattle.pg_format.specs.Format.Sequences.{dep_pair, mapped, case_of}

abbrev pub itself : Option (List ℕ) → Option (List ℕ)
itself value = value

-- NULL is written by -1
abbrev pub length_of : Option (List ℕ) → ℤ
length_of None = negsuc 0
length_of (Some value) = pos (length value)

abbrev pub with_length : Option (List ℕ) → ℤ × Option (List ℕ)
with_length value = (length_of value, value)

abbrev pub nullable_by : (ℤ → Format (Option (List ℕ))) → Format (Option (List ℕ))
nullable_by after = mapped (λ v. v.1) with_length (dep_pair be_i32 after)

-- a cell of a row is NULL by any length below 0
abbrev pub cell_after : ℤ → Format (Option (List ℕ))
cell_after (pos n) = case_of Some itself (bytes_of n)
cell_after (negsuc n) = success None

abbrev pub cell : Format (Option (List ℕ))
cell = nullable_by cell_after

-- a parameter's value is NULL by -1, and another length below 0 is a fault at its four bytes
abbrev pub value_after : ℤ → Format (Option (List ℕ))
value_after (pos n) = case_of Some itself (bytes_of n)
value_after (negsuc zero) = success None
value_after (negsuc (suc n)) = fail_before 4 (λ at. ValueLength at (negsuc (suc n)))

abbrev pub value : Format (Option (List ℕ))
value = nullable_by value_after
