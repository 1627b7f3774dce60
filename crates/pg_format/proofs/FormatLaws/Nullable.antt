-- The laws of values that may be NULL.
use Rattle.std.specs.Prelude.{◌≡◌, ℕ, zero, suc, ℤ, pos, negsuc, List, Option, Some, None}
use Rattle.std.proofs.Common.{refl, ap, ◌∙◌}
use Rattle.pg_base.specs.declared.error.ProtocolFault.TheVariants.{ValueLength}
use Rattle.pg_format.specs.Format.{Format, Lawful, Canonical, Total}
use Rattle.pg_format.specs.Format.Parts.{bytes_of}
use Rattle.pg_format.specs.Format.Sequences.{case_of}
use Rattle.pg_format.specs.Format.Nullable.{itself, length_of, with_length, nullable_by, cell_after, cell, value_after, value}
use Rattle.pg_format.proofs.FormatLaws.Parts.{lawful_signed, canonical_signed, total_signed, lawful_bytes_of, canonical_bytes_of, total_bytes_of, lawful_success, canonical_success, total_success, lawful_fail_before, canonical_fail_before, total_fail_before}
use Rattle.pg_format.proofs.FormatLaws.Sequences.{lawful_dep_pair, canonical_dep_pair, total_dep_pair, lawful_mapped, canonical_mapped, total_mapped, lawful_case_of, canonical_case_of, total_case_of}

lawful_some : (n : ℕ) → Lawful (case_of Some itself (bytes_of n))
lawful_some n = lawful_case_of Some itself (lawful_bytes_of n)

total_some : (n : ℕ) → Total (case_of Some itself (bytes_of n))
total_some n = total_case_of Some itself (total_bytes_of n)

lawful_nullable_by : (after : ℤ → Format (Option (List ℕ))) → ((z : ℤ) → Lawful (after z)) → Lawful (nullable_by after)
lawful_nullable_by after each = lawful_mapped (λ v. v.1) with_length (lawful_dep_pair after (lawful_signed 4 tt) each)

total_nullable_by : (after : ℤ → Format (Option (List ℕ))) → ((z : ℤ) → Total (after z)) → Total (nullable_by after)
total_nullable_by after each = total_mapped (λ v. v.1) with_length (total_dep_pair after (total_signed 4) each)

lawful_cell_after : (z : ℤ) → Lawful (cell_after z)
lawful_cell_after (pos n) = lawful_some n
lawful_cell_after (negsuc n) = lawful_success None

total_cell_after : (z : ℤ) → Total (cell_after z)
total_cell_after (pos n) = total_some n
total_cell_after (negsuc n) = total_success None

pub lawful_cell : Lawful cell
lawful_cell = lawful_nullable_by cell_after lawful_cell_after

pub total_cell : Total cell
total_cell = total_nullable_by cell_after total_cell_after

lawful_value_after : (z : ℤ) → Lawful (value_after z)
lawful_value_after (pos n) = lawful_some n
lawful_value_after (negsuc zero) = lawful_success None
lawful_value_after (negsuc (suc n)) = lawful_fail_before 4 (λ at. ValueLength at (negsuc (suc n)))

canonical_value_after : (z : ℤ) → Canonical (value_after z)
canonical_value_after (pos n) = canonical_case_of Some itself (λ a. refl) (canonical_bytes_of n)
canonical_value_after (negsuc zero) = canonical_success None
canonical_value_after (negsuc (suc n)) = canonical_fail_before 4 (λ at. ValueLength at (negsuc (suc n)))

total_value_after : (z : ℤ) → Total (value_after z)
total_value_after (pos n) = total_some n
total_value_after (negsuc zero) = total_success None
total_value_after (negsuc (suc n)) = total_fail_before 4 (λ at. ValueLength at (negsuc (suc n)))

pub lawful_value : Lawful value
lawful_value = lawful_nullable_by value_after lawful_value_after

pub total_value : Total value
total_value = total_nullable_by value_after total_value_after

-- the length that is written is the one that was read
length_again : (z : ℤ) (bytes rest : List ℕ) (v : Option (List ℕ)) → (value_after z).Reads bytes v rest → length_of v ≡ z
length_again (pos n) bytes rest v p = ap length_of p.2 ∙ ap pos p.1.0
length_again (negsuc zero) bytes rest v p = ap length_of p.0
length_again (negsuc (suc n)) bytes rest v p = absurd p

pub canonical_value : Canonical value
canonical_value =
    canonical_mapped (λ v. v.1) with_length (λ bytes rest a p i. (length_again a.0 p.mid rest a.1 p.second i, a.1)) (canonical_dep_pair value_after (canonical_signed 4 tt) canonical_value_after)
