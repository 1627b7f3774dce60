-- How many bytes values take at least.
use Rattle.std.specs.Prelude.{ℕ, ◌+◌, ◌≤◌, ℤ, pos, negsuc, List, ◌∷◌, length, Option}
use Rattle.std.proofs.Common.{ap, arith, length-append}
use Rattle.pg_base.specs.declared.error.ProtocolFault.{ProtocolFault}
use Rattle.pg_base.proofs.ReadingLemmas.{number_fits, signed_fits}
use Rattle.pg_format.specs.Format.{Format}
use Rattle.pg_format.specs.Format.Parts.{until_nul, unsigned, signed}
use Rattle.pg_format.specs.Format.Sequences.{dep_pair, ◌⨾◌, record_of, mapped}
use Rattle.pg_format.specs.Format.Tests.{verify, only, with_room}
use Rattle.pg_format.specs.Format.Nullable.{cell_after, cell}
use Rattle.pg_format.proofs.FormatLaws.Tests.{Takes}

pub takes_until_nul : Takes 1 until_nul
takes_until_nul = record { takes = λ bytes rest text p. omega (arith, ap length p.parts, length-append text (0 ∷ rest)) }

pub takes_unsigned : (width : ℕ) → Takes width (unsigned width)
takes_unsigned width = record { takes = λ bytes rest n p. omega (arith, number_fits width bytes n rest p) }

pub takes_signed : (width : ℕ) → Takes width (signed width)
takes_signed width = record { takes = λ bytes rest z p. omega (arith, signed_fits width bytes z rest p) }

pub takes_dep_pair : {A B : Type 0} {g : Format A} {h : A → Format B} (m n : ℕ) → Takes m g → ((a : A) → Takes n (h a)) → Takes (m + n) (dep_pair g h)
takes_dep_pair m n first second = record {
  takes = λ bytes rest v p.
      omega (arith, first.takes bytes p.mid v.0 p.first, (second v.0).takes p.mid rest v.1 p.second);
}

pub takes_pair : {A B : Type 0} {g : Format A} {h : Format B} (m n : ℕ) → Takes m g → Takes n h → Takes (m + n) (g ⨾ h)
takes_pair m n first second = takes_dep_pair m n first (λ _. second)

pub takes_record_of : {A B : Type 0} {g : Format A} (n : ℕ) (parts : B → A) → Takes n g → Takes n (record_of parts g)
takes_record_of n parts inner = record { takes = λ bytes rest v p. inner.takes bytes rest (parts v) p }

pub takes_mapped : {A B : Type 0} {g : Format A} (n : ℕ) (f : A → B) (back : B → A) → Takes n g → Takes n (mapped f back g)
takes_mapped n f back inner = record { takes = λ bytes rest v p. inner.takes bytes rest p.0 p.1 }

pub takes_verify : {A : Type 0} {g : Format A} (n : ℕ) (Is : A → Type 0) (wrong : ProtocolFault) → Takes n g → Takes n (verify Is wrong g)
takes_verify n Is wrong inner = record { takes = λ bytes rest v p. inner.takes bytes rest v p.0 }

pub takes_only : {A : Type 0} {g : Format A} (n : ℕ) (Is : A → Type 0) → Takes n g → Takes n (only Is g)
takes_only n Is inner = record { takes = λ bytes rest v p. inner.takes bytes rest v p.0 }

pub takes_with_room : {A : Type 0} {g : Format A} (n needed : ℕ) → Takes n g → Takes n (with_room needed g)
takes_with_room n needed inner = record { takes = λ bytes rest v p. inner.takes bytes rest v p }

cell_after_takes : (z : ℤ) (bytes rest : List ℕ) (v : Option (List ℕ)) → (cell_after z).Reads bytes v rest → 0 + length rest ≤ length bytes
cell_after_takes (pos n) bytes rest v p = omega (arith, ap length p.1.1, length-append p.0 rest)
cell_after_takes (negsuc n) bytes rest v p = omega (arith, ap length p.1)

pub takes_cell : Takes 4 cell
takes_cell = record {
  takes = λ bytes rest v p.
      omega (arith, signed_fits 4 bytes p.0.0 p.1.mid p.1.first, cell_after_takes p.0.0 p.1.mid rest p.0.1 p.1.second);
}
