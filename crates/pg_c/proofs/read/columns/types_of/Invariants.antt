use Rattle.std.proofs.Common.{ℕ, ◌+◌, ◌*◌, Some}
use Rattle.pg_format.specs.Format.Parts.{be_u32}
use Rattle.pg_c.specs.Read.{GivesItems}
use Rattle.pg_c.proofs.read.columns.types_of.Given as goal

abbrev pub invariant-loop-index : goal.invariant-loop-index
invariant-loop-index l = GivesItems be_u32 (λ (number : ℕ). Some number) l.body 2 (2 + 4 * l.index) l.index l.fn.types l.types
