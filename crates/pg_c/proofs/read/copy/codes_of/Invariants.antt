use Rattle.std.proofs.Common.{ℤ, ◌+◌, ◌*◌, Some}
use Rattle.pg_format.specs.Format.Parts.{be_i16}
use Rattle.pg_c.specs.Read.{GivesItems}
use Rattle.pg_c.proofs.read.copy.codes_of.Given as goal

abbrev pub invariant-loop-index : goal.invariant-loop-index
invariant-loop-index l = GivesItems be_i16 (λ (code : ℤ). Some code) l.body 3 (3 + 2 * l.index) l.index l.fn.codes l.codes
