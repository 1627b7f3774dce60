use Rattle.std.proofs.Common.{ℕ, ◌+◌, ◌*◌, Some}
use Rattle.pg_format.specs.Format.Parts.{be_u32}
use Rattle.pg_c.specs.Read.{GivesItems}
use Rattle.pg_c.proofs.client.lists.pgmsg_read_types.Given as goal

abbrev pub invariant-loop-index : goal.invariant-loop-index
invariant-loop-index l = GivesItems be_u32 (λ (number : ℕ). Some number) l.body l.list.at (l.list.at + 4 * l.index) l.index l.fn.types l.types
