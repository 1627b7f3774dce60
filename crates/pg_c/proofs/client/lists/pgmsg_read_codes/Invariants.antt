use Rattle.std.proofs.Common.{ℕ, ◌+◌, ◌*◌, Some}
use Rattle.pg_format.specs.Format.Parts.{be_u16}
use Rattle.pg_c.specs.Read.{GivesItems}
use Rattle.pg_c.proofs.client.lists.pgmsg_read_codes.Given as goal

abbrev pub invariant-loop-index : goal.invariant-loop-index
invariant-loop-index l = GivesItems be_u16 (λ (code : ℕ). Some code) l.body l.list.at (l.list.at + 2 * l.index) l.index l.fn.codes l.codes
