use Rattle.std.proofs.Common.{length}
use Rattle.pg_c.proofs.ReadFieldsLemmas.{GivesFields}
use Rattle.pg_c.proofs.read.fields.pgmsg_read_fields.Given as goal

abbrev pub invariant-loop-letter : goal.invariant-loop-letter
invariant-loop-letter l = GivesFields l.body l.rest l.at l.count l.fn.fields l.fields

abbrev pub decreases-loop-letter : goal.decreases-loop-letter
decreases-loop-letter l = length l.rest
