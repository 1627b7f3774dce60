use Rattle.std.proofs.Common.{rules}
use Rattle.pg_c.proofs.read.row.read_rest.Goals as goal

pub returns-in-Err-clause-fault : goal.returns-in-Err-clause-fault
returns-in-Err-clause-fault c = λ before front. let breaks = c.in-Err.ensures.fault before front in search rules
