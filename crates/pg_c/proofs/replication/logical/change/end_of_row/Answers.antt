use Rattle.pg_replication.specs.Logical.Tuple.{datums}
use Rattle.pg_c.proofs.LogicalGivenLemmas.{row_ends, row_never_breaks}
use Rattle.pg_c.proofs.replication.logical.change.end_of_row.Goals as goal

pub returns-in-Ok : goal.returns-in-Ok
returns-in-Ok c = row_ends c.args.content.now c.args.at c.in-Ok.end (datums c.in-Ok._row) c.in-Ok.ensures.item

pub returns-in-Err : goal.returns-in-Err
returns-in-Err c = absurd (row_never_breaks c.args.content.now c.args.at c.in-Err.field-0 c.requires.reads c.in-Err.ensures.broken)
