use Rattle.pg_c.proofs.LogicalListsLemmas.{columns_never_break}
use Rattle.pg_c.proofs.replication.logical.lists.pgmsg_read_table_columns.Goals as goal

pub returns-in-Err-clause-there : goal.returns-in-Err-clause-there
returns-in-Err-clause-there c = λ _. record { none = λ short items stand. columns_never_break c.args.content.now c.args.list items c.in-Err.why short stand c.in-Err.ensures.fault }
