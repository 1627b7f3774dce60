use Rattle.pg_receive.proofs.CommandCompleteLemmas.{rows_are, only_rows}
use Rattle.pg_receive.proofs.laws.rows_follow_the_last_space.Goals as goal

pub returns-clause-are : goal.returns-clause-are
returns-clause-are c = rows_are

pub returns-clause-only : goal.returns-clause-only
returns-clause-only c = only_rows
