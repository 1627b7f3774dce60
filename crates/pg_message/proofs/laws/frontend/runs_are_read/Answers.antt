use Rattle.pg_message.proofs.FrontendLemmas.{run_is_read, run_is_read_if_it_can}
use Rattle.pg_message.proofs.laws.frontend.runs_are_read.Goals as goal

pub returns-clause-all : goal.returns-clause-all
returns-clause-all c = run_is_read_if_it_can

pub returns-clause-strict : goal.returns-clause-strict
returns-clause-strict c = run_is_read
