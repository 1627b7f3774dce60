use Rattle.pg_flow.proofs.StageLemmas.{ready_after_ok}
use Rattle.pg_flow.proofs.laws.ready_needs_ok.Goals as goal

pub returns : goal.returns
returns c = ready_after_ok
