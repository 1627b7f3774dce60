use Rattle.pg_flow.proofs.SessionsLemmas.{taken_is_answered}
use Rattle.pg_flow.proofs.laws.what_is_taken_is_answered.Goals as goal

pub returns : goal.returns
returns c = taken_is_answered
