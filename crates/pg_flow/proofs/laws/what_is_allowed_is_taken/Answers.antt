use Rattle.pg_flow.proofs.SessionsExactLemmas.{allowed_is_taken}
use Rattle.pg_flow.proofs.laws.what_is_allowed_is_taken.Goals as goal

pub returns : goal.returns
returns c = allowed_is_taken
