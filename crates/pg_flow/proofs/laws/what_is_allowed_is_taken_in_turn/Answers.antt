use Rattle.pg_flow.proofs.SessionsExactLemmas.{allowed_in_turn}
use Rattle.pg_flow.proofs.laws.what_is_allowed_is_taken_in_turn.Goals as goal

pub returns : goal.returns
returns c = allowed_in_turn
