use Rattle.pg_flow.proofs.StageLemmas.{scram_needs_verifier}
use Rattle.pg_flow.proofs.laws.scram_needs_a_verifier.Goals as goal

pub returns : goal.returns
returns c = scram_needs_verifier
