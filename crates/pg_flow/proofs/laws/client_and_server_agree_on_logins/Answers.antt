use Rattle.pg_flow.proofs.StageLemmas.{never_refused}
use Rattle.pg_flow.proofs.laws.client_and_server_agree_on_logins.Goals as goal

pub returns : goal.returns
returns c = never_refused
