use Rattle.pg_flow.proofs.WorldLemmas.{ends_agreed}
use Rattle.pg_flow.proofs.laws.client_and_server_agree.Goals as goal

pub returns : goal.returns
returns c = ends_agreed
