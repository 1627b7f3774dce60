use Rattle.std.proofs.Common.{sym, ◌∙◌}
use Rattle.pg_server.proofs.FrontendMessageLemmas.{from_index}
use Rattle.pg_server.proofs.FrontendParameterTypesLemmas.{first_type}
use Rattle.pg_server.proofs.frontend.parameter_types.ParameterTypesIterator.next.Goals as goal

pub returns-clause-steps : goal.returns-clause-steps
returns-clause-steps c = sym c.self.view_is ∙ rw (from_index 4 c.self.inside.bytes.now) (first_type _ _ _ c.in-Ok.ensures.found)
