use Rattle.std.proofs.Common.{sym, ◌∙◌}
use Rattle.pg_server.proofs.FrontendFormatCodesLemmas.{first_code}
use Rattle.pg_server.proofs.FrontendMessageLemmas.{from_index}
use Rattle.pg_server.proofs.frontend.format_codes.FormatCodesIterator.next.Goals as goal

pub returns-clause-steps : goal.returns-clause-steps
returns-clause-steps c = sym c.self.view_is ∙ rw (from_index 2 c.self.inside.bytes.now) (first_code _ _ _ c.in-Ok.ensures.found)
