use Rattle.std.proofs.Common.{ap, ◌∙◌}
use Rattle.pg_server.specs.Backend.OutboundItem.{too_many, max_unsigned}
use Rattle.pg_server.proofs.BackendOutboundItemLemmas.{count_alone}
use Rattle.pg_replication.specs.Logical.Tuple.{datums}
use Rattle.pg_replication.proofs.logical.tuple.TuplePart.fault.Goals as goal

pub returns : goal.returns
returns c = c.fault.ensures ∙ count_alone (too_many max_unsigned c.len.result) (datums c.args.self.now) ∙ ap (too_many max_unsigned) c.len.ensures
