use Rattle.std.proofs.Common.{ap, ◌∙◌}
use Rattle.pg_server.specs.Backend.OutboundItem.{too_many, max_unsigned}
use Rattle.pg_server.proofs.BackendOutboundItemLemmas.{count_alone}
use Rattle.pg_replication.specs.Logical.Tuple.{datums}
use Rattle.pg_replication.proofs.logical.tuple.TuplePart.put.Goals as goal

pub put-requires-clause-counted : goal.put-requires-clause-counted
put-requires-clause-counted g c = count_alone (too_many max_unsigned c.len.result) (datums c.args.self.now) ∙ ap (too_many max_unsigned) c.len.ensures ∙ c.requires.counted
