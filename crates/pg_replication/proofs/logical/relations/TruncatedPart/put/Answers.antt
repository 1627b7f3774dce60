use Rattle.std.proofs.Common.{ap, arith}
use Rattle.pg_server.specs.Backend.OutboundItem.{nul_fault}
use Rattle.pg_server.proofs.BackendOutboundItemLemmas.{never_any}
use Rattle.pg_replication.specs.Logical.Relations.{relation_ids}
use Rattle.pg_replication.proofs.LogicalEncodeLemmas.{few_ids}
use Rattle.pg_replication.proofs.logical.relations.TruncatedPart.put.Goals as goal

pub overflow_cast-len : goal.overflow_cast-len
overflow_cast-len g c = omega (arith, c.len.ensures, few_ids c.args.self.now.0 (relation_ids c.args.self.now.1) c.requires.small)

pub put-requires-clause-counted : goal.put-requires-clause-counted
put-requires-clause-counted g c = ap nul_fault (never_any (relation_ids c.args.self.now.1))
