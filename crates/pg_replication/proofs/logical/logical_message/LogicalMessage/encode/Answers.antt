use Rattle.std.proofs.Common.{sym, ◌∙◌}
use Rattle.pg_base.proofs.TaggedLemmas.{no_fault}
use Rattle.pg_replication.proofs.LogicalEncodeLemmas.{own_message}
use Rattle.pg_replication.proofs.logical.logical_message.LogicalMessage.encode.Goals as goal

pub returns-clause-read : goal.returns-clause-read
returns-clause-read c = own_message c.args.self.now (no_fault _ _ c.in_ok-len.len (sym c.checked_len.ensures ∙ c.in_ok-len.was)) c.put.ensures.range
