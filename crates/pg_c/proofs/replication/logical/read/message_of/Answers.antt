use Rattle.pg_c.proofs.LogicalGivenLemmas.{content_read}
use Rattle.pg_c.proofs.replication.logical.read.message_of.Goals as goal

pub returns-clause-read : goal.returns-clause-read
returns-clause-read c = content_read c.args.stream.now.streamed c.args.content.now c.read.result c.read.ensures.read c.read.ensures.long
