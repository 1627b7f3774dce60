use Rattle.std.proofs.Common.{rules}
use Rattle.pg_frames.proofs.StreamLemmas.{body_there}
use Rattle.pg_frames.proofs.head.FrameHead.body_and_rest.Goals as goal

pub returns-clause-whole : goal.returns-clause-whole
returns-clause-whole c = body_there _ c.args.bytes.now c.args.self.tag c.args.self.announced _ c.split_at_checked.result c.requires.head (search rules) (search rules) c.split_at_checked.ensures.cases
