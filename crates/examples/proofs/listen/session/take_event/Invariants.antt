use Rattle.std.proofs.Common.{length}
use Rattle.examples.proofs.listen.session.take_event.Given as goal

abbrev pub decreases-loop-message : goal.decreases-loop-message
decreases-loop-message l = length l.reader
