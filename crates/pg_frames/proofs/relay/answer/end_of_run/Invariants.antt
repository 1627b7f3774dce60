use Rattle.std.proofs.Common.{length}
use Rattle.pg_frames.specs.declared.frontend.frame.Expects.{Expects}
use Rattle.pg_frames.specs.Relay.Answer.{IsRun}
use Rattle.pg_frames.proofs.relay.answer.end_of_run.Given as goal

-- the bytes are frames up to an end where the rest is
abbrev pub invariant-loop-rest : goal.invariant-loop-rest
invariant-loop-rest l = record {
  from_rest : (last : Expects) → IsRun l.state l.rest last → IsRun l.fn.expects l.bytes last;
  to_rest : (last : Expects) → IsRun l.fn.expects l.bytes last → IsRun l.state l.rest last;
}

abbrev pub decreases-loop-rest : goal.decreases-loop-rest
decreases-loop-rest l = length l.rest
