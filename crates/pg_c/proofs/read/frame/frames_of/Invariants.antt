use Rattle.std.proofs.Common.{◌≤◌, ◌*◌}
use Rattle.pg_c.specs.Read.Frame.{GivesFrames}
use Rattle.pg_c.proofs.read.frame.frames_of.Given as goal

abbrev pub invariant-loop-count : goal.invariant-loop-count
invariant-loop-count l = record {
  gives : GivesFrames l.stream l.at l.count l.fn.frames l.frames;
  many : 5 * l.count ≤ l.at;
}
