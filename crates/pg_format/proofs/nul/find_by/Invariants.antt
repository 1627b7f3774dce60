use Rattle.std.proofs.Common.{◌-◌}
use Rattle.memchr.specs.Find.{Nowhere, Passes, is_byte}
use Rattle.pg_format.proofs.nul.find_by.Given as goal

abbrev pub invariant-loop-at : goal.invariant-loop-at
invariant-loop-at g l = Nowhere (Passes (is_byte 0) l.bytes) 0 l.at

abbrev pub decreases-loop-at : goal.decreases-loop-at
decreases-loop-at g l = l.last - l.at
