use Rattle.std.proofs.Common.{◌-◌, length}
use Rattle.pg_send.proofs.NulLemmas.{IsLeast}
use Rattle.pg_send.proofs.message.nul.has_none_by.Given as goal

abbrev pub invariant-loop-at : goal.invariant-loop-at
invariant-loop-at g l = IsLeast l.bytes l.least l.at

abbrev pub decreases-loop-at : goal.decreases-loop-at
decreases-loop-at g l = length l.bytes - l.at
