use Rattle.std.proofs.Common.{◌-◌, All, take}
use Rattle.pg_format.specs.Ascii.{IsLow}
use Rattle.pg_format.proofs.ascii.is_ascii_by.Given as goal

abbrev pub invariant-loop-at : goal.invariant-loop-at
invariant-loop-at g l = All IsLow (take l.at l.bytes)

abbrev pub decreases-loop-at : goal.decreases-loop-at
decreases-loop-at g l = l.last - l.at
