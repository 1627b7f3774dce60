use Rattle.std.proofs.Common.{take}
use Rattle.pg_base.specs.Atoi.{AreDigits}
use Rattle.pg_base.proofs.io.atoi.front_digits.Given as goal

abbrev pub invariant-loop-end : goal.invariant-loop-end
invariant-loop-end l = AreDigits (take l.end l.bytes)
