use Rattle.std.proofs.Common.{◌≡◌, ◌≤◌, take}
use Rattle.pg_base.specs.Atoi.{decimal_value}
use Rattle.pg_base.proofs.io.atoi.value_up_to.Given as goal

abbrev pub invariant-loop-digit : goal.invariant-loop-digit
invariant-loop-digit l = record { so_far : l.value ≡ decimal_value (take l.digit-index l.digits); within : l.value ≤ l.top }
