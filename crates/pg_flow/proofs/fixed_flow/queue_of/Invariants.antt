use Rattle.std.proofs.Common.{◌≡◌, ◌-◌, ◌≤◌, length, map, take}
use Rattle.pg_flow.specs.Codes.{request_as}
use Rattle.pg_flow.proofs.fixed_flow.queue_of.Given as goal

-- what was read so far
abbrev pub invariant-loop-i : goal.invariant-loop-i
invariant-loop-i l = record { within : l.i ≤ length l.numbers; same : l.queue.items ≡ map request_as (take l.i l.numbers) }

abbrev pub decreases-loop-i : goal.decreases-loop-i
decreases-loop-i l = length l.numbers - l.i
