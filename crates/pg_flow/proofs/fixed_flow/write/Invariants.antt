use Rattle.std.proofs.Common.{◌≡◌, ◌-◌, ◌≤◌, length, map, take}
use Rattle.pg_flow.specs.Codes.{request_as}
use Rattle.pg_flow.proofs.fixed_flow.write.Given as goal

-- what was written so far
abbrev pub invariant-loop-i : goal.invariant-loop-i
invariant-loop-i l = record { within : l.i ≤ length l.queue.items; room : length l.queue.items ≤ length l.numbers; same : map request_as (take l.i l.numbers) ≡ take l.i l.queue.items }

abbrev pub decreases-loop-i : goal.decreases-loop-i
decreases-loop-i l = length l.queue.items - l.i
