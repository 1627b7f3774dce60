use Rattle.std.proofs.Common.{◌≡◌, ◌-◌, ◌≤◌, length, drop}
use Rattle.pg_flow.specs.ClientFlow.{all_syncs}
use Rattle.pg_flow.proofs.client_flow.ClientFlow.are_syncs.Given as goal

-- what is left to be seen decides
abbrev pub invariant-loop-i : goal.invariant-loop-i
invariant-loop-i l = record { within : l.i ≤ length l.self.rest.items; same : all_syncs (drop l.i l.self.rest.items) ≡ all_syncs l.self.rest.items }

abbrev pub decreases-loop-i : goal.decreases-loop-i
decreases-loop-i l = length l.self.rest.items - l.i
