use Rattle.std.proofs.Common.{◌≡◌, length}
use Rattle.pg_flow.specs.Plain.{from_sync}
use Rattle.pg_flow.proofs.client_flow.ClientFlow.pass_over.Given as goal

-- what is left has the same Sync first
abbrev pub invariant-loop-request : goal.invariant-loop-request
invariant-loop-request l = record { same : from_sync l.fn.self.rest.items ≡ from_sync l.self.rest.items; early : l.self.early ≡ l.fn.self.early; said : l.self.said ≡ l.fn.self.said }

abbrev pub decreases-loop-request : goal.decreases-loop-request
decreases-loop-request l = length l.self.rest.items
