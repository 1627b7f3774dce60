use Rattle.std.proofs.Common.{◌≡◌, length}
use Rattle.pg_flow.specs.ClientFlow.View.{queue_as}
use Rattle.pg_flow.specs.ClientFlow.{behind}
use Rattle.pg_flow.proofs.client_flow.ClientFlow.drop_syncs.Given as goal

-- what is left has the same behind its Syncs
abbrev pub invariant-loop-self : goal.invariant-loop-self
invariant-loop-self l = record { same : behind (queue_as l.fn.self.first l.fn.self.rest.items) ≡ behind (queue_as l.self.first l.self.rest.items); said : l.self.said ≡ l.fn.self.said }

abbrev pub decreases-loop-self : goal.decreases-loop-self
decreases-loop-self l = length (queue_as l.self.first l.self.rest.items)
