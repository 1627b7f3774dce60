use Rattle.std.proofs.Common.{◌≡◌, length}
use Rattle.std.specs.List.{list_any}
use Rattle.pg_replication.proofs.logical.listed.ListedItemsPart.fault.Given as goal

abbrev pub invariant-loop-item : goal.invariant-loop-item
invariant-loop-item g l = list_any g.L.Listed.is_broken (g.L.Listed.values l.list) ≡ list_any g.L.Listed.is_broken (g.L.Listed.values l.self.0)

abbrev pub decreases-loop-item : goal.decreases-loop-item
decreases-loop-item g l = length (g.L.Listed.values l.list)
