use Rattle.std.proofs.Common.{◌≡◌, ◌≤◌, ◌++◌, false, length, All}
use Rattle.std.specs.List.{flat_map, list_any}
use Rattle.pg_base.specs.Cutting.{max_length}
use Rattle.pg_replication.proofs.logical.listed.ListedItemsPart.put.Given as goal

abbrev pub invariant-loop-item : goal.invariant-loop-item
invariant-loop-item g l = record {
  written : g.S.Sink.written l.sink ++ flat_map g.L.Listed.format.Writes (g.L.Listed.values l.list) ≡ g.S.Sink.written l.fn.sink ++ flat_map g.L.Listed.format.Writes (g.L.Listed.values l.self.0);
  small : length (flat_map g.L.Listed.format.Writes (g.L.Listed.values l.list)) ≤ max_length;
  clean : list_any g.L.Listed.is_broken (g.L.Listed.values l.list) ≡ false;
  capacity : g.S.Sink.capacity l.fn.sink ≤ g.S.Sink.capacity l.sink;
  loan : g.S.Sink.loan l.sink ≡ g.S.Sink.loan l.fn.sink;
  range : All g.L.Listed.IsInRange (g.L.Listed.values l.list) → All g.L.Listed.IsInRange (g.L.Listed.values l.self.0);
}

abbrev pub decreases-loop-item : goal.decreases-loop-item
decreases-loop-item g l = length (g.L.Listed.values l.list)
