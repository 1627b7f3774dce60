use Rattle.std.proofs.Common.{◌≡◌, ◌+◌, ◌^◌, ◌<◌, length}
use Rattle.std.specs.List.{flat_map}
use Rattle.pg_base.specs.Part.{saturated}
use Rattle.pg_replication.proofs.logical.listed.ListedItemsPart.len.Given as goal

abbrev pub invariant-loop-item : goal.invariant-loop-item
invariant-loop-item g l = record {
  same : saturated (l.len + length (flat_map g.L.Listed.format.Writes (g.L.Listed.values l.list))) ≡ saturated (length (flat_map g.L.Listed.format.Writes (g.L.Listed.values l.self.0)));
  small : l.len < 2 ^ 64;
}

abbrev pub decreases-loop-item : goal.decreases-loop-item
decreases-loop-item g l = length (g.L.Listed.values l.list)
