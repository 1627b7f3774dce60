use Rattle.std.proofs.Common.{◌≡◌, ◌≤◌, ◌++◌, take, map, All}
use Rattle.std.specs.List.{flat_map}
use Rattle.pg_server.proofs.backend.outbound_item.OutboundItemsPart.put.Given as goal

abbrev pub invariant-loop-item : goal.invariant-loop-item
invariant-loop-item g l = record {
  written : g.S.Sink.written l.sink ≡ g.S.Sink.written l.fn.sink ++ flat_map g.I.OutboundItem.format.Writes (map (λ x. g.I.OutboundItem.value (g.T.AsOutboundItem.item x)) (take l.item-index l.self.1.now));
  capacity : g.S.Sink.capacity l.fn.sink ≤ g.S.Sink.capacity l.sink;
  loan : g.S.Sink.loan l.sink ≡ g.S.Sink.loan l.fn.sink;
  range : All g.I.OutboundItem.IsInRange (map (λ x. g.I.OutboundItem.value (g.T.AsOutboundItem.item x)) (take l.item-index l.self.1.now));
}
