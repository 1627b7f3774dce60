use Rattle.std.proofs.Common.{◌≡◌, false, take, map}
use Rattle.std.specs.List.{list_any}
use Rattle.pg_server.proofs.backend.outbound_item.OutboundItemsPart.fault.Given as goal

abbrev pub invariant-loop-item : goal.invariant-loop-item
invariant-loop-item g l = list_any g.I.OutboundItem.is_broken (map (λ x. g.I.OutboundItem.value (g.T.AsOutboundItem.item x)) (take l.item-index l.self.1.now)) ≡ false
