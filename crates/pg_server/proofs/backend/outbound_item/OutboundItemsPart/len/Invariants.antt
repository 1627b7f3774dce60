use Rattle.std.proofs.Common.{◌≡◌, length, take, map}
use Rattle.std.specs.List.{flat_map}
use Rattle.pg_base.specs.Part.{saturated}
use Rattle.pg_server.proofs.backend.outbound_item.OutboundItemsPart.len.Given as goal

abbrev pub invariant-loop-item : goal.invariant-loop-item
invariant-loop-item g l = l.len ≡ saturated (length (flat_map g.I.OutboundItem.format.Writes (map (λ x. g.I.OutboundItem.value (g.T.AsOutboundItem.item x)) (take l.item-index l.self.1.now))))
