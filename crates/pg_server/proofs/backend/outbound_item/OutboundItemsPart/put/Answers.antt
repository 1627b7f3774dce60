use Rattle.std.proofs.Common.{◌++◌, ℕ, List, length, take, map, subst, ap, ◌∙◌, arith, length-append}
use Rattle.std.specs.List.{flat_map}
use Rattle.pg_server.specs.Backend.OutboundItem.{nul_fault}
use Rattle.pg_server.proofs.BackendOutboundItemLemmas.{fits_one, one_more, all_more, none_at, no_nul_fault}
use Rattle.pg_server.proofs.backend.outbound_item.OutboundItemsPart.put.Goals as goal

pub put-requires-clause-counted : goal.put-requires-clause-counted
put-requires-clause-counted g c =
    let is = ap g.I.OutboundItem.value (c.as_item.ensures ∙ ap g.T.AsOutboundItem.item c.item-item.is) in
    let clean = no_nul_fault _ c.requires.counted in
    let one = none_at g.I.OutboundItem.is_broken (λ x. g.I.OutboundItem.value (g.T.AsOutboundItem.item x)) c.args.self.now.1.now c.loop-item.item-index c.item-item.result c.loop-item-test.true clean in
    c.parts.ensures.fault ∙ ap (λ v. nul_fault (g.I.OutboundItem.is_broken v)) is ∙ ap nul_fault one

pub put-requires-clause-small : goal.put-requires-clause-small
put-requires-clause-small g c =
    let spell = g.I.OutboundItem.format.Writes in
    let one = fits_one spell (λ x. g.I.OutboundItem.value (g.T.AsOutboundItem.item x)) c.args.self.now.1.now c.loop-item.item-index c.item-item.result c.loop-item-test.true in
    let is = ap length c.parts.ensures.text ∙ ap (λ x. length (spell (g.I.OutboundItem.value x))) (c.as_item.ensures ∙ ap g.T.AsOutboundItem.item c.item-item.is) in
    omega (arith, one, is, c.requires.small)

pub put-requires-clause-room : goal.put-requires-clause-room
put-requires-clause-room g c =
    let spell = g.I.OutboundItem.format.Writes in
    let before = flat_map spell (map (λ x. g.I.OutboundItem.value (g.T.AsOutboundItem.item x)) (take c.loop-item.item-index c.args.self.now.1.now)) in
    let one = fits_one spell (λ x. g.I.OutboundItem.value (g.T.AsOutboundItem.item x)) c.args.self.now.1.now c.loop-item.item-index c.item-item.result c.loop-item-test.true in
    let is = ap length c.parts.ensures.text ∙ ap (λ x. length (spell (g.I.OutboundItem.value x))) (c.as_item.ensures ∙ ap g.T.AsOutboundItem.item c.item-item.is) in
    omega (arith, one, is, ap length c.loop-item.invariant.written, length-append (g.S.Sink.written c.args.sink.now) before, c.loop-item.invariant.capacity, c.requires.room)

pub loop-item-preserved : goal.loop-item-preserved
loop-item-preserved g c =
    let items = c.args.self.now.1.now in
    let is = ap g.I.OutboundItem.value (c.as_item.ensures ∙ ap g.T.AsOutboundItem.item c.item-item.is) in
    let spelled = c.parts.ensures.text ∙ ap g.I.OutboundItem.format.Writes is in
    let written = c.put.ensures.written ∙ ap (λ (l : List ℕ). g.S.Sink.written c.loop-item.sink ++ l) spelled in
    let range = subst g.I.OutboundItem.IsInRange is (c.parts.ensures.range c.put.ensures.range) in
    record {
      written = one_more g.I.OutboundItem.format.Writes (λ x. g.I.OutboundItem.value (g.T.AsOutboundItem.item x)) items c.loop-item.item-index c.item-item.result c.loop-item-test.true (g.S.Sink.written c.args.sink.now) (g.S.Sink.written c.loop-item.sink) (g.S.Sink.written c.put.new.sink) c.loop-item.invariant.written written;
      capacity = omega (arith, c.loop-item.invariant.capacity, c.put.ensures.capacity);
      loan = c.put.ensures.loan ∙ c.loop-item.invariant.loan;
      range = all_more g.I.OutboundItem.format.Writes (λ x. g.I.OutboundItem.value (g.T.AsOutboundItem.item x)) items c.loop-item.item-index c.item-item.result c.loop-item-test.true g.I.OutboundItem.IsInRange c.loop-item.invariant.range range;
    }
