use Rattle.std.proofs.Common.{sym, ap, ◌∙◌}
use Rattle.pg_server.specs.Backend.OutboundItem.{nul_fault}
use Rattle.pg_server.proofs.BackendOutboundItemLemmas.{broken}
use Rattle.pg_replication.proofs.LogicalListedLemmas.{passed_over, passes, unbroken}
use Rattle.std.specs.List.{list_any}
use Rattle.pg_replication.proofs.logical.listed.ListedItemsPart.fault.Goals as goal

pub loop-item-preserved : goal.loop-item-preserved
loop-item-preserved g c =
    let test = g.L.Listed.is_broken in
    let value = c.in-Some.ensures.some.value in
    let here = unbroken (test value) _ (c.fault.ensures ∙ c.in-Some.ensures.some.parts.fault) (sym c.is_some.ensures ∙ c.if-is_some.false) in
    passed_over test value (g.L.Listed.values c.loop-item.list) _ c.in-Some.ensures.some.first here ∙ c.loop-item.invariant

pub returns-then-is_some : goal.returns-then-is_some
returns-then-is_some g c =
    let test = g.L.Listed.is_broken in
    let value = c.in-Some.ensures.some.value in
    let here = broken (test value) (c.fault.ensures ∙ c.in-Some.ensures.some.parts.fault) (sym c.is_some.ensures ∙ c.if-is_some.true) in
    ap nul_fault (sym (passes test value (g.L.Listed.values c.loop-item.list) _ c.in-Some.ensures.some.first here) ∙ c.loop-item.invariant)

pub returns : goal.returns
returns g c = ap nul_fault (ap (list_any g.L.Listed.is_broken) (sym c.in_default.ensures.none) ∙ c.loop-item.invariant)
