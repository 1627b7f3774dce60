use Rattle.std.proofs.Common.{length, ap, arith}
use Rattle.pg_replication.proofs.LogicalListedLemmas.{length_step, length_end}
use Rattle.pg_replication.proofs.logical.listed.ListedItemsPart.len.Goals as goal

pub loop-item-preserved : goal.loop-item-preserved
loop-item-preserved g c = record {
  same = length_step g.L.Listed.format.Writes c.in-Some.ensures.some.value (g.L.Listed.values c.loop-item.list) _ c.in-Some.ensures.some.first c.loop-item.len _ _ c.loop-item.invariant.same (omega (arith, c.saturating_add-len.ensures, c.len.ensures, ap length c.in-Some.ensures.some.parts.text));
  small = omega (arith, c.saturating_add-len.ensures);
}

pub returns : goal.returns
returns g c = length_end g.L.Listed.format.Writes (g.L.Listed.values c.loop-item.list) c.loop-item.len _ c.in_default.ensures.none c.loop-item.invariant.same c.loop-item.invariant.small
