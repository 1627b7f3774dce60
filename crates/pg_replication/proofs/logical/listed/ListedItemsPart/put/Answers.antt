use Rattle.std.proofs.Common.{◌++◌, ℕ, List, length, refl, ap, ◌∙◌, arith, length-append}
use Rattle.std.specs.List.{flat_map, list_any}
use Rattle.std.proofs.lemmas.List.Elements.{All-nil}
use Rattle.pg_server.specs.Backend.OutboundItem.{nul_fault}
use Rattle.pg_server.proofs.BackendOutboundItemLemmas.{no_nul_fault}
use Rattle.pg_replication.proofs.LogicalListedLemmas.{first_length, written_step, written_end, none_step, all_step}
use Rattle.pg_replication.proofs.logical.listed.ListedItemsPart.put.Goals as goal

pub loop-item-init : goal.loop-item-init
loop-item-init g c = record {
  written = refl;
  small = c.requires.small;
  clean = no_nul_fault (list_any g.L.Listed.is_broken (g.L.Listed.values c.args.self.now.0)) c.requires.counted;
  capacity = omega arith;
  loan = refl;
  range = λ all. all;
}

pub put-requires-clause-counted : goal.put-requires-clause-counted
put-requires-clause-counted g c =
    let value = c.in-Some.ensures.some.value in
    c.in-Some.ensures.some.parts.fault ∙ ap nul_fault (none_step g.L.Listed.is_broken value (g.L.Listed.values c.loop-item.list) _ c.in-Some.ensures.some.first c.loop-item.invariant.clean).0

pub put-requires-clause-small : goal.put-requires-clause-small
put-requires-clause-small g c =
    let first = first_length g.L.Listed.format.Writes c.in-Some.ensures.some.value (g.L.Listed.values c.loop-item.list) _ c.in-Some.ensures.some.first in
    omega (arith, first, ap length c.in-Some.ensures.some.parts.text, c.loop-item.invariant.small)

pub put-requires-clause-room : goal.put-requires-clause-room
put-requires-clause-room g c =
    let spell = g.L.Listed.format.Writes in
    let left = flat_map spell (g.L.Listed.values c.loop-item.list) in
    let all = flat_map spell (g.L.Listed.values c.args.self.now.0) in
    let first = first_length spell c.in-Some.ensures.some.value (g.L.Listed.values c.loop-item.list) _ c.in-Some.ensures.some.first in
    omega (arith, first, ap length c.in-Some.ensures.some.parts.text, ap length c.loop-item.invariant.written, length-append (g.S.Sink.written c.loop-item.sink) left, length-append (g.S.Sink.written c.args.sink.now) all, c.loop-item.invariant.capacity, c.requires.room)

pub loop-item-preserved : goal.loop-item-preserved
loop-item-preserved g c =
    let spell = g.L.Listed.format.Writes in
    let value = c.in-Some.ensures.some.value in
    let left = g.L.Listed.values c.loop-item.list in
    let before = c.loop-item.invariant in
    let first = first_length spell value left _ c.in-Some.ensures.some.first in
    record {
      written = written_step spell value left _ c.in-Some.ensures.some.first (g.S.Sink.written c.loop-item.sink) _ _ before.written (c.put.ensures.written ∙ ap (λ (l : List ℕ). g.S.Sink.written c.loop-item.sink ++ l) c.in-Some.ensures.some.parts.text);
      small = omega (arith, first, before.small);
      clean = (none_step g.L.Listed.is_broken value left _ c.in-Some.ensures.some.first before.clean).1;
      capacity = omega (arith, before.capacity, c.put.ensures.capacity);
      loan = c.put.ensures.loan ∙ before.loan;
      range = λ rest. before.range (all_step g.L.Listed.IsInRange value left _ c.in-Some.ensures.some.first (c.in-Some.ensures.some.parts.range c.put.ensures.range) rest);
    }

pub returns-clause-written : goal.returns-clause-written
returns-clause-written g c = written_end g.L.Listed.format.Writes (g.L.Listed.values c.loop-item.list) (g.S.Sink.written c.loop-item.sink) _ c.in_default.ensures.none c.loop-item.invariant.written

pub returns-clause-range : goal.returns-clause-range
returns-clause-range g c = c.loop-item.invariant.range (rw c.in_default.ensures.none (All-nil g.L.Listed.IsInRange))
