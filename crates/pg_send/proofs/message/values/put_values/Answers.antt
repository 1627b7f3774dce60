use Rattle.std.proofs.Common.{ℕ, Option, List, [], length, ap, ◌∙◌, arith, refl}
use Rattle.pg_base.specs.Cutting.{max_length}
use Rattle.pg_send.specs.Values.{value_text}
use Rattle.pg_send.proofs.CountedLemmas.{room_for_one}
use Rattle.pg_send.proofs.message.values.put_values.Goals as goal

pub put-requires-clause-small : goal.put-requires-clause-small
put-requires-clause-small g c =
    let is = c.as_value.ensures ∙ ap g.V.AsValue.value c.value-item.is in
    let one = room_for_one value_text g.V.AsValue.value c.args.values.now c.loop-value.value-index c.value-item.result c.loop-value-test.true [] [] _ max_length refl (omega (arith, c.requires.small)) in
    omega (arith, one, ap (λ (v : Option (List ℕ)). length (value_text v)) is)

pub put-requires-clause-room : goal.put-requires-clause-room
put-requires-clause-room g c =
    let is = c.as_value.ensures ∙ ap g.V.AsValue.value c.value-item.is in
    let room = room_for_one value_text g.V.AsValue.value c.args.values.now c.loop-value.value-index c.value-item.result c.loop-value-test.true (g.S.Sink.written c.args.sink.now) [] _ (g.S.Sink.capacity c.args.sink.now) c.loop-value.invariant.adds (omega (arith, c.requires.room)) in
    omega (arith, room, ap (λ (v : Option (List ℕ)). length (value_text v)) is, c.loop-value.invariant.capacity)
