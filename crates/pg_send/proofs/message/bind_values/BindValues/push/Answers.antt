use Rattle.std.proofs.Common.{Some, arith, append_assoc, add-one}
use Rattle.pg_send.specs.Values.{value_text}
use Rattle.pg_send.proofs.RoundTripLemmas.{values_push, a_value}
use Rattle.pg_send.proofs.message.bind_values.BindValues.push.Goals as goal

pub invariant_of-self-2 : goal.invariant_of-self-2
invariant_of-self-2 c =
    let value = c.args.value.now in
    rw (c.put_slice.ensures.written, c.put_u32.ensures.written, c.reserve.ensures.items, append_assoc, add-one)
    (values_push c.self.inside.count c.self.inside.bytes.items (value_text (Some value)) c.self.invariant (a_value value (omega (arith, c.if-value-gt-MAX_BODY.false))))
