use Rattle.std.proofs.Common.{None, add-one}
use Rattle.pg_send.specs.Values.{value_text}
use Rattle.pg_send.proofs.RoundTripLemmas.{values_push, a_null}
use Rattle.pg_send.proofs.message.bind_values.BindValues.push_null.Goals as goal

pub invariant_of-self-2 : goal.invariant_of-self-2
invariant_of-self-2 c =
    rw (c.put_u32.ensures.written, c.reserve.ensures.items, add-one)
    (values_push c.self.inside.count c.self.inside.bytes.items (value_text None) c.self.invariant a_null)
