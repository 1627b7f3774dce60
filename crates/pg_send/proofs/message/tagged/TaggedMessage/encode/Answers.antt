use Rattle.std.proofs.Common.{arith}
use Rattle.pg_send.specs.Message.{message_of}
use Rattle.pg_send.proofs.MessageLemmas.{round_trips_if_ok}
use Rattle.pg_send.proofs.RunLemmas.{message_by_tag}
use Rattle.pg_send.proofs.message.tagged.TaggedMessage.encode.Goals as goal

pub returns-clause-round_trip : goal.returns-clause-round_trip
returns-clause-round_trip c =
    round_trips_if_ok (message_of c.args.self.now) c.put_or_encode.result c.put_or_encode.ensures.encodes.encodes.answer c.put_or_encode.ensures.range

pub returns-clause-by_tag : goal.returns-clause-by_tag
returns-clause-by_tag c =
    message_by_tag (message_of c.args.self.now) c.put_or_encode.result c.args.buf.now c.put_or_encode.new.buf c.put_or_encode.ensures.encodes (λ i within. omega (arith, c.type_inv.buf i, within)) (returns-clause-round_trip c)
