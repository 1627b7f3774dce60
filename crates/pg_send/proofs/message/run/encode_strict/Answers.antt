use Rattle.std.proofs.Common.{◌≡◌, length, drop, arith}
use Rattle.pg_send.specs.Message.{messages_of}
use Rattle.pg_send.proofs.RunLemmas.{each_round_trips, written_back, run_by_tag, strict_by_tag}
use Rattle.pg_send.proofs.message.run.encode_strict.Goals as goal

pub returns-clause-round_trip : goal.returns-clause-round_trip
returns-clause-round_trip c =
    let found = c.encode_each.new.answers in
    let run = c.encode_each.ensures in
    let long : length found ≡ c.in_ok-answers.answers.len = omega (arith, c.encode_each.auto.answers, c.as_mut_slice.ensures.len) in
    rw (written_back c.in_ok-answers.answers.len found _ long) (each_round_trips (messages_of c.args.messages.now) found run.answered run.round_trip)

pub returns-clause-by_tag : goal.returns-clause-by_tag
returns-clause-by_tag c =
    let ms = messages_of c.args.messages.now in
    let found = c.encode_each.new.answers in
    let old = c.args.buf.now.items in
    let new = c.encode_each.new.buf.items in
    let run = c.encode_each.ensures in
    let long : length found ≡ c.in_ok-answers.answers.len = omega (arith, c.encode_each.auto.answers, c.as_mut_slice.ensures.len) in
    rw (written_back c.in_ok-answers.answers.len found _ long)
    (strict_by_tag ms found (drop (length old) new) run.answered (run_by_tag ms found old new run.adds (λ i within. omega (arith, c.type_inv.buf i, within)) run.cut run.round_trip))
