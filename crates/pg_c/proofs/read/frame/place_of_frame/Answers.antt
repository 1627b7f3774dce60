use Rattle.std.proofs.Common.{refl}
use Rattle.pg_c.proofs.ReadFrameLemmas.{message_at}
use Rattle.pg_c.proofs.read.frame.place_of_frame.Goals as goal

pub returns : goal.returns
returns c = λ stream begins.
    let frame = c.args.frame.now in
    let found = message_at stream frame.tag frame.body.now frame.rest.now begins in
    record { body = frame.body.now; begins = rw found.1 begins; place = found.0; all = refl }
