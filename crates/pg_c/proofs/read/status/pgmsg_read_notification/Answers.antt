use Rattle.std.proofs.Common.{refl}
use Rattle.pg_c.proofs.PlaceLemmas.{notified_at}
use Rattle.pg_c.proofs.read.status.pgmsg_read_notification.Goals as goal

pub returns-in-Ok-clause-value : goal.returns-in-Ok-clause-value
returns-in-Ok-clause-value c = λ _.
    let at = notified_at c.args.body.now _ c.in-Ok.ensures.1 in
    record { value = _; means = c.in-Ok.ensures.1; process_id = refl; channel = at.0; payload = at.1 }
