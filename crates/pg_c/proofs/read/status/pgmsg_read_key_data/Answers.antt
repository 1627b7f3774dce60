use Rattle.std.proofs.Common.{refl}
use Rattle.pg_c.proofs.PlaceLemmas.{key_at}
use Rattle.pg_c.proofs.read.status.pgmsg_read_key_data.Goals as goal

pub returns-in-Ok-clause-value : goal.returns-in-Ok-clause-value
returns-in-Ok-clause-value c = λ _. record { key = _; means = c.in-Ok.ensures.1; process_id = refl; secret_key = key_at c.args.body.now _ c.in-Ok.ensures.1 }
