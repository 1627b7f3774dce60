use Rattle.std.proofs.Common.{refl}
use Rattle.pg_c.proofs.PlaceLemmas.{content_at}
use Rattle.pg_c.proofs.read.authentication.pgmsg_read_authentication.Goals as goal

pub returns-in-Ok-clause-value : goal.returns-in-Ok-clause-value
returns-in-Ok-clause-value c = λ _. record { request = _; means = c.in-Ok.ensures.1; method = refl; content = content_at c.args.body.now _ c.in-Ok.ensures.1 }
