use Rattle.pg_c.proofs.ClientLemmas.{name_is}
use Rattle.pg_c.proofs.client.target.pgmsg_read_target.Goals as goal

pub returns-in-Ok-clause-value : goal.returns-in-Ok-clause-value
returns-in-Ok-clause-value c = λ _. record { value = _; means = c.in-Ok.ensures; letter = c.letter_of.ensures; name = name_is c.args.body.now _ c.in-Ok.ensures }
