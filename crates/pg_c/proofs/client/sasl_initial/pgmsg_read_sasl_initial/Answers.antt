use Rattle.pg_c.proofs.ClientLemmas.{mechanism_is, response_is}
use Rattle.pg_c.proofs.client.sasl_initial.pgmsg_read_sasl_initial.Goals as goal

pub returns-in-Ok-clause-value : goal.returns-in-Ok-clause-value
returns-in-Ok-clause-value c = λ _.
    let body = c.args.body.now in
    record { value = _; means = c.in-Ok.ensures; mechanism = mechanism_is body _ c.in-Ok.ensures; response = c.place_of_cell.ensures body (response_is body _ c.in-Ok.ensures) }
