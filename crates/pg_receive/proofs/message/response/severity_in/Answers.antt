use Rattle.pg_receive.specs.Response.Places.{bytes_in}
use Rattle.pg_receive.proofs.ResponseFieldsLemmas.{read_means, severity_means}
use Rattle.pg_receive.proofs.message.response.severity_in.Goals as goal

pub returns-clause-answer : goal.returns-clause-answer
returns-clause-answer c = λ _.
    let body = c.args.body.now in
    let part = c.in_ok-part.part in
    rw c.severity.ensures (severity_means body _ (read_means body (bytes_in body part.message) (bytes_in body part.code) part.severity part.localized c.in_ok-part.ensures.reads))
