use Rattle.std.proofs.Common.{◌≡◌}
use Rattle.pg_receive.specs.Response.Places.{bytes_in}
use Rattle.pg_receive.proofs.ResponseFieldsLemmas.{read_means}
use Rattle.pg_receive.proofs.message.response.NoticeProtocolDecode.decode.Goals as goal

pub returns : goal.returns
returns c =
    let body = c.args.buf in
    let part = c.in_ok-part.part in
    let borrowed : c.as_slice.result.now ≡ body = c.as_slice.ensures in
    rw c.severity.ensures (read_means body (bytes_in body part.message) (bytes_in body part.code) part.severity part.localized (rw borrowed at c.in_ok-part.ensures.reads))
