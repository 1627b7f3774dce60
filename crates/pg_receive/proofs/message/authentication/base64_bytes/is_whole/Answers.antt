use Rattle.std.proofs.Common.{arith}
use Rattle.pg_receive.proofs.AuthenticationBase64BytesLemmas.{whole_answer}
use Rattle.pg_receive.proofs.message.authentication.base64_bytes.is_whole.Goals as goal

pub returns : goal.returns
returns c = whole_answer c.decode_slice.result c.is_ok.result c.args.piece.now c.is_ok.ensures.value c.decode_slice.ensures.value c.decode_slice.ensures.bytes c.requires (λ i. omega (arith, c.type_inv.piece i))
