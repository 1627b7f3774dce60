use Rattle.std.proofs.Common.{arith}
use Rattle.pg_receive.proofs.AuthenticationBase64BytesLemmas.{last_some, last_within, last_none}
use Rattle.pg_receive.proofs.message.authentication.base64_bytes.last_len.Goals as goal

pub returns-clause-some : goal.returns-clause-some
returns-clause-some c = last_some c.args.piece.now c.requires c.decode_slice.result c.ok.result c.ok.ensures.value c.decode_slice.ensures.value

pub returns-clause-within : goal.returns-clause-within
returns-clause-within c = last_within c.args.piece.now c.requires c.decode_slice.result c.ok.result c.ok.ensures.value c.decode_slice.ensures.value (λ i. omega (arith, c.type_inv.piece i))

pub returns-clause-none : goal.returns-clause-none
returns-clause-none c = last_none c.args.piece.now c.requires c.decode_slice.result c.ok.result c.ok.ensures.value c.decode_slice.ensures.value
