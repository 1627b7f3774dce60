use Rattle.std.proofs.Common.{length}
use Rattle.pg_receive.proofs.AuthenticationBase64BytesLemmas.{LeftText}
use Rattle.pg_receive.proofs.message.authentication.base64_bytes.decoded_len.Given as goal

abbrev pub invariant-loop-rest : goal.invariant-loop-rest
invariant-loop-rest l = LeftText l.text l.rest l.len

abbrev pub decreases-loop-rest : goal.decreases-loop-rest
decreases-loop-rest l = length l.rest
