use Rattle.std.proofs.Common.{[], ◌∷◌, arith, length-append}
use Rattle.hex.specs.Hex.{encode_lower, lower_digits}
use Rattle.hex.proofs.HexLemmas.{length-encode_with}
use Rattle.pg_send.proofs.message.password.md5_body_len.Goals as goal

pub returns : goal.returns
returns c =
    let digest = c.args.digest.now in
    omega (arith, length-append (encode_lower digest) (0 ∷ []), length-encode_with lower_digits digest)
