use Rattle.std.proofs.lemmas.Result.{err_from_is_err_and}
use Rattle.pg_receive.proofs.message.authentication.sasl_final.decode_verifier.Goals as goal

pub returns-in_err-to_vec : goal.returns-in_err-to_vec
returns-in_err-to_vec c =
    let p = err_from_is_err_and c.from_residual-in_err-to_vec.result c.from_residual-in_err-to_vec.ensures.1 in
    rw (p.1, p.2) (λ none. c.in_err-to_vec.ensures.some (none _ c.in_ok-verifier.ensures))
