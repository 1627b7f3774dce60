use Rattle.std.proofs.lemmas.Result.{err_from_is_err_and}
use Rattle.pg_replication.proofs.logical.stream.StreamCommit.read.Goals as goal

pub returns-in_err-transaction : goal.returns-in_err-transaction
returns-in_err-transaction c =
    let p = err_from_is_err_and c.from_residual.result c.from_residual.ensures.1 in
    rw (p.1, p.2) c.in_err-transaction.ensures
