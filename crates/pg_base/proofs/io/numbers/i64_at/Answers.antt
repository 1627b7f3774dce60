use Rattle.std.proofs.Common.{take, drop, arith}
use Rattle.pg_base.proofs.NumbersLemmas.{bytes_within, wide_enough, signed_value_8, signed_at}
use Rattle.pg_base.proofs.io.numbers.i64_at.Goals as goal

pub returns-clause-found : goal.returns-clause-found
returns-clause-found c =
    let found = c.in_ok-bytes_at.ensures.found in
    let body = c.args.body.now in
    let at = c.args.at in
    signed_at body at 8 _ found.0 (signed_value_8 (take 8 (drop at body)) c.read_i64.result (wide_enough body at 8 found.0) (bytes_within at 8 body (λ i. omega (arith, c.type_inv.body i))) (rw found.1 at c.read_i64.ensures))
