use Rattle.std.proofs.Common.{take, drop, ◌∙◌}
use Rattle.pg_base.proofs.NumbersLemmas.{number_8, wide_enough, number_at}
use Rattle.pg_base.proofs.io.numbers.u64_at.Goals as goal

pub returns-clause-found : goal.returns-clause-found
returns-clause-found c =
    let found = c.in_ok-bytes_at.ensures.found in
    let body = c.args.body.now in
    let at = c.args.at in
    number_at body at 8 c.read_u64.result found.0 (rw found.1 at c.read_u64.ensures ∙ number_8 (take 8 (drop at body)) (wide_enough body at 8 found.0))
