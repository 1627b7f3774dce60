use Rattle.std.proofs.Common.{drop, refl, inr}
use Rattle.std.proofs.lemmas.Result.{err_from_is_err_and}
use Rattle.pg_server.proofs.FrontendMessageLemmas.{trailing}
use Rattle.pg_server.proofs.frontend.empty.nothing_at.Goals as goal

pub returns-in_err-end_at : goal.returns-in_err-end_at
returns-in_err-end_at c =
    let p = err_from_is_err_and c.from_residual.result c.from_residual.ensures.1 in
    let f = trailing c.args.body.now c.args.at c.in_err-end_at.field-0.0 c.in_err-end_at.ensures.trailing in
    rw (p.1, p.2) (f.0, f.1, inr (record { value = tt; mid = drop c.args.at c.args.body.now; reads = (refl, refl); breaks = f.2 }))
