use Rattle.std.proofs.Common.{ℕ, List, drop, inr}
use Rattle.std.proofs.lemmas.Result.{err_from_is_err_and}
use Rattle.pg_server.proofs.FrontendMessageLemmas.{trailing}
use Rattle.pg_server.proofs.frontend.text.read_text.Goals as goal

pub returns-in_err-end_at : goal.returns-in_err-end_at
returns-in_err-end_at c =
    let p = err_from_is_err_and c.from_residual-in_err-end_at.result c.from_residual-in_err-end_at.ensures.1 in
    let f = trailing c.args.body.now c.in_ok-text.end c.in_err-end_at.field-0.0 c.in_err-end_at.ensures.trailing in
    let value : List ℕ = c.in_ok-text.text.now in
    rw (p.1, p.2) (f.0, f.1, inr (record { value = value; mid = drop c.in_ok-text.end c.args.body.now; reads = c.in_ok-text.ensures.reads; breaks = f.2 }))
