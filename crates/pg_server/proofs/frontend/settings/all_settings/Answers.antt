use Rattle.std.proofs.Common.{drop, inr}
use Rattle.std.proofs.lemmas.Result.{err_from_is_err_and}
use Rattle.pg_server.proofs.FrontendMessageLemmas.{trailing}
use Rattle.pg_server.proofs.frontend.settings.all_settings.Goals as goal

pub returns-in_err-end_at : goal.returns-in_err-end_at
returns-in_err-end_at c =
    let p = err_from_is_err_and c.from_residual-in_err-end_at.result c.from_residual-in_err-end_at.ensures.1 in
    let read = c.in_ok-settings in
    let f = trailing c.args.body.now read.end c.in_err-end_at.field-0.0 c.in_err-end_at.ensures.trailing in
    rw (p.1, p.2) (f.0, f.1, inr (record { value = read.settings; mid = drop read.end c.args.body.now; reads = read.ensures.reads; breaks = f.2 }))
