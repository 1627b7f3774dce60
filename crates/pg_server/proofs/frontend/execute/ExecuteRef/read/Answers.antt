use Rattle.std.proofs.Common.{drop, inl, inr}
use Rattle.std.proofs.lemmas.Result.{err_from_is_err_and}
use Rattle.pg_format.specs.Messages.{Execute}
use Rattle.pg_server.proofs.FrontendMessageLemmas.{after, ◌then◌, whole, trailing}
use Rattle.pg_server.proofs.frontend.execute.ExecuteRef.read.Goals as goal

pub returns-in_err-portal : goal.returns-in_err-portal
returns-in_err-portal c =
    let p = err_from_is_err_and c.from_residual.result c.from_residual.ensures.1 in
    let f = c.in_err-portal.ensures in
    rw (p.1, p.2) (f.0, f.1, inl (inl f.2))

pub returns-in_err-limit : goal.returns-in_err-limit
returns-in_err-limit c =
    let p = err_from_is_err_and c.from_residual-in_err-limit.result c.from_residual-in_err-limit.ensures.1 in
    let f = c.in_err-limit.ensures in
    rw (p.1, p.2) (f.0, f.1, inl (inr (after c.in_ok-portal.ensures f.2)))

pub returns-in_err-end_at : goal.returns-in_err-end_at
returns-in_err-end_at c =
    let p = err_from_is_err_and c.from_residual-in_err-end_at.result c.from_residual-in_err-end_at.ensures.1 in
    let all = c.in_ok-portal.ensures then c.in_ok-limit.ensures in
    let f = trailing c.args.body.now c.in_ok-limit.end c.in_err-end_at.field-0.0 c.in_err-end_at.ensures.trailing in
    let value : Execute = record { portal = c.in_ok-portal.portal.now; limit = c.in_ok-limit.limit } in
    rw (p.1, p.2) (f.0, f.1, inr (record { value = value; mid = drop c.in_ok-limit.end c.args.body.now; reads = all.reads; breaks = f.2 }))

pub returns : goal.returns
returns c =
    let all = c.in_ok-portal.ensures then c.in_ok-limit.ensures in
    whole all c.in_ok-end_at.ensures.end
