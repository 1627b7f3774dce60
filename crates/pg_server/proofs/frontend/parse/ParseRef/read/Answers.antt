use Rattle.std.proofs.Common.{drop, inl, inr}
use Rattle.std.proofs.lemmas.Result.{err_from_is_err_and}
use Rattle.pg_format.specs.Messages.{Parse}
use Rattle.pg_server.proofs.FrontendMessageLemmas.{after, ◌then◌, whole, trailing}
use Rattle.pg_server.proofs.frontend.parse.ParseRef.read.Goals as goal

pub returns-in_err-statement : goal.returns-in_err-statement
returns-in_err-statement c =
    let p = err_from_is_err_and c.from_residual.result c.from_residual.ensures.1 in
    let f = c.in_err-statement.ensures in
    rw (p.1, p.2) (f.0, f.1, inl (inl f.2))

pub returns-in_err-query : goal.returns-in_err-query
returns-in_err-query c =
    let p = err_from_is_err_and c.from_residual-in_err-query.result c.from_residual-in_err-query.ensures.1 in
    let f = c.in_err-query.ensures in
    rw (p.1, p.2) (f.0, f.1, inl (inr (after c.in_ok-statement.ensures (inl f.2))))

pub returns-in_err-types : goal.returns-in_err-types
returns-in_err-types c =
    let p = err_from_is_err_and c.from_residual-in_err-types.result c.from_residual-in_err-types.ensures.1 in
    let f = c.in_err-types.ensures in
    rw (p.1, p.2) (f.0, f.1, inl (inr (after c.in_ok-statement.ensures (inr (after c.in_ok-query.ensures f.2)))))

pub returns-in_err-end_at : goal.returns-in_err-end_at
returns-in_err-end_at c =
    let p = err_from_is_err_and c.from_residual-in_err-end_at.result c.from_residual-in_err-end_at.ensures.1 in
    let all = c.in_ok-statement.ensures then c.in_ok-query.ensures then c.in_ok-types.ensures in
    let f = trailing c.args.body.now c.in_ok-types.end c.in_err-end_at.field-0.0 c.in_err-end_at.ensures.trailing in
    let value : Parse = record { statement = c.in_ok-statement.statement.now; query = c.in_ok-query.query.now; types = c.in_ok-types.types } in
    rw (p.1, p.2) (f.0, f.1, inr (record { value = value; mid = drop c.in_ok-types.end c.args.body.now; reads = all.reads; breaks = f.2 }))

pub returns : goal.returns
returns c =
    let all = c.in_ok-statement.ensures then c.in_ok-query.ensures then c.in_ok-types.ensures in
    whole all c.in_ok-end_at.ensures.end
