use Rattle.std.proofs.Common.{drop, inl, inr}
use Rattle.std.proofs.lemmas.Result.{err_from_is_err_and}
use Rattle.pg_format.specs.Messages.{Bind}
use Rattle.pg_server.proofs.FrontendMessageLemmas.{after, ◌then◌, whole, trailing}
use Rattle.pg_server.proofs.frontend.bind.BindRef.read.Goals as goal

pub returns-in_err-portal : goal.returns-in_err-portal
returns-in_err-portal c =
    let p = err_from_is_err_and c.from_residual.result c.from_residual.ensures.1 in
    let f = c.in_err-portal.ensures in
    rw (p.1, p.2) (f.0, f.1, inl (inl f.2))

pub returns-in_err-statement : goal.returns-in_err-statement
returns-in_err-statement c =
    let p = err_from_is_err_and c.from_residual-in_err-statement.result c.from_residual-in_err-statement.ensures.1 in
    let f = c.in_err-statement.ensures in
    rw (p.1, p.2) (f.0, f.1, inl (inr (after c.in_ok-portal.ensures (inl f.2))))

pub returns-in_err-formats : goal.returns-in_err-formats
returns-in_err-formats c =
    let p = err_from_is_err_and c.from_residual-in_err-formats.result c.from_residual-in_err-formats.ensures.1 in
    let f = c.in_err-formats.ensures in
    rw (p.1, p.2) (f.0, f.1, inl (inr (after c.in_ok-portal.ensures (inr (after c.in_ok-statement.ensures (inl f.2))))))

pub returns-in_err-values : goal.returns-in_err-values
returns-in_err-values c =
    let p = err_from_is_err_and c.from_residual-in_err-values.result c.from_residual-in_err-values.ensures.1 in
    let f = c.in_err-values.ensures in
    rw (p.1, p.2) (f.0, f.1, inl (inr (after c.in_ok-portal.ensures (inr (after c.in_ok-statement.ensures (inr (after c.in_ok-formats.ensures (inl f.2))))))))

pub returns-in_err-result_formats : goal.returns-in_err-result_formats
returns-in_err-result_formats c =
    let p = err_from_is_err_and c.from_residual-in_err-result_formats.result c.from_residual-in_err-result_formats.ensures.1 in
    let f = c.in_err-result_formats.ensures in
    rw (p.1, p.2) (f.0, f.1, inl (inr (after c.in_ok-portal.ensures (inr (after c.in_ok-statement.ensures (inr (after c.in_ok-formats.ensures (inr (after c.in_ok-values.ensures f.2)))))))))

pub returns-in_err-end_at : goal.returns-in_err-end_at
returns-in_err-end_at c =
    let p = err_from_is_err_and c.from_residual-in_err-end_at.result c.from_residual-in_err-end_at.ensures.1 in
    let all = c.in_ok-portal.ensures then c.in_ok-statement.ensures then c.in_ok-formats.ensures then c.in_ok-values.ensures then c.in_ok-result_formats.ensures in
    let f = trailing c.args.body.now c.in_ok-result_formats.end c.in_err-end_at.field-0.0 c.in_err-end_at.ensures.trailing in
    let value : Bind = record { portal = c.in_ok-portal.portal.now; statement = c.in_ok-statement.statement.now; formats = c.in_ok-formats.formats; values = c.in_ok-values.values; result_formats = c.in_ok-result_formats.result_formats } in
    rw (p.1, p.2) (f.0, f.1, inr (record { value = value; mid = drop c.in_ok-result_formats.end c.args.body.now; reads = all.reads; breaks = f.2 }))

pub returns : goal.returns
returns c =
    let all = c.in_ok-portal.ensures then c.in_ok-statement.ensures then c.in_ok-formats.ensures then c.in_ok-values.ensures then c.in_ok-result_formats.ensures in
    whole all c.in_ok-end_at.ensures.end
