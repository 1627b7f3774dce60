use Rattle.std.proofs.Common.{drop, inl, inr}
use Rattle.std.proofs.lemmas.Result.{err_from_is_err_and}
use Rattle.pg_format.specs.Messages.{Targeted}
use Rattle.pg_server.specs.Frontend.Page.{shown_target}
use Rattle.pg_server.proofs.FrontendMessageLemmas.{after, ◌then◌, whole, trailing}
use Rattle.pg_server.proofs.frontend.target.TargetRef.read.Goals as goal

pub returns-in_err-target : goal.returns-in_err-target
returns-in_err-target c =
    let p = err_from_is_err_and c.from_residual.result c.from_residual.ensures.1 in
    let f = c.in_err-target.ensures in
    rw (p.1, p.2) (f.0, f.1, inl (inl f.2))

pub returns-in_err-name : goal.returns-in_err-name
returns-in_err-name c =
    let p = err_from_is_err_and c.from_residual-in_err-name.result c.from_residual-in_err-name.ensures.1 in
    let f = c.in_err-name.ensures in
    rw (p.1, p.2) (f.0, f.1, inl (inr (after c.in_ok-target.ensures f.2)))

pub returns-in_err-end_at : goal.returns-in_err-end_at
returns-in_err-end_at c =
    let p = err_from_is_err_and c.from_residual-in_err-end_at.result c.from_residual-in_err-end_at.ensures.1 in
    let all = c.in_ok-target.ensures then c.in_ok-name.ensures in
    let f = trailing c.args.body.now c.in_ok-name.end c.in_err-end_at.field-0.0 c.in_err-end_at.ensures.trailing in
    let value : Targeted = record { target = shown_target c.in_ok-target.target; name = c.in_ok-name.name.now } in
    rw (p.1, p.2) (f.0, f.1, inr (record { value = value; mid = drop c.in_ok-name.end c.args.body.now; reads = all.reads; breaks = f.2 }))

pub returns : goal.returns
returns c =
    let all = c.in_ok-target.ensures then c.in_ok-name.ensures in
    whole all c.in_ok-end_at.ensures.end
