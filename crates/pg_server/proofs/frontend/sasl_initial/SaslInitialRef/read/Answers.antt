use Rattle.std.proofs.Common.{drop, inl, inr, option_copied}
use Rattle.std.proofs.lemmas.Result.{err_from_is_err_and}
use Rattle.pg_format.specs.Messages.{SaslInitial}
use Rattle.pg_server.proofs.FrontendMessageLemmas.{after, ◌then◌, whole, trailing}
use Rattle.pg_server.proofs.frontend.sasl_initial.SaslInitialRef.read.Goals as goal

pub returns-in_err-mechanism : goal.returns-in_err-mechanism
returns-in_err-mechanism c =
    let p = err_from_is_err_and c.from_residual.result c.from_residual.ensures.1 in
    let f = c.in_err-mechanism.ensures in
    rw (p.1, p.2) (f.0, f.1, inl (inl f.2))

pub returns-in_err-response : goal.returns-in_err-response
returns-in_err-response c =
    let p = err_from_is_err_and c.from_residual-in_err-response.result c.from_residual-in_err-response.ensures.1 in
    let f = c.in_err-response.ensures in
    rw (p.1, p.2) (f.0, f.1, inl (inr (after c.in_ok-mechanism.ensures f.2)))

pub returns-in_err-end_at : goal.returns-in_err-end_at
returns-in_err-end_at c =
    let p = err_from_is_err_and c.from_residual-in_err-end_at.result c.from_residual-in_err-end_at.ensures.1 in
    let all = c.in_ok-mechanism.ensures then c.in_ok-response.ensures in
    let f = trailing c.args.body.now c.in_ok-response.end c.in_err-end_at.field-0.0 c.in_err-end_at.ensures.trailing in
    let value : SaslInitial = record { mechanism = c.in_ok-mechanism.mechanism.now; response = option_copied c.in_ok-response.response } in
    rw (p.1, p.2) (f.0, f.1, inr (record { value = value; mid = drop c.in_ok-response.end c.args.body.now; reads = all.reads; breaks = f.2 }))

pub returns : goal.returns
returns c =
    let all = c.in_ok-mechanism.ensures then c.in_ok-response.ensures in
    whole all c.in_ok-end_at.ensures.end
