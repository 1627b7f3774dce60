use Rattle.std.proofs.Common.{drop, inl, inr}
use Rattle.std.proofs.lemmas.Result.{err_from_is_err_and}
use Rattle.pg_format.specs.Messages.{FunctionCall}
use Rattle.pg_server.proofs.FrontendMessageLemmas.{after, ◌then◌, whole, trailing}
use Rattle.pg_server.proofs.frontend.function_call.FunctionCallRef.read.Goals as goal

pub returns-in_err-object_id : goal.returns-in_err-object_id
returns-in_err-object_id c =
    let p = err_from_is_err_and c.from_residual.result c.from_residual.ensures.1 in
    let f = c.in_err-object_id.ensures in
    rw (p.1, p.2) (f.0, f.1, inl (inl f.2))

pub returns-in_err-formats : goal.returns-in_err-formats
returns-in_err-formats c =
    let p = err_from_is_err_and c.from_residual-in_err-formats.result c.from_residual-in_err-formats.ensures.1 in
    let f = c.in_err-formats.ensures in
    rw (p.1, p.2) (f.0, f.1, inl (inr (after c.in_ok-object_id.ensures (inl f.2))))

pub returns-in_err-arguments : goal.returns-in_err-arguments
returns-in_err-arguments c =
    let p = err_from_is_err_and c.from_residual-in_err-arguments.result c.from_residual-in_err-arguments.ensures.1 in
    let f = c.in_err-arguments.ensures in
    rw (p.1, p.2) (f.0, f.1, inl (inr (after c.in_ok-object_id.ensures (inr (after c.in_ok-formats.ensures (inl f.2))))))

pub returns-in_err-result_format : goal.returns-in_err-result_format
returns-in_err-result_format c =
    let p = err_from_is_err_and c.from_residual-in_err-result_format.result c.from_residual-in_err-result_format.ensures.1 in
    let f = c.in_err-result_format.ensures in
    rw (p.1, p.2) (f.0, f.1, inl (inr (after c.in_ok-object_id.ensures (inr (after c.in_ok-formats.ensures (inr (after c.in_ok-arguments.ensures f.2)))))))

pub returns-in_err-end_at : goal.returns-in_err-end_at
returns-in_err-end_at c =
    let p = err_from_is_err_and c.from_residual-in_err-end_at.result c.from_residual-in_err-end_at.ensures.1 in
    let all = c.in_ok-object_id.ensures then c.in_ok-formats.ensures then c.in_ok-arguments.ensures then c.in_ok-result_format.ensures in
    let f = trailing c.args.body.now c.in_ok-result_format.end c.in_err-end_at.field-0.0 c.in_err-end_at.ensures.trailing in
    let value : FunctionCall = record { object_id = c.in_ok-object_id.object_id; formats = c.in_ok-formats.formats; arguments = c.in_ok-arguments.arguments; result_format = c.in_ok-result_format.result_format } in
    rw (p.1, p.2) (f.0, f.1, inr (record { value = value; mid = drop c.in_ok-result_format.end c.args.body.now; reads = all.reads; breaks = f.2 }))

pub returns : goal.returns
returns c =
    let all = c.in_ok-object_id.ensures then c.in_ok-formats.ensures then c.in_ok-arguments.ensures then c.in_ok-result_format.ensures in
    whole all c.in_ok-end_at.ensures.end
