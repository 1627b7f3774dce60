use Rattle.std.proofs.Common.{◌≡◌, [], drop, sym, ap, pos, refl, inl, inr, arith}
use Rattle.std.proofs.lemmas.List.{drop_all}
use Rattle.std.proofs.lemmas.Result.{err_from_is_err_and}
use Rattle.pg_format.specs.Messages.{FunctionCall}
use Rattle.pg_server.proofs.FrontendMessageLemmas.{after, ◌then◌, trailing}
use Rattle.pg_c.proofs.ClientValuesLemmas.{values_stand, values_given}
use Rattle.pg_c.proofs.client.function_call.call_of.Goals as goal

pub returns-in_err-formats-clause-fault : goal.returns-in_err-formats-clause-fault
returns-in_err-formats-clause-fault c =
    let p = err_from_is_err_and c.from_residual-in_err-formats.result c.from_residual-in_err-formats.ensures.1 in
    let f = c.in_err-formats.ensures.fault in
    rw (p.1, p.2) (f.0, f.1, inl (inr (after c.in_ok-function.ensures (inl f.2))))

pub returns-in_err-list-clause-fault : goal.returns-in_err-list-clause-fault
returns-in_err-list-clause-fault c =
    let p = err_from_is_err_and c.from_residual-in_err-list.result c.from_residual-in_err-list.ensures.1 in
    let f = c.in_err-list.ensures.fault in
    rw (p.1, p.2) (f.0, f.1, inl (inr (after c.in_ok-function.ensures (inr (after c.in_ok-formats.ensures.found.read (inl f.2))))))

pub returns-in_err-list-clause-front : goal.returns-in_err-list-clause-front
returns-in_err-list-clause-front c =
    let p = err_from_is_err_and c.from_residual-in_err-list.result c.from_residual-in_err-list.ensures.1 in
    let front = c.in_ok-function.ensures then c.in_ok-formats.ensures.found.read in
    rw p.1 (inr (_, c.in_ok-formats.end, front, c.in_err-list.ensures.front))

pub returns-in_err-result_format-clause-fault : goal.returns-in_err-result_format-clause-fault
returns-in_err-result_format-clause-fault c =
    let p = err_from_is_err_and c.from_residual-in_err-result_format.result c.from_residual-in_err-result_format.ensures.1 in
    let f = c.in_err-result_format.ensures in
    let arguments = values_stand c.args.body.now c.in_ok-formats.end c.in_ok-list.list c.in_ok-list.end _ _ c.in_ok-list.ensures.found in
    rw (p.1, p.2) (f.0, f.1, inl (inr (after c.in_ok-function.ensures (inr (after c.in_ok-formats.ensures.found.read (inr (after arguments f.2)))))))

pub returns-in_err-result_format-clause-front : goal.returns-in_err-result_format-clause-front
returns-in_err-result_format-clause-front c =
    let p = err_from_is_err_and c.from_residual-in_err-result_format.result c.from_residual-in_err-result_format.ensures.1 in
    let front = c.in_ok-function.ensures then c.in_ok-formats.ensures.found.read in
    rw p.1 (inr (_, c.in_ok-formats.end, front, values_given c.args.body.now c.in_ok-formats.end c.in_ok-list.list c.in_ok-list.end _ _ c.in_ok-list.ensures.found))

pub returns-in_err-end_at-clause-fault : goal.returns-in_err-end_at-clause-fault
returns-in_err-end_at-clause-fault c =
    let p = err_from_is_err_and c.from_residual-in_err-end_at.result c.from_residual-in_err-end_at.ensures.1 in
    let list = c.in_ok-list.ensures.found in
    let arguments = values_stand c.args.body.now c.in_ok-formats.end c.in_ok-list.list c.in_ok-list.end _ _ list in
    let formats = c.in_ok-formats.ensures.found in
    let all = c.in_ok-function.ensures then formats.read then arguments then c.in_ok-result_format.ensures in
    let f = trailing c.args.body.now c.in_ok-result_format.end c.in_err-end_at.field-0.0 c.in_err-end_at.ensures.trailing in
    let message : FunctionCall = record { object_id = c.in_ok-function.function; formats = formats.value; arguments = list.gives.items; result_format = c.in_ok-result_format.result_format } in
    rw (p.1, p.2) (f.0, f.1, inr (record { value = message; mid = drop c.in_ok-result_format.end c.args.body.now; reads = all.reads; breaks = f.2 }))

pub returns-in_err-end_at-clause-front : goal.returns-in_err-end_at-clause-front
returns-in_err-end_at-clause-front c =
    let p = err_from_is_err_and c.from_residual-in_err-end_at.result c.from_residual-in_err-end_at.ensures.1 in
    let front = c.in_ok-function.ensures then c.in_ok-formats.ensures.found.read in
    rw p.1 (inr (_, c.in_ok-formats.end, front, values_given c.args.body.now c.in_ok-formats.end c.in_ok-list.list c.in_ok-list.end _ _ c.in_ok-list.ensures.found))

pub returns-clause-call : goal.returns-clause-call
returns-clause-call c =
    let body = c.args.body.now in
    let list = c.in_ok-list.ensures.found in
    let arguments = values_stand body c.in_ok-formats.end c.in_ok-list.list c.in_ok-list.end _ _ list in
    let formats = c.in_ok-formats.ensures.found in
    let all = c.in_ok-function.ensures then formats.read then arguments then c.in_ok-result_format.ensures in
    let none : drop c.in_ok-result_format.end body ≡ [] = drop_all c.in_ok-result_format.end body (omega (arith, c.in_ok-end_at.ensures.end)) in
    let message : FunctionCall = record { object_id = c.in_ok-function.function; formats = formats.value; arguments = list.gives.items; result_format = c.in_ok-result_format.result_format } in
    record {
      message = message;
      means = (rw none at all.reads, refl);
      function = refl;
      formats = formats.is;
      arguments = record { end = c.in_ok-list.end; read = list.gives.read };
      result_format = refl;
      count = ap pos (sym list.gives.read.reads.0);
      given = list.gives.given;
    }
