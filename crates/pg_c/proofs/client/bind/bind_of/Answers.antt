use Rattle.std.proofs.Common.{◌≡◌, [], drop, sym, ap, pos, refl, inl, inr, arith}
use Rattle.std.proofs.lemmas.List.{drop_all}
use Rattle.std.proofs.lemmas.Result.{err_from_is_err_and}
use Rattle.pg_format.specs.Messages.{Bind}
use Rattle.pg_server.proofs.FrontendMessageLemmas.{after, ◌then◌, trailing}
use Rattle.pg_c.proofs.ClientValuesLemmas.{values_stand, values_given}
use Rattle.pg_c.proofs.client.bind.bind_of.Goals as goal

pub returns-in_err-formats-clause-fault : goal.returns-in_err-formats-clause-fault
returns-in_err-formats-clause-fault c =
    let p = err_from_is_err_and c.from_residual-in_err-formats.result c.from_residual-in_err-formats.ensures.1 in
    let f = c.in_err-formats.ensures.fault in
    rw (p.1, p.2) (f.0, f.1, inl (inr (after c.in_ok-portal.ensures.found.read (inr (after c.in_ok-statement.ensures.found.read (inl f.2))))))

pub returns-in_err-list-clause-fault : goal.returns-in_err-list-clause-fault
returns-in_err-list-clause-fault c =
    let p = err_from_is_err_and c.from_residual-in_err-list.result c.from_residual-in_err-list.ensures.1 in
    let f = c.in_err-list.ensures.fault in
    rw (p.1, p.2) (f.0, f.1, inl (inr (after c.in_ok-portal.ensures.found.read (inr (after c.in_ok-statement.ensures.found.read (inr (after c.in_ok-formats.ensures.found.read (inl f.2))))))))

pub returns-in_err-list-clause-front : goal.returns-in_err-list-clause-front
returns-in_err-list-clause-front c =
    let p = err_from_is_err_and c.from_residual-in_err-list.result c.from_residual-in_err-list.ensures.1 in
    let front = c.in_ok-portal.ensures.found.read then c.in_ok-statement.ensures.found.read then c.in_ok-formats.ensures.found.read in
    rw p.1 (inr (_, c.in_ok-formats.end, front, c.in_err-list.ensures.front))

pub returns-in_err-result_formats-clause-fault : goal.returns-in_err-result_formats-clause-fault
returns-in_err-result_formats-clause-fault c =
    let p = err_from_is_err_and c.from_residual-in_err-result_formats.result c.from_residual-in_err-result_formats.ensures.1 in
    let f = c.in_err-result_formats.ensures.fault in
    let values = values_stand c.args.body.now c.in_ok-formats.end c.in_ok-list.list c.in_ok-list.end _ _ c.in_ok-list.ensures.found in
    rw (p.1, p.2) (
      f.0,
      f.1,
      inl (inr (after c.in_ok-portal.ensures.found.read (inr (after c.in_ok-statement.ensures.found.read (inr (after c.in_ok-formats.ensures.found.read (inr (after values f.2)))))))),
    )

pub returns-in_err-result_formats-clause-front : goal.returns-in_err-result_formats-clause-front
returns-in_err-result_formats-clause-front c =
    let p = err_from_is_err_and c.from_residual-in_err-result_formats.result c.from_residual-in_err-result_formats.ensures.1 in
    let front = c.in_ok-portal.ensures.found.read then c.in_ok-statement.ensures.found.read then c.in_ok-formats.ensures.found.read in
    rw p.1 (inr (_, c.in_ok-formats.end, front, values_given c.args.body.now c.in_ok-formats.end c.in_ok-list.list c.in_ok-list.end _ _ c.in_ok-list.ensures.found))

pub returns-in_err-end_at-clause-fault : goal.returns-in_err-end_at-clause-fault
returns-in_err-end_at-clause-fault c =
    let p = err_from_is_err_and c.from_residual-in_err-end_at.result c.from_residual-in_err-end_at.ensures.1 in
    let list = c.in_ok-list.ensures.found in
    let values = values_stand c.args.body.now c.in_ok-formats.end c.in_ok-list.list c.in_ok-list.end _ _ list in
    let portal = c.in_ok-portal.ensures.found in
    let statement = c.in_ok-statement.ensures.found in
    let formats = c.in_ok-formats.ensures.found in
    let result_formats = c.in_ok-result_formats.ensures.found in
    let all = portal.read then statement.read then formats.read then values then result_formats.read in
    let f = trailing c.args.body.now c.in_ok-result_formats.end c.in_err-end_at.field-0.0 c.in_err-end_at.ensures.trailing in
    let message : Bind = record { portal = portal.value; statement = statement.value; formats = formats.value; values = list.gives.items; result_formats = result_formats.value } in
    rw (p.1, p.2) (f.0, f.1, inr (record { value = message; mid = drop c.in_ok-result_formats.end c.args.body.now; reads = all.reads; breaks = f.2 }))

pub returns-in_err-end_at-clause-front : goal.returns-in_err-end_at-clause-front
returns-in_err-end_at-clause-front c =
    let p = err_from_is_err_and c.from_residual-in_err-end_at.result c.from_residual-in_err-end_at.ensures.1 in
    let front = c.in_ok-portal.ensures.found.read then c.in_ok-statement.ensures.found.read then c.in_ok-formats.ensures.found.read in
    rw p.1 (inr (_, c.in_ok-formats.end, front, values_given c.args.body.now c.in_ok-formats.end c.in_ok-list.list c.in_ok-list.end _ _ c.in_ok-list.ensures.found))

pub returns-clause-bind : goal.returns-clause-bind
returns-clause-bind c =
    let body = c.args.body.now in
    let list = c.in_ok-list.ensures.found in
    let values = values_stand body c.in_ok-formats.end c.in_ok-list.list c.in_ok-list.end _ _ list in
    let portal = c.in_ok-portal.ensures.found in
    let statement = c.in_ok-statement.ensures.found in
    let formats = c.in_ok-formats.ensures.found in
    let result_formats = c.in_ok-result_formats.ensures.found in
    let all = portal.read then statement.read then formats.read then values then result_formats.read in
    let none : drop c.in_ok-result_formats.end body ≡ [] = drop_all c.in_ok-result_formats.end body (omega (arith, c.in_ok-end_at.ensures.end)) in
    let message : Bind = record { portal = portal.value; statement = statement.value; formats = formats.value; values = list.gives.items; result_formats = result_formats.value } in
    record {
      message = message;
      means = (rw none at all.reads, refl);
      portal = portal.is;
      statement = statement.is;
      formats = formats.is;
      values = record { end = c.in_ok-list.end; read = list.gives.read };
      result_formats = result_formats.is;
      count = ap pos (sym list.gives.read.reads.0);
      given = list.gives.given;
    }
