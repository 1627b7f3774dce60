use Rattle.std.proofs.Common.{◌≡◌, [], drop, refl, inl, inr, arith}
use Rattle.std.proofs.lemmas.List.{drop_all}
use Rattle.std.proofs.lemmas.Result.{err_from_is_err_and}
use Rattle.pg_format.specs.Messages.{Execute}
use Rattle.pg_server.proofs.FrontendMessageLemmas.{after, ◌then◌, trailing}
use Rattle.pg_c.proofs.client.execute.execute_of.Goals as goal

pub returns-in_err-max_rows-clause-fault : goal.returns-in_err-max_rows-clause-fault
returns-in_err-max_rows-clause-fault c =
    let p = err_from_is_err_and c.from_residual-in_err-max_rows.result c.from_residual-in_err-max_rows.ensures.1 in
    let f = c.in_err-max_rows.ensures in
    rw (p.1, p.2) (f.0, f.1, inl (inr (after c.in_ok-portal.ensures.found.read f.2)))

pub returns-in_err-end_at-clause-fault : goal.returns-in_err-end_at-clause-fault
returns-in_err-end_at-clause-fault c =
    let p = err_from_is_err_and c.from_residual-in_err-end_at.result c.from_residual-in_err-end_at.ensures.1 in
    let portal = c.in_ok-portal.ensures.found in
    let all = portal.read then c.in_ok-max_rows.ensures in
    let f = trailing c.args.body.now c.in_ok-max_rows.end c.in_err-end_at.field-0.0 c.in_err-end_at.ensures.trailing in
    let message : Execute = record { portal = portal.value; limit = c.in_ok-max_rows.max_rows } in
    rw (p.1, p.2) (f.0, f.1, inr (record { value = message; mid = drop c.in_ok-max_rows.end c.args.body.now; reads = all.reads; breaks = f.2 }))

pub returns-clause-execute : goal.returns-clause-execute
returns-clause-execute c =
    let body = c.args.body.now in
    let portal = c.in_ok-portal.ensures.found in
    let all = portal.read then c.in_ok-max_rows.ensures in
    let none : drop c.in_ok-max_rows.end body ≡ [] = drop_all c.in_ok-max_rows.end body (omega (arith, c.in_ok-end_at.ensures.end)) in
    let message : Execute = record { portal = portal.value; limit = c.in_ok-max_rows.max_rows } in
    record { value = message; means = (rw none at all.reads, refl); portal = portal.is; max_rows = refl }
