use Rattle.std.proofs.Common.{◌≡◌, [], drop, refl, inl, inr, arith}
use Rattle.std.proofs.lemmas.List.{drop_all}
use Rattle.std.proofs.lemmas.Result.{err_from_is_err_and}
use Rattle.pg_format.specs.Messages.{Parse}
use Rattle.pg_server.proofs.FrontendMessageLemmas.{after, ◌then◌, trailing}
use Rattle.pg_c.proofs.client.parse.parse_of.Goals as goal

pub returns-in_err-types-clause-fault : goal.returns-in_err-types-clause-fault
returns-in_err-types-clause-fault c =
    let p = err_from_is_err_and c.from_residual-in_err-types.result c.from_residual-in_err-types.ensures.1 in
    let f = c.in_err-types.ensures.fault in
    rw (p.1, p.2) (f.0, f.1, inl (inr (after c.in_ok-statement.ensures.found.read (inr (after c.in_ok-query.ensures.found.read f.2)))))

pub returns-in_err-end_at-clause-fault : goal.returns-in_err-end_at-clause-fault
returns-in_err-end_at-clause-fault c =
    let p = err_from_is_err_and c.from_residual-in_err-end_at.result c.from_residual-in_err-end_at.ensures.1 in
    let statement = c.in_ok-statement.ensures.found in
    let query = c.in_ok-query.ensures.found in
    let types = c.in_ok-types.ensures.found in
    let all = statement.read then query.read then types.read in
    let f = trailing c.args.body.now c.in_ok-types.end c.in_err-end_at.field-0.0 c.in_err-end_at.ensures.trailing in
    let message : Parse = record { statement = statement.value; query = query.value; types = types.value } in
    rw (p.1, p.2) (f.0, f.1, inr (record { value = message; mid = drop c.in_ok-types.end c.args.body.now; reads = all.reads; breaks = f.2 }))

pub returns-clause-parse : goal.returns-clause-parse
returns-clause-parse c =
    let body = c.args.body.now in
    let statement = c.in_ok-statement.ensures.found in
    let query = c.in_ok-query.ensures.found in
    let types = c.in_ok-types.ensures.found in
    let all = statement.read then query.read then types.read in
    let none : drop c.in_ok-types.end body ≡ [] = drop_all c.in_ok-types.end body (omega (arith, c.in_ok-end_at.ensures.end)) in
    let message : Parse = record { statement = statement.value; query = query.value; types = types.value } in
    record { value = message; means = (rw none at all.reads, refl); statement = statement.is; query = query.is; types = types.is }
