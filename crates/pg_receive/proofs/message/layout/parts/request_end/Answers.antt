use Rattle.std.proofs.Common.{◌≤◌, [], drop, length, sym, ◌∙◌, arith, rules}
use Rattle.std.proofs.lemmas.Result.{err_from_is_err_and}
use Rattle.pg_base.proofs.ReadingLemmas.{number_fits}
use Rattle.pg_format.proofs.FormatLaws.Places.{lacks_at}
use Rattle.pg_receive.proofs.LayoutLemmas.{after_method, fault_after_method, salt_there, nothing_there, names_end_there, names_break_there, any_there}
use Rattle.pg_receive.proofs.message.layout.parts.request_end.Goals as goal

pub returns-then-is_alone-clause-end : goal.returns-then-is_alone-clause-end
returns-then-is_alone-clause-end c =
    let body = c.args.body.now in
    let method = c.in_ok-method.method in
    let found = c.in_ok-method.ensures.found in
    after_method body method 4 [] found (omega (arith, number_fits 4 body method (drop 4 body) found)) (nothing_there body method (sym c.is_alone.ensures ∙ c.if-is_alone.true))

pub returns-in_ok-bytes_at-in-5-clause-end : goal.returns-in_ok-bytes_at-in-5-clause-end
returns-in_ok-bytes_at-in-5-clause-end c =
    let body = c.args.body.now in
    let fits : 8 ≤ length body = omega (arith, c.in_ok-bytes_at-in-5.ensures.found.0) in
    let salt = salt_there body fits in
    after_method body c.in_ok-method.method 8 salt.0 c.in_ok-method.ensures.found fits (rw c.in-5.is salt.1)

pub returns-in_err-bytes_at-in-5-clause-fault : goal.returns-in_err-bytes_at-in-5-clause-fault
returns-in_err-bytes_at-in-5-clause-fault c =
    let p = err_from_is_err_and c.from_residual-in_err-bytes_at-in-5.result c.from_residual-in_err-bytes_at-in-5.ensures.1 in
    let body = c.args.body.now in
    let method = c.in_ok-method.method in
    let found = c.in_ok-method.ensures.found in
    let fault = c.in_err-bytes_at-in-5.field-0.0 in
    let four : 4 ≤ length body = omega (arith, number_fits 4 body method (drop 4 body) found) in
    rw (p.1, p.2) (fault_after_method body method fault found (rw c.in-5.is (lacks_at body 4 4 fault four c.in_err-bytes_at-in-5.ensures.short)))

pub returns-in-10-clause-end : goal.returns-in-10-clause-end
returns-in-10-clause-end c = names_end_there c.args.body.now c.in_ok-method.method c.names_end.result c.in_ok-method.ensures.found c.in-10.is c.names_end.ensures.end

pub returns-in-10-clause-fault : goal.returns-in-10-clause-fault
returns-in-10-clause-fault c = names_break_there c.args.body.now c.in_ok-method.method c.names_end.result c.in_ok-method.ensures.found c.in-10.is c.names_end.ensures.fault

pub returns-in_default-clause-end : goal.returns-in_default-clause-end
returns-in_default-clause-end c =
    let body = c.args.body.now in
    let method = c.in_ok-method.method in
    let any = any_there body method (sym c.is_alone.ensures ∙ c.if-is_alone.false) (λ e. absurd (omega arith)) (λ e. absurd (omega arith)) in
    after_method body method (length body) any.0 c.in_ok-method.ensures.found (omega arith) any.1

pub returns-in_err-method-clause-fault : goal.returns-in_err-method-clause-fault
returns-in_err-method-clause-fault c = search rules
