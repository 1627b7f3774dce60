use Rattle.std.proofs.Common.{◌≡◌, [], length, sym, ap, ◌∙◌, arith}
use Rattle.pg_server.proofs.FrontendSettingsLemmas.{is_nothing, first_named, no_name, empty_name, no_value}
use Rattle.pg_server.proofs.frontend.settings.SettingsIterator.next.Goals as goal

pub returns-in_err-name-clause-steps : goal.returns-in_err-name-clause-steps
returns-in_err-name-clause-steps c =
    let e = sym c.self.view_is ∙ no_name c.self.inside.rest.now c.in_err-name.ensures.none in
    rw c.from_residual.ensures (e, e)

pub returns-then-is_empty-clause-steps : goal.returns-then-is_empty-clause-steps
returns-then-is_empty-clause-steps c =
    let nothing : c.in_ok-name.name.now ≡ [] = is_nothing c.in_ok-name.name.now c.is_empty.result c.is_empty.ensures c.if-is_empty.true in
    let e = sym c.self.view_is ∙ empty_name c.self.inside.rest.now c.in_ok-name.after.now (rw nothing at c.in_ok-name.ensures.found) in
    (e, e)

pub returns-in_err-value-clause-steps : goal.returns-in_err-value-clause-steps
returns-in_err-value-clause-steps c =
    let e = sym c.self.view_is ∙ no_value c.self.inside.rest.now c.in_ok-name.name.now c.in_ok-name.after.now c.in_ok-name.ensures.found c.in_err-value.ensures.none in
    rw c.from_residual-in_err-value.ensures (e, e)

pub returns-clause-steps : goal.returns-clause-steps
returns-clause-steps c =
    sym c.self.view_is ∙ first_named c.self.inside.rest.now _ _ _ _ _ c.in_ok-name.ensures.found c.is_empty.ensures c.if-is_empty.false c.in_ok-value.ensures.found

pub returns-clause-goes : goal.returns-clause-goes
returns-clause-goes c =
    let first = first_named c.self.inside.rest.now _ _ _ _ _ c.in_ok-name.ensures.found c.is_empty.ensures c.if-is_empty.false c.in_ok-value.ensures.found in
    record { on = λ _. (tt, tt, omega (arith, ap length (sym c.self.view_is ∙ first))); keeps = tt; rests = λ _. tt }
