use Rattle.std.proofs.Common.{sym, ◌∙◌, arith, ap, length}
use Rattle.pg_receive.proofs.ResponseFieldsLemmas.{fields_at}
use Rattle.pg_receive.proofs.message.parts.FieldsIterator.next.Goals as goal

pub returns-clause-steps : goal.returns-clause-steps
returns-clause-steps c = sym c.self.view_is ∙ fields_at _ _ _ _ c.in_ok-letter.ensures.found

pub returns-clause-goes : goal.returns-clause-goes
returns-clause-goes c =
    let first = sym c.self.view_is ∙ fields_at _ _ _ _ c.in_ok-letter.ensures.found in
    record { on = λ _. (tt, tt, omega (arith, ap length first)); keeps = tt; rests = λ _. tt }
