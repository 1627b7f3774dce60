use Rattle.std.proofs.Common.{◌≡◌, suc, ◌-◌, ◌∷◌, length, drop, sym, ap, ◌∙◌, arith, option_copied}
use Rattle.pg_server.specs.Frontend.Lists.{values_in}
use Rattle.pg_server.proofs.FrontendMessageLemmas.{from_index}
use Rattle.pg_server.proofs.FrontendValuesLemmas.{first_and_others, none_is_broken}
use Rattle.pg_server.proofs.frontend.values.ValuesIterator.next.Goals as goal

pub returns-in_default-clause-steps : goal.returns-in_default-clause-steps
returns-in_default-clause-steps c =
    let values = c.self.inside in
    let more : values.left ≡ suc (values.left - 1) = omega (arith, c.if-self-eq0.false) in
    absurd (none_is_broken (values.left - 1) (length values.bytes.now) values.bytes.now c.in_default.ensures.0 (rw more at c.self.invariant) c.in_default.ensures.2)

pub invariant_of-self : goal.invariant_of-self
invariant_of-self c =
    let values = c.self.inside in
    let more : values.left ≡ suc (values.left - 1) = omega (arith, c.if-self-eq0.false) in
    rw (from_index c.in-Ok.end values.bytes.now)
    (first_and_others (values.left - 1) values.bytes.now (option_copied c.in-Ok.value) (drop c.in-Ok.end values.bytes.now) (rw more at c.self.invariant) c.in-Ok.ensures.reads).1

-- the first of the values that are left
first_is : (c : goal.After-self-4-1) → c.args.self.now ≡ option_copied c.in-Ok.value ∷ values_in (c.self.inside.left - 1) (drop c.in-Ok.end c.self.inside.bytes.now)
first_is c =
    let values = c.self.inside in
    let more : values.left ≡ suc (values.left - 1) = omega (arith, c.if-self-eq0.false) in
    sym c.self.view_is ∙ ap (λ n. values_in n values.bytes.now) more
    ∙ (first_and_others (values.left - 1) values.bytes.now (option_copied c.in-Ok.value) (drop c.in-Ok.end values.bytes.now) (rw more at c.self.invariant) c.in-Ok.ensures.reads).0

pub returns-clause-steps : goal.returns-clause-steps
returns-clause-steps c = rw (from_index c.in-Ok.end c.self.inside.bytes.now) (first_is c)

pub returns-clause-goes : goal.returns-clause-goes
returns-clause-goes c =
    rw (from_index c.in-Ok.end c.self.inside.bytes.now) (record { on = λ _. (tt, tt, omega (arith, ap length (first_is c))); keeps = tt; rests = λ _. tt })
