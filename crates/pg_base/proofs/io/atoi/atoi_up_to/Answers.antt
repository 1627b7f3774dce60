use Rattle.std.proofs.Common.{◌≡◌, ◌∷◌, ◌∙◌, ap, arith, ℕ}
use Rattle.pg_base.proofs.AtoiLemmas.{atoi_of_plus, atoi_of_minus, atoi_of_no_sign}
use Rattle.pg_base.proofs.io.atoi.atoi_up_to.Goals as goal

pub returns-in-43 : goal.returns-in-43
returns-in-43 c =
    let after = c.in_ok-first.after.now in
    let parts : c.args.bytes.now ≡ c.in_ok-first.first.now ∷ after = c.in_ok-first.ensures.cases.0 in
    let plus : c.args.bytes.now ≡ 43 ∷ after = parts ∙ ap (λ (b : ℕ). b ∷ after) c.in-43.is in
    rw plus (atoi_of_plus c.args.top after c.digits_up_to.result c.digits_up_to.ensures)

pub returns-in-45 : goal.returns-in-45
returns-in-45 c =
    let after = c.in_ok-first.after.now in
    let parts : c.args.bytes.now ≡ c.in_ok-first.first.now ∷ after = c.in_ok-first.ensures.cases.0 in
    let minus : c.args.bytes.now ≡ 45 ∷ after = parts ∙ ap (λ (b : ℕ). b ∷ after) c.in-45.is in
    rw minus (atoi_of_minus c.args.top after c.digits_up_to-in-45.result c.digits_up_to-in-45.ensures)

pub returns-in_default : goal.returns-in_default
returns-in_default c =
    let first = c.in_ok-first.first.now in
    let after = c.in_ok-first.after.now in
    let parts : c.args.bytes.now ≡ first ∷ after = c.in_ok-first.ensures.cases.0 in
    rw parts (atoi_of_no_sign c.args.top first after c.digits_up_to-in_default.result (λ e. absurd (omega arith)) (λ e. absurd (omega arith)) (rw parts at c.digits_up_to-in_default.ensures))
