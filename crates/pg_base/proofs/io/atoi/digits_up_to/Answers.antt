use Rattle.std.proofs.Common.{◌≡◌, ℕ, zero, suc, ◌<◌, false, eqb, sym, length, arith}
use Rattle.std.proofs.lemmas.Bool.{eqb-true}
use Rattle.pg_base.proofs.AtoiLemmas.{no_run, digits_of_run}
use Rattle.pg_base.proofs.io.atoi.digits_up_to.Goals as goal

pub returns-then-is_empty : goal.returns-then-is_empty
returns-then-is_empty c = λ n digits.
    let run = c.front_digits-digits.result.now in
    let parts = c.front_digits-digits.ensures.parts in
    absurd (no_run c.args.bytes.now run parts.0 n (eqb-true (length run) 0 (sym (c.if-is_empty.ensures))) parts.2 parts.1 digits)

some_from_false : (n : ℕ) → eqb n 0 ≡ false → 0 < n
some_from_false zero e = absurd cc
some_from_false (suc n) e = omega arith

pub returns : goal.returns
returns c =
    let run = c.front_digits-digits.result.now in
    let parts = c.front_digits-digits.ensures.parts in
    digits_of_run c.args.top c.args.bytes.now run parts.0 c.value_up_to.result (some_from_false (length run) (sym c.if-is_empty.ensures)) c.front_digits-digits.ensures.digits parts.2 parts.1 c.value_up_to.ensures
