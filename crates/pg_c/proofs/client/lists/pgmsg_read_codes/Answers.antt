use Rattle.std.proofs.Common.{◌≡◌, ℕ, ◌+◌, ◌-◌, ◌*◌, ◌≤◌, Some, length, take, drop, refl, arith, ◌∙◌}
use Rattle.pg_base.specs.Numbers.{num}
use Rattle.pg_base.proofs.NumbersLemmas.{number_2, number_at, wide_enough}
use Rattle.pg_format.specs.Format.Parts.{be_u16}
use Rattle.pg_format.proofs.FormatLaws.Places.{stands_at}
use Rattle.pg_format.proofs.FormatLaws.Takes.{takes_unsigned}
use Rattle.pg_c.proofs.ReadLemmas.{gives_more, gives_full}
use Rattle.pg_c.proofs.client.lists.pgmsg_read_codes.Goals as goal
use Rattle.pg_c.proofs.client.lists.pgmsg_read_codes.Goals.{then-index-codes, else-index-codes}

pub loop-index-preserved : goal.loop-index-preserved
loop-index-preserved c =
    let body = c.args.body.now in
    let first = c.args.list.at in
    let read = c.loop-index in
    let at = first + 2 * read.index in
    let n = c.read_u16-code.result in
    let fits : at + 2 ≤ length body = omega (arith, c.in-Some.ensures.inside, c.loop-index-test.true) in
    let count : at + 2 - at ≡ 2 = omega arith in
    let is : n ≡ num (take 2 (drop at body)) = rw count at c.read_u16-code.ensures ∙ number_2 (take 2 (drop at body)) (wide_enough body at 2 fits) in
    let stands = stands_at be_u16 2 (takes_unsigned 2) body at n (omega (arith, fits)) (number_at body at 2 n fits is) in
    let next : first + 2 * (read.index + 1) ≡ at + 2 = omega arith in
    rw next (elim c.if-index-codes.branch [
      | then-index-codes w ↦ rw w.codes-is (gives_more be_u16 (λ (m : ℕ). Some m) body first at (at + 2) read.index c.args.codes.now read.codes n n read.invariant refl stands w.if-index-codes.true)
      | else-index-codes w ↦ rw w.codes-is (gives_full be_u16 (λ (m : ℕ). Some m) body first at (at + 2) read.index c.args.codes.now read.codes n read.invariant stands (omega (arith, w.if-index-codes.false)))
    ])
