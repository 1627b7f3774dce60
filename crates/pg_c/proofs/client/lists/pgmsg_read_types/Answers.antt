use Rattle.std.proofs.Common.{◌≡◌, ℕ, ◌+◌, ◌-◌, ◌*◌, ◌≤◌, Some, length, take, drop, refl, arith, ◌∙◌}
use Rattle.pg_base.specs.Numbers.{num}
use Rattle.pg_base.proofs.NumbersLemmas.{number_4, number_at, wide_enough}
use Rattle.pg_format.specs.Format.Parts.{be_u32}
use Rattle.pg_format.proofs.FormatLaws.Places.{stands_at}
use Rattle.pg_format.proofs.FormatLaws.Takes.{takes_unsigned}
use Rattle.pg_c.proofs.ReadLemmas.{gives_more, gives_full}
use Rattle.pg_c.proofs.client.lists.pgmsg_read_types.Goals as goal
use Rattle.pg_c.proofs.client.lists.pgmsg_read_types.Goals.{then-index-types, else-index-types}

pub loop-index-preserved : goal.loop-index-preserved
loop-index-preserved c =
    let body = c.args.body.now in
    let first = c.args.list.at in
    let read = c.loop-index in
    let at = first + 4 * read.index in
    let n = c.read_u32-number.result in
    let fits : at + 4 ≤ length body = omega (arith, c.in-Some.ensures.inside, c.loop-index-test.true) in
    let count : at + 4 - at ≡ 4 = omega arith in
    let is : n ≡ num (take 4 (drop at body)) = rw count at c.read_u32-number.ensures ∙ number_4 (take 4 (drop at body)) (wide_enough body at 4 fits) in
    let stands = stands_at be_u32 4 (takes_unsigned 4) body at n (omega (arith, fits)) (number_at body at 4 n fits is) in
    let next : first + 4 * (read.index + 1) ≡ at + 4 = omega arith in
    rw next (elim c.if-index-types.branch [
      | then-index-types w ↦ rw w.types-is (gives_more be_u32 (λ (m : ℕ). Some m) body first at (at + 4) read.index c.args.types.now read.types n n read.invariant refl stands w.if-index-types.true)
      | else-index-types w ↦ rw w.types-is (gives_full be_u32 (λ (m : ℕ). Some m) body first at (at + 4) read.index c.args.types.now read.types n read.invariant stands (omega (arith, w.if-index-types.false)))
    ])
