use Rattle.std.proofs.Common.{◌≡◌, ℕ, ◌+◌, ◌*◌, Some, refl, arith, rules}
use Rattle.std.proofs.lemmas.Result.{err_from_is_err_and}
use Rattle.pg_format.specs.Format.Parts.{be_u32}
use Rattle.pg_format.proofs.FormatLaws.Places.{stands_at}
use Rattle.pg_format.proofs.FormatLaws.Takes.{takes_unsigned}
use Rattle.pg_c.proofs.ReadLemmas.{gives_none, gives_more, gives_full, gives_front, reads_items}
use Rattle.pg_c.proofs.read.columns.types_of.Goals as goal
use Rattle.pg_c.proofs.read.columns.types_of.Goals.{then-index-types, else-index-types}

pub loop-index-init : goal.loop-index-init
loop-index-init c = gives_none be_u32 (λ (number : ℕ). Some number) c.args.body.now 2 c.args.types.now (search rules)

pub loop-index-preserved : goal.loop-index-preserved
loop-index-preserved c =
    let body = c.args.body.now in
    let read = c.loop-index in
    let at = 2 + 4 * read.index in
    let id = c.in_ok-number.number in
    let stands = stands_at be_u32 4 (takes_unsigned 4) body at id read.invariant.read.within c.in_ok-number.ensures.found in
    let next : 2 + 4 * (read.index + 1) ≡ at + 4 = omega arith in
    rw next (elim c.if-index-types.branch [
      | then-index-types w ↦ rw w.types-is (gives_more be_u32 (λ (n : ℕ). Some n) body 2 at (at + 4) read.index c.args.types.now read.types id id read.invariant refl stands w.if-index-types.true)
      | else-index-types w ↦ rw w.types-is (gives_full be_u32 (λ (n : ℕ). Some n) body 2 at (at + 4) read.index c.args.types.now read.types id read.invariant stands (omega (arith, w.if-index-types.false)))
    ])

pub returns-clause-types : goal.returns-clause-types
returns-clause-types c =
    let body = c.args.body.now in
    let loop = c.loop-index in
    let count : c.from-count.result ≡ c.in_ok-u16_at.field-0 = c.from-count.ensures in
    let all : loop.index ≡ c.from-count.result = omega (arith, c.loop-index-test.false, loop.auto.index-end) in
    reads_items be_u32 4 (λ (number : ℕ). Some number) body c.from-count.result (2 + 4 * loop.index) loop.index c.args.types.now loop.types (rw count c.in_ok-u16_at.ensures.found) all loop.invariant

pub returns-in_err-number-clause-front : goal.returns-in_err-number-clause-front
returns-in_err-number-clause-front c =
    let loop = c.loop-index in
    rw (err_from_is_err_and c.from_residual-in_err-number.result c.from_residual-in_err-number.ensures.1).1 (gives_front be_u32 (λ (n : ℕ). Some n) c.args.body.now 2 (2 + 4 * loop.index) loop.index c.args.types.now loop.types loop.invariant)
