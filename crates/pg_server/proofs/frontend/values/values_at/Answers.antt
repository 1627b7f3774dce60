use Rattle.std.proofs.Common.{◌≡◌, ◌<◌, ◌∷◌, [], ◌++◌, ℕ, List, Option, length, drop, refl, option_copied, inr, arith}
use Rattle.std.proofs.lemmas.Result.{err_from_is_err_and}
use Rattle.pg_format.specs.Format.Nullable.{value}
use Rattle.pg_format.proofs.FormatLaws.Places.{one_more_at, items_then_fault}
use Rattle.pg_server.specs.Frontend.Lists.{values_in}
use Rattle.pg_server.proofs.FrontendMessageLemmas.{from_index}
use Rattle.pg_server.proofs.FrontendValuesLemmas.{values_in-read}
use Rattle.pg_server.proofs.frontend.values.values_at.Goals as goal

pub returns-in_err-_value : goal.returns-in_err-_value
returns-in_err-_value c =
    let p = err_from_is_err_and c.from_residual-in_err-_value.result c.from_residual-in_err-_value.ensures.1 in
    let body = c.args.body.now in
    let count = c.in_ok-count in
    let read = c.loop-index.invariant in
    let f = c.in_err-_value.ensures in
    let fewer : length read.0 < count.count = omega (arith, read.1.reads.0, c.from-left.ensures, c.loop-index-test.true) in
    rw (p.1, p.2) (
      f.0,
      f.1,
      inr (record {
        value = count.count;
        mid = drop count.first body;
        reads = count.ensures.reads;
        breaks = items_then_fault value read.0 count.count (length body) (drop count.first body) (drop c.loop-index.end body) f.0 read.1.reads.1 f.2 fewer;
      }),
    )

pub loop-index-preserved : goal.loop-index-preserved
loop-index-preserved c =
    let read = c.loop-index.invariant in
    let item : Option (List ℕ) = option_copied c.in_ok-_value._value in
    (read.0 ++ item ∷ [], one_more_at value c.args.body.now c.loop-index._index c.in_ok-count.first c.loop-index.end c.in_ok-_value.after read.0 item read.1 c.in_ok-_value.ensures)

-- what is read is what the bytes from the first value on hold
held : (c : goal.After-bytes-1) → values_in c.from-left.result (drop c.in_ok-count.first c.args.body.now) ≡ c.loop-index.invariant.0
held c =
    let read = c.loop-index.invariant in
    let all : length read.0 ≡ c.from-left.result = omega (arith, read.1.reads.0, c.loop-index-test.false, c.loop-index.auto._index-end) in
    values_in-read c.from-left.result (drop c.in_ok-count.first c.args.body.now) read.0 (drop c.loop-index.end c.args.body.now) all read.1.reads.1

pub invariant_of-result : goal.invariant_of-result
invariant_of-result c = rw (from_index c.in_ok-count.first c.args.body.now, held c) (drop c.loop-index.end c.args.body.now, c.loop-index.invariant.1.reads.1)

pub returns : goal.returns
returns c =
    let body = c.args.body.now in
    let count = c.in_ok-count in
    let read = c.loop-index.invariant in
    let all : length read.0 ≡ count.count = omega (arith, read.1.reads.0, c.from-left.ensures, c.loop-index-test.false, c.loop-index.auto._index-end) in
    rw (from_index count.first body, held c) (record {
      within = read.1.within;
      reads = ((count.count, read.0), record { mid = drop count.first body; first = count.ensures.reads; second = (all, read.1.reads.1) }, refl);
    })
