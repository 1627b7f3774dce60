use Rattle.std.proofs.Common.{◌≡◌, arith}
use Rattle.std.proofs.lemmas.Result.{err_from_is_err_and}
use Rattle.pg_c.proofs.ReadLemmas.{gives_more, gives_full}
use Rattle.pg_c.proofs.LogicalListsLemmas.{one_is_broken}
use Rattle.pg_c.proofs.replication.logical.lists.give_rest.Goals as goal
use Rattle.pg_c.proofs.replication.logical.lists.give_rest.Goals.{then-index-to, else-index-to}

pub loop-index-init : goal.loop-index-init
loop-index-init g c = (c.requires.start, λ before front. front)

pub loop-index-preserved : goal.loop-index-preserved
loop-index-preserved g c =
    let content = c.args.bytes.now in
    let first = c.args.list.at in
    let loop = c.loop-index in
    let end = c.in_ok-place.end in
    let place = c.in_ok-place.place in
    let found = c.in_ok-place.ensures.place in
    let item_in = g.P.Place.item_in content in (
      found.read.within,
      λ before front.
          let gives = loop.invariant.1 before front in
          elim c.if-index-to.branch [
            | then-index-to w ↦ rw w.to-is
                (gives_more g.P.Place.format item_in content first loop.start end loop.index before loop.to place found.item gives found.is found.read w.if-index-to.true)
            | else-index-to w ↦ rw w.to-is (gives_full g.P.Place.format item_in content first loop.start end loop.index before loop.to found.item gives found.read (omega (arith, w.if-index-to.false)))
          ],
    )

pub returns-in_err-place-clause-fault : goal.returns-in_err-place-clause-fault
returns-in_err-place-clause-fault g c =
    let p = err_from_is_err_and c.from_residual.result c.from_residual.ensures.1 in
    let loop = c.loop-index in
    rw (p.1, p.2) (λ before front.
    one_is_broken g.P.Place.format (g.P.Place.item_in c.args.bytes.now) c.args.bytes.now c.args.list loop.start loop.index before loop.to c.in_err-place.field-0.0 (loop.invariant.1 before front) (omega (arith, c.loop-index-test.true)) c.in_err-place.ensures.broken)

pub returns-in_err-place-clause-some : goal.returns-in_err-place-clause-some
returns-in_err-place-clause-some g c =
    let loop = c.loop-index in
    rw (err_from_is_err_and c.from_residual.result c.from_residual.ensures.1).1 (λ before front.
    record { index = loop.index; end = loop.start; few = omega (arith, c.loop-index-test.true); gives = loop.invariant.1 before front })

pub returns-clause-items : goal.returns-clause-items
returns-clause-items g c = λ before front.
    let loop = c.loop-index in
    let all : loop.index ≡ c.args.list.count = omega (arith, c.loop-index-test.false, loop.auto.index-end, c.requires.few) in
    rw (← all) (loop.invariant.1 before front)
