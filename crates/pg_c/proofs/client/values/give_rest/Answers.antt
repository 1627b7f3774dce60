use Rattle.std.proofs.Common.{◌≡◌, option_copied, arith}
use Rattle.std.proofs.lemmas.Result.{err_from_is_err_and}
use Rattle.pg_format.specs.Format.Nullable.{value}
use Rattle.pg_c.specs.Read.Row.{cell_in}
use Rattle.pg_receive.proofs.DataRowLemmas.{cell_is_wide}
use Rattle.pg_c.proofs.ClientValuesLemmas.{as_cell, one_is_broken}
use Rattle.pg_c.proofs.ReadLemmas.{gives_more, gives_full}
use Rattle.pg_c.proofs.client.values.give_rest.Goals as goal
use Rattle.pg_c.proofs.client.values.give_rest.Goals.{then-next-values, else-next-values}

pub loop-next-preserved : goal.loop-next-preserved
loop-next-preserved c =
    let body = c.args.body.now in
    let read = c.loop-next in
    let end = c.in_ok-value.end in
    let content = option_copied c.in_ok-value.value in
    let found = c.in_ok-value.ensures in (
      found.within,
      λ first before front.
          let gives = read.invariant.1 first before front in
          elim c.if-next-values.branch [
            | then-next-values w ↦ rw w.values-is
                (gives_more value (cell_in body) body first read.at end read.next before read.values w.place_of_cell.result content gives (w.place_of_cell.ensures body (as_cell body read.at end content found)) found w.if-next-values.true)
            | else-next-values w ↦ rw w.values-is
                (gives_full value (cell_in body) body first read.at end read.next before read.values content gives found (omega (arith, w.if-next-values.false)))
          ],
    )

pub place_of_cell-requires-clause-wide : goal.place_of_cell-requires-clause-wide
place_of_cell-requires-clause-wide c =
    let body = c.args.body.now in
    let found = c.in_ok-value in
    cell_is_wide body c.loop-next.at found.end (option_copied found.value) (as_cell body c.loop-next.at found.end (option_copied found.value) found.ensures)

pub returns-in_err-value-clause-fault : goal.returns-in_err-value-clause-fault
returns-in_err-value-clause-fault c =
    let p = err_from_is_err_and c.from_residual.result c.from_residual.ensures.1 in
    let read = c.loop-next in
    rw (p.1, p.2) (λ first before front.
    one_is_broken c.args.body.now first read.at read.next c.args.count before read.values c.in_err-value.field-0.0 (read.invariant.1 first before front) c.loop-next-test.true c.in_err-value.ensures)

pub returns-in_err-value-clause-front : goal.returns-in_err-value-clause-front
returns-in_err-value-clause-front c =
    let read = c.loop-next in
    rw (err_from_is_err_and c.from_residual.result c.from_residual.ensures.1).1 (λ first before front.
    record { index = read.next; end = read.at; few = omega (arith, c.loop-next-test.true); gives = read.invariant.1 first before front })

pub returns-clause-given : goal.returns-clause-given
returns-clause-given c = λ first before front.
    let read = c.loop-next in
    let all : read.next ≡ c.args.count = omega (arith, c.loop-next-test.false, read.auto.next-end, c.requires.few) in
    rw (← all) (read.invariant.1 first before front)
