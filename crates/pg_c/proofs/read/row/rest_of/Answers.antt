use Rattle.std.proofs.Common.{◌≡◌, option_copied, arith, rules}
use Rattle.std.proofs.lemmas.Result.{err_from_is_err_and}
use Rattle.pg_format.specs.Format.Nullable.{cell}
use Rattle.pg_c.specs.Read.Row.{cell_in}
use Rattle.pg_receive.proofs.DataRowLemmas.{cell_is_wide}
use Rattle.pg_c.proofs.ReadLemmas.{gives_more, gives_full, gives_front, item_breaks, reads_items}
use Rattle.pg_c.proofs.read.row.rest_of.Goals as goal
use Rattle.pg_c.proofs.read.row.rest_of.Goals.{then-index-cells, else-index-cells}

pub loop-index-init : goal.loop-index-init
loop-index-init c = search rules

pub loop-index-preserved : goal.loop-index-preserved
loop-index-preserved c =
    let body = c.args.body.now in
    let row = c.loop-index in
    let end = c.in_ok-cell.end in
    let value = option_copied c.in_ok-cell.cell in
    let read = c.in_ok-cell.ensures.cell in (
      read.within,
      λ before front.
          let gives = row.invariant.1 before front in
          elim c.if-index-cells.branch [
            | then-index-cells w ↦ rw w.cells-is
                (gives_more cell (cell_in body) body 2 row.at end row.index before row.cells (w.place_of_cell.result) value gives (w.place_of_cell.ensures body read) read w.if-index-cells.true)
            | else-index-cells w ↦ rw w.cells-is
                (gives_full cell (cell_in body) body 2 row.at end row.index before row.cells value gives read (omega (arith, w.if-index-cells.false)))
          ],
    )

pub returns-in_err-cell-clause-fault : goal.returns-in_err-cell-clause-fault
returns-in_err-cell-clause-fault c =
    let p = err_from_is_err_and c.from_residual.result c.from_residual.ensures.1 in
    let body = c.args.body.now in
    let loop = c.loop-index in
    rw (p.1, p.2) (λ before front.
    item_breaks cell 4 (cell_in body) body c.args.count loop.at loop.index before loop.cells c.in_err-cell.field-0.0 c.requires.short c.requires.counted c.requires.fits c.loop-index-test.true (loop.invariant.1 before front) c.in_err-cell.ensures.broken)

pub returns-clause-row : goal.returns-clause-row
returns-clause-row c = λ before front.
    let body = c.args.body.now in
    let loop = c.loop-index in
    let all : loop.index ≡ c.args.count = omega (arith, c.loop-index-test.false, loop.auto.index-end) in
    reads_items cell 4 (cell_in body) body c.args.count loop.at loop.index before loop.cells c.requires.counted all (loop.invariant.1 before front)

pub place_of_cell-requires-clause-wide : goal.place_of_cell-requires-clause-wide
place_of_cell-requires-clause-wide c = cell_is_wide c.args.body.now c.loop-index.at c.in_ok-cell.end (option_copied c.in_ok-cell.cell) c.in_ok-cell.ensures.cell

pub returns-in_err-cell-clause-front : goal.returns-in_err-cell-clause-front
returns-in_err-cell-clause-front c =
    let loop = c.loop-index in
    rw (err_from_is_err_and c.from_residual.result c.from_residual.ensures.1).1 (λ before front. gives_front cell (cell_in c.args.body.now) c.args.body.now 2 loop.at loop.index before loop.cells (loop.invariant.1 before front))
