use Rattle.std.proofs.Common.{◌≡◌, ◌+◌, ◌*◌, ◌<◌, ◌≤◌, length, arith, rules}
use Rattle.std.proofs.lemmas.Result.{err_from_is_err_and}
use Rattle.pg_receive.specs.RowDescription.Raw.{column_of_raw, raw_column}
use Rattle.pg_c.specs.Read.Columns.{column_in}
use Rattle.pg_c.proofs.ReadLemmas.{gives_none, gives_more, gives_full, gives_front, item_breaks, reads_items}
use Rattle.pg_c.proofs.read.columns.columns_of.Goals as goal
use Rattle.pg_c.proofs.read.columns.columns_of.Goals.{then-index-columns, else-index-columns}

pub loop-index-init : goal.loop-index-init
loop-index-init c = gives_none raw_column (column_in c.args.body.now) c.args.body.now 2 c.args.columns.now (search rules)

pub loop-index-preserved : goal.loop-index-preserved
loop-index-preserved c =
    let body = c.args.body.now in
    let loop = c.loop-index in
    let field = column_of_raw c.in_ok-column.column in
    let end = c.in_ok-column.end in
    let read = c.in_ok-column.ensures.column in
    let gives = loop.invariant in
    elim c.if-index-columns.branch [
      | then-index-columns w ↦ rw w.columns-is
          (gives_more raw_column (column_in body) body 2 loop.at end loop.index c.args.columns.now loop.columns w.place_of_column.result field gives (w.place_of_column.ensures end body read) read w.if-index-columns.true)
      | else-index-columns w ↦ rw w.columns-is
          (gives_full raw_column (column_in body) body 2 loop.at end loop.index c.args.columns.now loop.columns field gives read (omega (arith, w.if-index-columns.false)))
    ]

pub returns-in_err-column-clause-fault : goal.returns-in_err-column-clause-fault
returns-in_err-column-clause-fault c =
    let p = err_from_is_err_and c.from_residual-in_err-column.result c.from_residual-in_err-column.ensures.1 in
    let body = c.args.body.now in
    let n = c.in_ok-u16_at.field-0 in
    let loop = c.loop-index in
    let holds : 2 + 19 * n ≤ length body = omega (arith, c.from-count.ensures, c.in_ok-bytes_at.ensures.found.0) in
    let fewer : loop.index < n = omega (arith, c.from-count.ensures, c.loop-index-test.true) in
    rw (p.1, p.2)
    (item_breaks raw_column 19 (column_in body) body n loop.at loop.index c.args.columns.now loop.columns c.in_err-column.field-0.0 c.in_ok-check_body.ensures.ok c.in_ok-u16_at.ensures.found holds fewer loop.invariant c.in_err-column.ensures.broken)

pub returns-clause-columns : goal.returns-clause-columns
returns-clause-columns c =
    let body = c.args.body.now in
    let loop = c.loop-index in
    let count : c.from-count.result ≡ c.in_ok-u16_at.field-0 = c.from-count.ensures in
    let all : loop.index ≡ c.from-count.result = omega (arith, c.loop-index-test.false, loop.auto.index-end) in
    reads_items raw_column 19 (column_in body) body c.from-count.result loop.at loop.index c.args.columns.now loop.columns (rw count c.in_ok-u16_at.ensures.found) all loop.invariant

pub returns-in_err-column-clause-front : goal.returns-in_err-column-clause-front
returns-in_err-column-clause-front c =
    let loop = c.loop-index in
    rw (err_from_is_err_and c.from_residual-in_err-column.result c.from_residual-in_err-column.ensures.1).1 (gives_front raw_column (column_in c.args.body.now) c.args.body.now 2 loop.at loop.index c.args.columns.now loop.columns loop.invariant)
