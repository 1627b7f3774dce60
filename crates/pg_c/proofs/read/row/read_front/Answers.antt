use Rattle.std.proofs.Common.{◌≡◌, ◌<◌, Some, length, arith, rules}
use Rattle.std.specs.Int.{w32}
use Rattle.std.proofs.lemmas.Int.{to_z-of_z}
use mir.Val.{SFits}
use Rattle.pg_format.specs.Format.Nullable.{cell}
use Rattle.pg_c.specs.Read.Row.{cell_in}
use Rattle.pg_c.proofs.ReadLemmas.{gives_none, gives_more}
use Rattle.pg_c.proofs.read.row.read_front.Goals as goal

pub loop-index-init : goal.loop-index-init
loop-index-init c =
    let body = c.args.body.now in
    (omega (arith, c.requires.fits), omega (arith, c.requires.fits), gives_none cell (cell_in body) body 2 c.args.cells.now (omega (arith, c.requires.fits)))

pub loop-index-preserved : goal.loop-index-preserved
loop-index-preserved c =
    let body = c.args.body.now in
    let row = c.loop-index in
    let front = row.invariant.2 in
    let found = c.in-Some.ensures.cell in
    let room : row.index < length row.cells = omega (arith, c.loop-index-test.true, c.min-room.ensures, front.given.room) in
    let in_range : SFits w32 c.in-Some.len = search rules in
    let is : cell_in body c.placed.result ≡ Some found.value = rw (c.placed.ensures.at, c.placed.ensures.len, to_z-of_z w32 c.in-Some.len in_range) found.is in (
      c.in-Some.ensures.within,
      omega (arith, row.invariant.1),
      gives_more cell (cell_in body) body 2 row.at c.in-Some.end row.index c.args.cells.now row.cells c.placed.result found.value front is found.read room,
    )
