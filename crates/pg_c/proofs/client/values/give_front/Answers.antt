use Rattle.std.proofs.Common.{◌≡◌, ◌<◌, Some, length, arith, rules}
use Rattle.std.specs.Int.{w32}
use Rattle.std.proofs.lemmas.Int.{to_z-of_z}
use mir.Val.{SFits}
use Rattle.pg_format.specs.Format.Nullable.{value}
use Rattle.pg_c.specs.Read.Row.{cell_in}
use Rattle.pg_c.proofs.ReadLemmas.{gives_more}
use Rattle.pg_c.proofs.client.values.give_front.Goals as goal

pub loop-index-preserved : goal.loop-index-preserved
loop-index-preserved c =
    let body = c.args.body.now in
    let read = c.loop-index in
    let front = read.invariant.2 in
    let found = c.in-Some.ensures.value in
    let room : read.index < length read.values = omega (arith, c.loop-index-test.true, c.min-room.ensures, front.given.room) in
    let in_range : SFits w32 c.in-Some.len = search rules in
    let is : cell_in body c.placed.result ≡ Some found.value = rw (c.placed.ensures.at, c.placed.ensures.len, to_z-of_z w32 c.in-Some.len in_range) found.is in (
      c.in-Some.ensures.within,
      omega (arith, read.invariant.1),
      gives_more value (cell_in body) body c.args.first read.at c.in-Some.end read.index c.args.values.now read.values c.placed.result found.value front is found.read room,
    )
