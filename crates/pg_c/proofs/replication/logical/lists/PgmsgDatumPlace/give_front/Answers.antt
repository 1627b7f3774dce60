use Rattle.std.proofs.Common.{◌<◌, length, arith}
use Rattle.pg_format.specs.Logical.{datum}
use Rattle.pg_c.specs.Replication.Logical.Lists.{datum_in}
use Rattle.pg_c.proofs.ReadLemmas.{gives_none, gives_more}
use Rattle.pg_c.proofs.replication.logical.lists.PgmsgDatumPlace.give_front.Goals as goal

pub loop-index-init : goal.loop-index-init
loop-index-init c = (c.requires.within, gives_none datum (datum_in c.args.content.now) c.args.content.now c.args.list.at c.args.to.now c.requires.within)

pub loop-index-preserved : goal.loop-index-preserved
loop-index-preserved c =
    let content = c.args.content.now in
    let loop = c.loop-index in
    let found = c.in-Some.ensures.found in
    let room : loop.index < length loop.to = omega (arith, c.loop-index-test.true, c.min-room.ensures, loop.invariant.1.given.room) in
    (found.read.within, gives_more datum (datum_in content) content c.args.list.at loop.at c.in-Some.end loop.index c.args.to.now loop.to c.put_datum.new.to found.item loop.invariant.1 found.is found.read room)
