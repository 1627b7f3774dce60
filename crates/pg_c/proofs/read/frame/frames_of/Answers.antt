use Rattle.std.proofs.Common.{arith}
use Rattle.pg_c.proofs.ReadFrameLemmas.{one_more_frame}
use Rattle.pg_c.proofs.read.frame.frames_of.Goals as goal

pub loop-count-preserved : goal.loop-count-preserved
loop-count-preserved c =
    let loop = c.loop-count in
    let place = c.placed-place.result in
    record {
      gives = one_more_frame c.args.stream.now loop.at loop.count c.args.frames.now loop.frames place loop.invariant.gives c.placed-place.ensures.stands c.placed-place.ensures.inside (omega (arith, c.loop-count-test.true, loop.invariant.gives.room));
      many = omega (arith, loop.invariant.many, c.placed-place.ensures.least);
    }
