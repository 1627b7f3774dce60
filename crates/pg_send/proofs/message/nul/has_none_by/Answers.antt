use Rattle.std.proofs.Common.{◌+◌, ltb, sym, subst, arith, w8}
use lib.Lanes.{chunk, sel_l}
use Rattle.std.proofs.lemmas.Simd.{tops_compared}
use Rattle.pg_send.proofs.NulLemmas.{IsLeast, first_least, next_least, all_seen}
use Rattle.pg_send.proofs.message.nul.has_none_by.Goals as goal

pub loop-at-init : goal.loop-at-init
loop-at-init g c = first_least c.args.bytes.now g.row.N c.requires.room

pub loop-at-preserved : goal.loop-at-preserved
loop-at-preserved g c =
    let bytes = c.args.bytes.now in
    let lanes = c.loop-at.least in
    let more = chunk c.loop-at.at g.row.N bytes in
    subst (λ choice. IsLeast bytes (sel_l choice lanes more) (c.loop-at.at + g.row.N)) (sym (tops_compared w8 ltb lanes more))
    (next_least bytes lanes c.loop-at.at g.row.N c.loop-at.invariant c.loop-at.auto.least.0 (omega (arith, c.loop-at-test.true, c.requires.room)))

pub returns : goal.returns
returns g c =
    all_seen c.args.bytes.now c.loop-at.least c.loop-at.at g.row.N c.loop-at.invariant c.loop-at.auto.least.0 c.requires.lanes.1 (omega (arith, c.loop-at-test.false))
