use Rattle.std.proofs.Common.{◌^◌, ◌<◌, ◌++◌, length, ap, ◌∙◌, arith}
use Rattle.pg_base.specs.Numbers.{be16, be32}
use Rattle.pg_send.proofs.CountedLemmas.{one_more, room_for_one, all_more}
use Rattle.pg_send.proofs.message.counted.TypesPart.put.Goals as goal

pub put_u32-requires : goal.put_u32-requires
put_u32-requires g c =
    let types = c.args.self.now.0.now in
    let room = room_for_one be32 g.T.TypeNumber.number types c.loop-number.number-index c.number-item.result c.loop-number-test.true (g.S.Sink.written c.args.sink.now) (be16 (length types)) _ (g.S.Sink.capacity c.args.sink.now) c.loop-number.invariant.adds (omega (arith, c.requires.room)) in
    omega (arith, room, c.loop-number.invariant.capacity)

pub loop-number-preserved : goal.loop-number-preserved
loop-number-preserved g c =
    let types = c.args.self.now.0.now in
    let number = g.T.TypeNumber.number in
    let i = c.loop-number.number-index in
    let d = c.number-item.result in
    let is = c.number.ensures ∙ ap number c.number-item.is in
    let mid = g.S.Sink.written c.loop-number.sink in
    record {
      adds = one_more be32 number types i d c.loop-number-test.true (g.S.Sink.written c.args.sink.now) (be16 (length types)) mid _ c.loop-number.invariant.adds (c.put_u32.ensures.written ∙ ap (λ n. mid ++ be32 n) is);
      capacity = omega (arith, c.put_u32.ensures.capacity, c.loop-number.invariant.capacity);
      loan = c.put_u32.ensures.loan ∙ c.loop-number.invariant.loan;
      range = all_more be32 number types i d c.loop-number-test.true (λ n. n < 2 ^ 32) c.loop-number.invariant.range (omega (arith, c.put_u32.ensures.range, is));
    }
