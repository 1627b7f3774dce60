use Rattle.std.proofs.Common.{◌<◌, ◌++◌, length, ap, ◌∙◌, arith}
use Rattle.pg_base.specs.Numbers.{be16}
use Rattle.pg_send.proofs.CountedLemmas.{one_more, room_for_one, all_more}
use Rattle.pg_send.proofs.message.counted.put_codes.Goals as goal

pub put_u16-requires-in-loop-code : goal.put_u16-requires-in-loop-code
put_u16-requires-in-loop-code g c =
    let codes = c.args.codes.now in
    let room = room_for_one be16 g.C.Code.code codes c.loop-code.code-index c.code-item.result c.loop-code-test.true (g.S.Sink.written c.args.sink.now) (be16 (length codes)) _ (g.S.Sink.capacity c.args.sink.now) c.loop-code.invariant.adds (omega (arith, c.requires.room)) in
    omega (arith, room, c.loop-code.invariant.capacity)

pub loop-code-preserved : goal.loop-code-preserved
loop-code-preserved g c =
    let codes = c.args.codes.now in
    let code = g.C.Code.code in
    let i = c.loop-code.code-index in
    let d = c.code-item.result in
    let is = ap code c.code-item.is in
    let mid = g.S.Sink.written c.loop-code.sink in
    record {
      adds = one_more be16 code codes i d c.loop-code-test.true (g.S.Sink.written c.args.sink.now) (be16 (length codes)) mid _ c.loop-code.invariant.adds (c.put_u16-in-loop-code.ensures.written ∙ ap (λ n. mid ++ be16 n) (c.code.ensures.code ∙ is));
      capacity = omega (arith, c.put_u16-in-loop-code.ensures.capacity, c.loop-code.invariant.capacity);
      loan = c.put_u16-in-loop-code.ensures.loan ∙ c.loop-code.invariant.loan;
      range = all_more be16 code codes i d c.loop-code-test.true (λ n. n < g.C.Code.limit) c.loop-code.invariant.range (omega (arith, c.code.ensures.small, is));
    }
