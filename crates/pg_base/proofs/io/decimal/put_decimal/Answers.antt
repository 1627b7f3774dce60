use Rattle.std.proofs.Common.{◌/◌, ◌%◌, ◌++◌, length, decimal, ap, ◌∙◌, arith, append_assoc, length-append}
use Rattle.itoa.proofs.Decimal.{pair, length_pair, decimal_pair}
use Rattle.pg_base.proofs.io.decimal.put_decimal.Goals as goal

pub put_short-requires-then-number-lt10000-clause-room : goal.put_short-requires-then-number-lt10000-clause-room
put_short-requires-then-number-lt10000-clause-room g c =
    omega (arith, c.requires, length_pair c.args.number c.if-number-lt100.false (omega (arith, c.if-number-lt10000.true)))

pub put_pair-requires-clause-room : goal.put_pair-requires-clause-room
put_pair-requires-clause-room g c =
    let first = c.put_short-then-number-lt10000.ensures in
    omega (
      arith,
      c.requires,
      length_pair c.args.number c.if-number-lt100.false (omega (arith, c.if-number-lt10000.true)),
      ap length first.written,
      length-append (g.S.Sink.written c.args.sink.now) (decimal (c.args.number / 100)),
      first.capacity,
    )

pub returns-then-number-lt10000-clause-written : goal.returns-then-number-lt10000-clause-written
returns-then-number-lt10000-clause-written g c =
    let n = c.args.number in
    let before = g.S.Sink.written c.args.sink.now in
    let first = c.put_short-then-number-lt10000.ensures.written in
    rw (decimal_pair n c.if-number-lt100.false (omega (arith, c.if-number-lt10000.true)))
    (c.put_pair.ensures.written ∙ ap (λ l. l ++ pair (n % 100)) first ∙ append_assoc before (decimal (n / 100)) (pair (n % 100)))
