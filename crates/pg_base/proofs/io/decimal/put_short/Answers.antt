use Rattle.std.proofs.Common.{arith}
use Rattle.std.proofs.lemmas.Fmt.{decimal_digit}
use Rattle.itoa.proofs.Decimal.{length_one, length_two, decimal_two}
use Rattle.pg_base.proofs.io.decimal.put_short.Goals as goal

pub put_u8-requires : goal.put_u8-requires
put_u8-requires g c = omega (arith, c.requires.room, length_one c.args.number c.if-number-lt10.true)

pub put_pair-requires-clause-room : goal.put_pair-requires-clause-room
put_pair-requires-clause-room g c = omega (arith, c.requires.room, length_two c.args.number (omega (arith, c.if-number-lt10.false)) c.requires.number)

pub returns-then-number-lt10-clause-written : goal.returns-then-number-lt10-clause-written
returns-then-number-lt10-clause-written g c = rw (decimal_digit c.args.number c.if-number-lt10.true) c.put_u8.ensures.written

pub returns-else-number-lt10-clause-written : goal.returns-else-number-lt10-clause-written
returns-else-number-lt10-clause-written g c = rw (decimal_two c.args.number (omega (arith, c.if-number-lt10.false)) c.requires.number) c.put_pair.ensures.written
