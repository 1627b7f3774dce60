use Rattle.std.proofs.Common.{◌-◌, length, arith}
use Rattle.pg_format.proofs.AsciiLemmas.{further_low, all_low, some_low}
use Rattle.pg_format.proofs.ascii.is_ascii_by.Goals as goal

pub loop-at-preserved : goal.loop-at-preserved
loop-at-preserved g c = further_low c.args.bytes.now c.loop-at.at g.row.N c.loop-at.invariant (c.is_ascii_at.ensures.0 c.if-not-is_ascii_at.false)

pub returns : goal.returns
returns g c =
    let bytes = c.args.bytes.now in (
      (λ is. all_low bytes c.loop-at.at g.row.N c.requires.room (omega (arith, c.loop-at-test.false)) c.loop-at.invariant (c.is_ascii_at-2.ensures.0 is)),
      (λ h. c.is_ascii_at-2.ensures.1 (some_low bytes (length bytes - g.row.N) g.row.N h)),
    )
