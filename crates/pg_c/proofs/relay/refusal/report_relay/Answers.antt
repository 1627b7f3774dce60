use Rattle.std.proofs.Common.{◌<ℤ◌, pos, arith, rules}
use Rattle.std.proofs.lemmas.Int.{ints, to_z-of_z}
use Rattle.std.specs.Int.{w32}
use Rattle.pg_frames.specs.declared.relay.error.RelayError.{RelayError}
use Rattle.pg_frames.specs.declared.relay.error.RelayError.TheVariants.{BadLength, TooLong, NotFrames, OutOfMemory}
use Rattle.pg_c.specs.Relay.Refusal.{relay_number}
use mir.Val.{SFits}
use Rattle.pg_frames.specs.Relay.Error.{error_words}
use Rattle.pg_c.proofs.relay.refusal.report_relay.Goals as goal

-- Each number of a relay's refusal is below 0.
relay_below : (error : RelayError) → relay_number error <ℤ pos 0
relay_below (BadLength length) = omega (arith, ints)
relay_below (TooLong length limit) = omega (arith, ints)
relay_below NotFrames = omega (arith, ints)
relay_below OutOfMemory = omega (arith, ints)

pub returns-clause-report : goal.returns-clause-report
returns-clause-report c =
    let number_fits : SFits w32 c.number_of.result = search rules in
    let result_fits : SFits w32 c.fill.result = search rules in
    let filled = c.fill.ensures (error_words c.args.why) c.to_string-words.ensures.ok in
    rw (to_z-of_z w32 c.fill.result result_fits) (rw (to_z-of_z w32 c.number_of.result number_fits, c.number_of.ensures) at filled)

pub returns-clause-below : goal.returns-clause-below
returns-clause-below c =
    let number_fits : SFits w32 c.number_of.result = search rules in
    let result_fits : SFits w32 c.fill.result = search rules in
    let filled = c.fill.ensures (error_words c.args.why) c.to_string-words.ensures.ok in
    rw (to_z-of_z w32 c.fill.result result_fits, filled.returned, to_z-of_z w32 c.number_of.result number_fits, c.number_of.ensures) (relay_below c.args.why)
