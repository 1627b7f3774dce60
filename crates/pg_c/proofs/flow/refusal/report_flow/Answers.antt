use Rattle.std.proofs.Common.{◌<ℤ◌, pos, arith, rules}
use Rattle.std.proofs.lemmas.Int.{ints, to_z-of_z}
use Rattle.std.specs.Int.{w32}
use Rattle.pg_flow.specs.Fault.{fault_words}
use Rattle.pg_flow.specs.declared.fault.Fault.{Fault}
use Rattle.pg_flow.specs.declared.fault.Fault.TheVariants as faults
use Rattle.pg_c.specs.Flow.Refusal.{flow_number}
use mir.Val.{SFits}
use Rattle.pg_c.proofs.flow.refusal.report_flow.Goals as goal

-- Each number of a flow's refusal is below 0.
flow_below : (fault : Fault) → flow_number fault <ℤ pos 0
flow_below faults.Unknown = omega (arith, ints)
flow_below _ = omega (arith, ints)

pub returns-clause-report : goal.returns-clause-report
returns-clause-report c =
    let number_fits : SFits w32 c.number_of.result = search rules in
    let result_fits : SFits w32 c.fill.result = search rules in
    let filled = c.fill.ensures (fault_words c.args.why) c.to_string-words.ensures.ok in
    rw (to_z-of_z w32 c.fill.result result_fits) (rw (to_z-of_z w32 c.number_of.result number_fits, c.number_of.ensures) at filled)

pub returns-clause-below : goal.returns-clause-below
returns-clause-below c =
    let number_fits : SFits w32 c.number_of.result = search rules in
    let result_fits : SFits w32 c.fill.result = search rules in
    let filled = c.fill.ensures (fault_words c.args.why) c.to_string-words.ensures.ok in
    rw (to_z-of_z w32 c.fill.result result_fits, filled.returned, to_z-of_z w32 c.number_of.result number_fits, c.number_of.ensures) (flow_below c.args.why)
