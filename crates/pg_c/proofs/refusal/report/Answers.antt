use Rattle.std.proofs.Common.{rules}
use Rattle.std.specs.Int.{w32}
use Rattle.std.proofs.lemmas.Int.{to_z-of_z}
use mir.Val.{SFits}
use Rattle.pg_base.specs.Error.{error_words}
use Rattle.pg_c.proofs.RefusalLemmas.{error_below}
use Rattle.pg_c.proofs.refusal.report.Goals as goal

pub returns-clause-report : goal.returns-clause-report
returns-clause-report c =
    let number_fits : SFits w32 c.number_of.result = search rules in
    let result_fits : SFits w32 c.fill.result = search rules in
    let filled = c.fill.ensures (error_words c.args.error) c.to_string-words.ensures.ok in
    rw (to_z-of_z w32 c.fill.result result_fits) (rw (to_z-of_z w32 c.number_of.result number_fits, c.number_of.ensures, c.offset_of.ensures) at filled)

pub returns-clause-below : goal.returns-clause-below
returns-clause-below c =
    let number_fits : SFits w32 c.number_of.result = search rules in
    let result_fits : SFits w32 c.fill.result = search rules in
    let filled = c.fill.ensures (error_words c.args.error) c.to_string-words.ensures.ok in
    rw (to_z-of_z w32 c.fill.result result_fits, filled.returned, to_z-of_z w32 c.number_of.result number_fits, c.number_of.ensures) (error_below c.args.error)
