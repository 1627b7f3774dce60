use Rattle.std.proofs.Common.{rules}
use Rattle.std.specs.Int.{w32}
use Rattle.std.proofs.lemmas.Int.{to_z-of_z}
use mir.Val.{SFits}
use Rattle.pg_server.specs.Frontend.Error.{fault_words}
use Rattle.pg_c.proofs.RefusalLemmas.{client_below}
use Rattle.pg_c.proofs.refusal.report_client.Goals as goal

pub returns-clause-report : goal.returns-clause-report
returns-clause-report c =
    let number_fits : SFits w32 c.number_of_client.result = search rules in
    let result_fits : SFits w32 c.fill.result = search rules in
    let filled = c.fill.ensures (fault_words c.args.why) c.to_string-words.ensures.ok in
    rw (to_z-of_z w32 c.fill.result result_fits) (rw (to_z-of_z w32 c.number_of_client.result number_fits, c.number_of_client.ensures, c.offset_of_client.ensures) at filled)

pub returns-clause-below : goal.returns-clause-below
returns-clause-below c =
    let number_fits : SFits w32 c.number_of_client.result = search rules in
    let result_fits : SFits w32 c.fill.result = search rules in
    let filled = c.fill.ensures (fault_words c.args.why) c.to_string-words.ensures.ok in
    rw (to_z-of_z w32 c.fill.result result_fits, filled.returned, to_z-of_z w32 c.number_of_client.result number_fits, c.number_of_client.ensures) (client_below c.args.why)
