use Rattle.pg_c.proofs.LogicalGivenLemmas.{row_there}
use Rattle.pg_c.proofs.LogicalListsLemmas.{row_never_breaks}
use Rattle.pg_c.proofs.replication.logical.read.read_other.Goals as goal

pub given-change-requires-clause-read : goal.given-change-requires-clause-read
given-change-requires-clause-read c = (c.args.streamed.now, c.in_ok-read.ensures.read.1)

pub returns-in_err-read_list-clause-fault : goal.returns-in_err-read_list-clause-fault
returns-in_err-read_list-clause-fault c =
    let given = c.given-change.result in
    let row = row_there c.args.content.now c.in_ok-read.read given c.given-change.ensures in
    absurd (row_never_breaks c.args.content.now given.new_row row.items c.in_err-read_list.field-0.0 c.in_ok-read.ensures.read.0 row.stand c.in_err-read_list.ensures.fault)

pub returns-in_err-read_list-clause-front : goal.returns-in_err-read_list-clause-front
returns-in_err-read_list-clause-front c =
    let given = c.given-change.result in
    let row = row_there c.args.content.now c.in_ok-read.read given c.given-change.ensures in
    absurd (row_never_breaks c.args.content.now given.new_row row.items c.in_err-read_list.field-0.0 c.in_ok-read.ensures.read.0 row.stand c.in_err-read_list.ensures.fault)
