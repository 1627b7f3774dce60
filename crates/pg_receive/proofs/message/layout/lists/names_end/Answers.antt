use Rattle.std.proofs.Common.{◌≢◌, [], rules}
use Rattle.std.proofs.lemmas.Bool.{false≢true}
use Rattle.pg_format.specs.Format.Places.{IsReadAt}
use Rattle.pg_receive.specs.Layout.{name}
use Rattle.pg_receive.proofs.LayoutLemmas.{one_passed}
use Rattle.pg_receive.proofs.message.layout.lists.names_end.Goals as goal

pub names-init : goal.names-init
names-init c = search rules

pub names-preserved : goal.names-preserved
names-preserved c =
    let text = c.in_ok-name.name.now in
    let end = c.in_ok-name.end in
    let within = c.in_ok-name.ensures.after.1 in
    let some : text ≢ [] = λ e. absurd (false≢true (rw e at c.if-is_empty.ensures)) in
    let item : IsReadAt name c.args.body.now c.names.at text end = record { within = within; reads = (c.in_ok-name.ensures.found, some) } in
    record { within = within; passed = one_passed name c.args.body.now c.args.first c.names.at end text c.names.invariant.passed item }

pub returns-in_err-name-clause-fault : goal.returns-in_err-name-clause-fault
returns-in_err-name-clause-fault c = search rules
