use Rattle.std.proofs.Common.{arith}
use Rattle.std.proofs.Common.{[], refl}
use Rattle.pg_receive.specs.Response.Fields.{fields_in}
use Rattle.pg_c.specs.Read.Fields.{field_in}
use Rattle.pg_c.proofs.ReadListsLemmas.{none_yet}
use Rattle.pg_c.proofs.ReadFieldsLemmas.{one_more_field, no_more_field}
use Rattle.pg_c.proofs.read.fields.pgmsg_read_fields.Goals as goal
use Rattle.pg_c.proofs.read.fields.pgmsg_read_fields.Goals.{then-count-fields, else-count-fields}

pub loop-letter-init : goal.loop-letter-init
loop-letter-init c = none_yet fields_in (field_in c.args.body.now) c.args.body.now [] c.args.body.now 0 c.args.fields.now refl refl

pub loop-letter-preserved : goal.loop-letter-preserved
loop-letter-preserved c =
    let read = c.loop-letter in
    let next = c.in-Some in
    elim c.if-count-fields.branch [
      | then-count-fields w ↦ rw w.fields-is
          (one_more_field c.args.body.now read.rest.now read.at read.count c.args.fields.now read.fields next.letter next.value.now next.after.now read.invariant next.ensures.found w.if-count-fields.true)
      | else-count-fields w ↦ rw w.fields-is
          (no_more_field c.args.body.now read.rest.now read.at read.count c.args.fields.now read.fields next.letter next.value.now next.after.now read.invariant next.ensures.found (omega (arith, w.if-count-fields.false)))
    ]
