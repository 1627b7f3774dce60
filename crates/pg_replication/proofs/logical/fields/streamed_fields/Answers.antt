use Rattle.std.proofs.Common.{length, drop}
use Rattle.std.proofs.lemmas.Result.{err_from_is_err_and}
use Rattle.pg_replication.proofs.LogicalLemmas.{streamed_breaks, whole_breaks}
use Rattle.pg_replication.proofs.logical.fields.streamed_fields.Goals as goal

pub returns-in_err-transaction : goal.returns-in_err-transaction
returns-in_err-transaction g c =
    let p = err_from_is_err_and c.from_residual.result c.from_residual.ensures.1 in
    let body = c.args.message.now in
    rw (p.1, p.2) (streamed_breaks g.F.Item.format (length body) (drop c.args.at body) c.in_err-transaction.field-0.0 c.args.streamed c.if-streamed.true c.in_err-transaction.ensures)

pub returns-in_err-fields_from : goal.returns-in_err-fields_from
returns-in_err-fields_from g c =
    let p = err_from_is_err_and c.from_residual-in_err-fields_from.result c.from_residual-in_err-fields_from.ensures.1 in
    let body = c.args.message.now in
    rw (p.1, p.2) (whole_breaks g.F.Item.format (length body) (drop c.args.at body) c.in_err-fields_from.field-0.0 c.args.streamed c.if-streamed.false c.in_err-fields_from.ensures)
