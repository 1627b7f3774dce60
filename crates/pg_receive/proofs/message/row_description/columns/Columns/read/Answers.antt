use Rattle.std.proofs.Common.{drop, map}
use Rattle.std.proofs.lemmas.Result.{err_from_is_err_and}
use Rattle.pg_format.specs.Messages.{column}
use Rattle.pg_format.proofs.ItemsLemmas.{all_meant, fault_read}
use Rattle.pg_receive.specs.RowDescription.Columns.{column_of_ref}
use Rattle.pg_receive.proofs.RowDescriptionColumnsLemmas.{columns_are_left}
use Rattle.pg_receive.proofs.message.row_description.columns.Columns.read.Goals as goal

pub returns-in_err-read_all : goal.returns-in_err-read_all
returns-in_err-read_all c =
    let p = err_from_is_err_and c.from_residual-in_err-read_all.result c.from_residual-in_err-read_all.ensures.1 in
    rw (p.1, p.2) (fault_read column 19 c.args.body.now c.in_ok-columns.columns c.in_err-read_all.field-0.0 c.in_ok-columns.ensures.begun c.in_err-read_all.ensures.all)

pub invariant_of-result : goal.invariant_of-result
invariant_of-result c =
    let reading = c.in_ok-columns.columns in
    let all = c.in_ok-read_all.ensures.all in
    let left = columns_are_left reading (map column_of_ref all.items) c.in_ok-read_all.field-0 all.read in
    (drop c.in_ok-read_all.field-0 reading.body, rw left all.read.reads.1)

pub returns : goal.returns
returns c =
    let reading = c.in_ok-columns.columns in
    let all = c.in_ok-read_all.ensures.all in
    let left = columns_are_left reading (map column_of_ref all.items) c.in_ok-read_all.field-0 all.read in
    rw left (all_meant column 19 c.args.body.now reading (map column_of_ref all.items) c.in_ok-read_all.field-0 c.in_ok-columns.ensures.begun all.read)
