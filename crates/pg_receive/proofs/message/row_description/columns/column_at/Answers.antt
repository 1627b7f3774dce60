use Rattle.std.proofs.Common.{drop, inl, inr, rules}
use Rattle.std.proofs.lemmas.Result.{err_from_is_err_and}
use Rattle.pg_format.specs.Format.Tests.{utf8}
use Rattle.pg_receive.specs.RowDescription.Columns.{column_of_ref}
use Rattle.pg_format.proofs.FormatLaws.Places.{lacks_at}
use Rattle.pg_receive.proofs.RowDescriptionLemmas.{length-numbers, column_is_at}
use Rattle.pg_receive.proofs.message.row_description.columns.column_at.Goals as goal

pub field_of-requires : goal.field_of-requires
field_of-requires c =
    let found = c.in_ok-numbers.ensures.found in
    length-numbers c.args.body.now c.in_ok-numbers.numbers.now _ found.0 found.1

pub returns-clause-column : goal.returns-clause-column
returns-clause-column c =
    let found = c.in_ok-numbers.ensures.found in
    column_is_at utf8 c.args.body.now c.args.at _ _ c.in_ok-numbers.numbers.now (column_of_ref c.in_ok-field_of.field-0) (search rules) found.0 found.1
    c.in_ok-field_of.ensures.name c.in_ok-field_of.ensures.numbers

pub returns-in_err-name-clause-broken : goal.returns-in_err-name-clause-broken
returns-in_err-name-clause-broken c = search rules

pub returns-in_err-numbers-clause-broken : goal.returns-in_err-numbers-clause-broken
returns-in_err-numbers-clause-broken c =
    let p = err_from_is_err_and c.from_residual-in_err-numbers.result c.from_residual-in_err-numbers.ensures.1 in
    let text = c.in_ok-name.ensures in
    let lacks = lacks_at c.args.body.now c.in_ok-name.after 18 c.in_err-numbers.field-0.0 text.after.1 c.in_err-numbers.ensures.short in
    rw (p.1, p.2) (inr (record { value = c.in_ok-name.name.now; mid = drop c.in_ok-name.after c.args.body.now; reads = text.found; breaks = inl lacks }))

pub returns-in_err-field_of-clause-broken : goal.returns-in_err-field_of-clause-broken
returns-in_err-field_of-clause-broken c = search rules
