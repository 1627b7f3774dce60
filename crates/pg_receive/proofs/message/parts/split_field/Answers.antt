use Rattle.std.proofs.lemmas.List.{nil_from_length}
use Rattle.pg_receive.proofs.ResponseFieldsLemmas.{no_fields_clean, no_fields_empty}
use Rattle.pg_receive.proofs.message.parts.split_field.Goals as goal

pub returns-in_err-letter-clause-none : goal.returns-in_err-letter-clause-none
returns-in_err-letter-clause-none c =
    let empty = nil_from_length c.args.bytes.now c.in_err-letter.ensures.cases in
    rw (c.from_residual.ensures, empty) (no_fields_clean _ tt)

pub returns-then-letter-eq0-clause-none : goal.returns-then-letter-eq0-clause-none
returns-then-letter-eq0-clause-none c =
    let parts = c.in_ok-letter.ensures.cases.0 in
    no_fields_empty c.args.bytes.now c.in_ok-letter.rest.now (record { clean = tt; parts = rw (← c.if-letter-eq0.true) parts })

pub returns-in_err-value-clause-none : goal.returns-in_err-value-clause-none
returns-in_err-value-clause-none c =
    let parts = c.in_ok-letter.ensures.cases.0 in
    rw (c.from_residual-in_err-value.ensures, parts) (no_fields_clean _ (c.if-letter-eq0.false, c.in_err-value.ensures.none))
