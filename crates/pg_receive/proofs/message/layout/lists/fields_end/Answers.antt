use Rattle.std.proofs.Common.{get_or, rules}
use Rattle.std.proofs.lemmas.Result.{err_from_is_err_and}
use Rattle.pg_format.specs.Messages.{field}
use Rattle.pg_receive.proofs.LayoutLemmas.{one_passed, letter_at, field_at, field_breaks, no_letter}
use Rattle.pg_receive.proofs.message.layout.lists.fields_end.Goals as goal

pub fields-init : goal.fields-init
fields-init c = search rules

pub fields-preserved : goal.fields-preserved
fields-preserved c =
    let body = c.args.body.now in
    let at = c.fields.at in
    let found = c.in_ok-letter.ensures.found in
    let letter = get_or c.in_ok-letter.field-0.now 0 0 in
    let value = c.in_ok-_value._value.now in
    let end = c.in_ok-_value.end in
    let within = c.in_ok-_value.ensures.after.1 in
    let item = field_at body at letter (letter_at body c.in_ok-letter.field-0.now at found.0 found.1) c.if-letter-eq0.false value end c.in_ok-_value.ensures.found within in
    record { within = within; passed = one_passed field body 0 at end (letter, value) c.fields.invariant.passed item }

pub returns-in_err-_value-clause-fault : goal.returns-in_err-_value-clause-fault
returns-in_err-_value-clause-fault c =
    let p = err_from_is_err_and c.from_residual-in_err-_value.result c.from_residual-in_err-_value.ensures.1 in
    let body = c.args.body.now in
    let at = c.fields.at in
    let found = c.in_ok-letter.ensures.found in
    let letter = get_or c.in_ok-letter.field-0.now 0 0 in
    rw (p.1, p.2) (field_breaks body at letter (letter_at body c.in_ok-letter.field-0.now at found.0 found.1) c.if-letter-eq0.false 0 c.in_err-_value.field-0.0 c.fields.invariant.passed c.in_err-_value.ensures.missing)

pub returns-in_err-letter-clause-fault : goal.returns-in_err-letter-clause-fault
returns-in_err-letter-clause-fault c =
    let p = err_from_is_err_and c.from_residual.result c.from_residual.ensures.1 in
    rw (p.1, p.2) (no_letter c.args.body.now 0 c.fields.at c.in_err-letter.field-0.0 c.fields.invariant.within c.fields.invariant.passed c.in_err-letter.ensures.short)
