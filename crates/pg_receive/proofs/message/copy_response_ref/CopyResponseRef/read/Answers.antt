use Rattle.std.proofs.Common.{◌≡◌, ◌≤◌, ◌+◌, ◌*◌, length, ap, ◌∙◌, arith, rules}
use Rattle.std.specs.Int.{w8, w16}
use Rattle.std.proofs.lemmas.Int.{to_z-of_z}
use Rattle.std.proofs.lemmas.Result.{err_from_is_err_and}
use mir.Val.{SFits}
use Rattle.pg_format.specs.Messages.{columns_of}
use Rattle.pg_receive.specs.ColumnFormats.{column_formats}
use Rattle.pg_receive.proofs.CopyLemmas.{counts_at, response_at}
use Rattle.pg_receive.proofs.CopyResponseRefLemmas.{codes_break}
use Rattle.pg_receive.proofs.message.copy_response_ref.CopyResponseRef.read.Goals as goal

pub returns-in_err-format_codes : goal.returns-in_err-format_codes
returns-in_err-format_codes c =
    let p = err_from_is_err_and c.from_residual-in_err-format_codes.result c.from_residual-in_err-format_codes.ensures.1 in
    let body = c.args.body.now in
    let count = c.in_ok-num_columns.num_columns in
    let counts = counts_at body c.in_ok-format.format count c.in_ok-format.ensures.found c.in_ok-num_columns.ensures.found in
    let in_range : SFits w16 count = search rules in
    let codes_are : c.code_count-count.result ≡ columns_of count = c.code_count-count.ensures ∙ ap columns_of (to_z-of_z w16 count in_range) in
    let holds : 3 + 2 * columns_of count ≤ length body = omega (arith, codes_are, c.in_ok-bytes_at.ensures.found.0) in
    rw (p.1, p.2) (codes_break body c.in_ok-format.format count c.code_count-count.result c.in_err-format_codes.field-0.0 counts holds codes_are c.in_err-format_codes.ensures.broken)

pub returns : goal.returns
returns c =
    let body = c.args.body.now in
    let format = c.in_ok-format.format in
    let count = c.in_ok-num_columns.num_columns in
    let format_range : SFits w8 format = search rules in
    let count_range : SFits w16 count = search rules in
    let counts = counts_at body format count c.in_ok-format.ensures.found c.in_ok-num_columns.ensures.found in
    let codes_are : c.code_count-count.result ≡ columns_of count = c.code_count-count.ensures ∙ ap columns_of (to_z-of_z w16 count count_range) in
    let codes = c.in_ok-format_codes in
    rw (to_z-of_z w8 format format_range, to_z-of_z w16 count count_range)
    (response_at body format count c.code_count-count.result codes._end (column_formats codes.format_codes) counts codes_are codes.ensures.codes)
