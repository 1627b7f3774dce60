use Rattle.std.proofs.Common.{◌≡◌, ◌+◌, ◌*◌, ℤ, Some, refl, arith, rules, ap, sym, ◌∙◌, pos}
use Rattle.std.specs.Int.{w8, w16}
use Rattle.std.proofs.lemmas.Int.{to_z-of_z}
use mir.Val.{SFits, to_z, of_z}
use Rattle.std.proofs.lemmas.Result.{err_from_is_err_and}
use Rattle.pg_format.specs.Format.Parts.{be_i16}
use Rattle.pg_format.specs.Messages.{columns_of}
use Rattle.pg_format.proofs.FormatLaws.Places.{stands_at}
use Rattle.pg_format.proofs.FormatLaws.Takes.{takes_signed}
use Rattle.pg_receive.proofs.CopyLemmas.{counts_at, response_at}
use Rattle.pg_c.proofs.ReadLemmas.{gives_none, gives_more, gives_full, gives_front}
use Rattle.pg_c.proofs.read.copy.codes_of.Goals as goal
use Rattle.pg_c.proofs.read.copy.codes_of.Goals.{then-index-codes, else-index-codes}

pub loop-index-init : goal.loop-index-init
loop-index-init c = gives_none be_i16 (λ (z : ℤ). Some z) c.args.body.now 3 c.args.codes.now (search rules)

pub loop-index-preserved : goal.loop-index-preserved
loop-index-preserved c =
    let body = c.args.body.now in
    let read = c.loop-index in
    let at = 3 + 2 * read.index in
    let code = c.in_ok-code.code in
    let in_range : SFits w16 code = search rules in
    let same : to_z w16 (of_z w16 code) ≡ code = to_z-of_z w16 code in_range in
    let stands = stands_at be_i16 2 (takes_signed 2) body at code read.invariant.read.within c.in_ok-code.ensures.found in
    let next : 3 + 2 * (read.index + 1) ≡ at + 2 = omega arith in
    rw next (elim c.if-index-codes.branch [
      | then-index-codes w ↦ rw (w.codes-is, same) (gives_more be_i16 (λ (z : ℤ). Some z) body 3 at (at + 2) read.index c.args.codes.now read.codes code code read.invariant refl stands w.if-index-codes.true)
      | else-index-codes w ↦ rw w.codes-is (gives_full be_i16 (λ (z : ℤ). Some z) body 3 at (at + 2) read.index c.args.codes.now read.codes code read.invariant stands (omega (arith, w.if-index-codes.false)))
    ])

pub returns-clause-formats : goal.returns-clause-formats
returns-clause-formats c =
    let body = c.args.body.now in
    let read = c.loop-index.invariant in
    let format = c.in_ok-format.format in
    let columns = c.in_ok-columns.columns in
    let format_range : SFits w8 format = search rules in
    let columns_range : SFits w16 columns = search rules in
    let codes_are : c.code_count-count.result ≡ columns_of columns = c.code_count-count.ensures ∙ ap columns_of (to_z-of_z w16 columns columns_range) in
    let all : c.loop-index.index ≡ c.code_count-count.result = omega (arith, c.loop-index-test.false, c.loop-index.auto.index-end) in
    record {
      formats = record { format = c.in_ok-format.format; num_columns = c.in_ok-columns.columns; format_codes = read.items };
      means = response_at body format columns c.loop-index.index (3 + 2 * c.loop-index.index) read.items (counts_at body format columns c.in_ok-format.ensures.found c.in_ok-columns.ensures.found) (all ∙ codes_are) read.read;
      format = to_z-of_z w8 format format_range;
      columns = to_z-of_z w16 columns columns_range;
      count = ap pos (sym (read.read.reads.0 ∙ all));
      given = read.given;
    }

pub returns-in_err-code-clause-front : goal.returns-in_err-code-clause-front
returns-in_err-code-clause-front c =
    let loop = c.loop-index in
    rw (err_from_is_err_and c.from_residual-in_err-code.result c.from_residual-in_err-code.ensures.1).1 (gives_front be_i16 (λ (z : ℤ). Some z) c.args.body.now 3 (3 + 2 * loop.index) loop.index c.args.codes.now loop.codes loop.invariant)
