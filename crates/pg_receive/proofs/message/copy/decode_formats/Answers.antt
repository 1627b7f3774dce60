use Rattle.std.proofs.Common.{◌≡◌, ◌+◌, ◌*◌, ℤ, [], ◌∷◌, ◌++◌, ap, ◌∙◌, arith, rules}
use Rattle.std.specs.Int.{w8, w16}
use Rattle.std.proofs.lemmas.Int.{to_z-of_z}
use mir.Val.{SFits}
use Rattle.std.proofs.lemmas.Bool.{false≢true}
use Rattle.std.proofs.lemmas.Result.{err_from_is_err_and}
use Rattle.pg_format.specs.Format.Parts.{be_i16}
use Rattle.pg_format.specs.Messages.{columns_of}
use Rattle.pg_format.proofs.FormatLaws.Places.{stands_at, one_more_at}
use Rattle.pg_format.proofs.FormatLaws.Takes.{takes_signed}
use Rattle.pg_receive.proofs.CopyLemmas.{counts_at, response_at, codes_ask_for_memory}
use Rattle.pg_receive.proofs.message.copy.decode_formats.Goals as goal

pub returns-in_err-format_codes : goal.returns-in_err-format_codes
returns-in_err-format_codes c =
    let p = err_from_is_err_and c.from_residual-in_err-format_codes.result c.from_residual-in_err-format_codes.ensures.1 in
    let body = c.args.body.now in
    let count = c.in_ok-num_columns.num_columns in
    let counts = counts_at body c.in_ok-format.format count c.in_ok-format.ensures.found c.in_ok-num_columns.ensures.found in
    let in_range : SFits w16 count = search rules in
    let codes_are : c.code_count-count.result ≡ columns_of count = c.code_count-count.ensures ∙ ap columns_of (to_z-of_z w16 count in_range) in
    let not_none : c.code_count-count.result ≡ 0 → ⊥ = λ e. absurd (false≢true (c.in_err-format_codes.ensures.succeeds e)) in
    rw (p.1, p.2) (codes_ask_for_memory body c.in_ok-format.format count counts (omega (arith, codes_are, c.in_ok-bytes_at.ensures.found.0)) (omega (arith, codes_are)))

pub loop-index-preserved : goal.loop-index-preserved
loop-index-preserved c =
    let body = c.args.body.now in
    let codes = c.loop-index.format_codes.items in
    let index = c.loop-index.index in
    let at = 3 + 2 * index in
    let pushed = c.push_reserved.ensures in
    let code = c.in_ok-i16_at.field-0 in
    let in_range : SFits w16 code = search rules in
    let more : c.push_reserved.new.self.items ≡ codes ++ code ∷ [] = pushed.items ∙ ap (λ (z : ℤ). codes ++ z ∷ []) (to_z-of_z w16 code in_range) in
    let next : 3 + 2 * (index + 1) ≡ at + 2 = omega arith in
    let read = c.loop-index.invariant.read in
    record {
      counted = omega (arith, pushed.len, c.loop-index.invariant.counted);
      room = pushed.capacity ∙ c.loop-index.invariant.room;
      read = rw (more, next) (one_more_at be_i16 body index 3 at (at + 2) codes code read (stands_at be_i16 2 (takes_signed 2) body at code read.within c.in_ok-i16_at.ensures.found));
    }

pub returns : goal.returns
returns c =
    let body = c.args.body.now in
    let format = c.in_ok-format.format in
    let count = c.in_ok-num_columns.num_columns in
    let format_range : SFits w8 format = search rules in
    let count_range : SFits w16 count = search rules in
    let counts = counts_at body format count c.in_ok-format.ensures.found c.in_ok-num_columns.ensures.found in
    let codes_are : c.code_count-count.result ≡ columns_of count = c.code_count-count.ensures ∙ ap columns_of (to_z-of_z w16 count count_range) in
    let all : c.loop-index.index ≡ c.code_count-count.result = omega (arith, c.loop-index-test.false, c.loop-index.auto.index-end) in
    rw (to_z-of_z w8 format format_range, to_z-of_z w16 count count_range)
    (response_at body format count c.loop-index.index (3 + 2 * c.loop-index.index) c.loop-index.format_codes.items counts (all ∙ codes_are) c.loop-index.invariant.read)

pub loop-index-init : goal.loop-index-init
loop-index-init c = search rules
