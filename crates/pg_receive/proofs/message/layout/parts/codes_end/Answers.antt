use Rattle.std.proofs.Common.{◌≡◌, ◌+◌, ◌*◌, ◌≤◌, drop, length, ap, ◌∙◌, arith, rules}
use Rattle.std.specs.Int.{w16}
use Rattle.std.proofs.lemmas.Int.{to_z-of_z}
use mir.Val.{SFits}
use Rattle.pg_format.specs.Format.Parts.{be_i16}
use Rattle.pg_format.specs.Messages.{columns_of}
use Rattle.pg_receive.proofs.LayoutLemmas.{all_there, signed_there}
use Rattle.pg_receive.proofs.message.layout.parts.codes_end.Goals as goal

pub returns-clause-end : goal.returns-clause-end
returns-clause-end c =
    let body = c.args.body.now in
    let count = c.in_ok-i16_at.field-0 in
    let in_range : SFits w16 count = search rules in
    let n : c.code_count-columns.result ≡ columns_of count = c.code_count-columns.ensures ∙ ap columns_of (to_z-of_z w16 count in_range) in
    let fits : 3 + 2 * columns_of count ≤ length body = omega (arith, n, c.in_ok-bytes_at.ensures.found.0) in
    let codes = all_there be_i16 2 body (signed_there 2 body) (columns_of count) 3 fits in
    rw n (record {
      value = (c.in_ok-i8_at.field-0, (count, codes.0));
      read = record {
        within = fits;
        reads = record {
          mid = drop 1 body;
          first = c.in_ok-i8_at.ensures.found;
          second = record { mid = drop 3 body; first = c.in_ok-i16_at.ensures.found; second = codes.1.reads };
        };
      };
    })

pub returns-in_err-i8_at-clause-fault : goal.returns-in_err-i8_at-clause-fault
returns-in_err-i8_at-clause-fault c = search rules

pub returns-in_err-i16_at-clause-fault : goal.returns-in_err-i16_at-clause-fault
returns-in_err-i16_at-clause-fault c = search rules

pub returns-in_err-bytes_at-clause-fault : goal.returns-in_err-bytes_at-clause-fault
returns-in_err-bytes_at-clause-fault c = search rules
