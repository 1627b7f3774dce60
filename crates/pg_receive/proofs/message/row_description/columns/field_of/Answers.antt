use Rattle.std.proofs.Common.{◌≡◌, [], drop, ◌++◌, ap, ◌∙◌, arith, rules}
use Rattle.std.specs.Int.{w16, w32}
use Rattle.std.proofs.lemmas.Int.{to_z-of_z}
use Rattle.std.proofs.lemmas.List.{drop_all}
use mir.Val.{SFits}
use Rattle.pg_format.specs.Messages.{attribute}
use Rattle.pg_receive.proofs.RowDescriptionLemmas.{longer_number, longer_signed}
use Rattle.pg_receive.proofs.message.row_description.columns.field_of.Goals as goal

pub returns-clause-numbers : goal.returns-clause-numbers
returns-clause-numbers c = λ more.
    let bytes = c.args.bytes.now in
    let table_id = c.in_ok-u32_at.field-0 in
    let number = c.in_ok-i16_at.field-0 in
    let type_id = c.in_ok-u32_at-2.field-0 in
    let size = c.in_ok-i16_at-2.field-0 in
    let modifier = c.in_ok-i32_at.field-0 in
    let format = c.in_ok-i16_at-3.field-0 in
    let number_fits : SFits w16 number = search rules in
    let size_fits : SFits w16 size = search rules in
    let modifier_fits : SFits w32 modifier = search rules in
    let format_fits : SFits w16 format = search rules in
    let ends : drop 18 bytes ≡ [] = drop_all 18 bytes (omega arith) in
    record {
      mid = drop 4 bytes ++ more;
      first = (table_id, longer_number 4 bytes table_id (drop 4 bytes) more c.in_ok-u32_at.ensures.found, c.relation_of.ensures);
      second = record {
        mid = drop 6 bytes ++ more;
        first = (number, longer_signed 2 (drop 4 bytes) number (drop 6 bytes) more c.in_ok-i16_at.ensures.found, c.attribute_of.ensures ∙ ap attribute (to_z-of_z w16 number number_fits));
        second = record {
          mid = drop 10 bytes ++ more;
          first = longer_number 4 (drop 6 bytes) type_id (drop 10 bytes) more c.in_ok-u32_at-2.ensures.found;
          second = record {
            mid = drop 12 bytes ++ more;
            first = rw (to_z-of_z w16 size size_fits) (longer_signed 2 (drop 10 bytes) size (drop 12 bytes) more c.in_ok-i16_at-2.ensures.found);
            second = record {
              mid = drop 16 bytes ++ more;
              first = rw (to_z-of_z w32 modifier modifier_fits) (longer_signed 4 (drop 12 bytes) modifier (drop 16 bytes) more c.in_ok-i32_at.ensures.found);
              second = rw (to_z-of_z w16 format format_fits) (longer_signed 2 (drop 16 bytes) format [] more (rw ends at c.in_ok-i16_at-3.ensures.found));
            };
          };
        };
      };
    }
