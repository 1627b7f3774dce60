use Rattle.std.specs.Prelude.{[], ◌∷◌, ◌++◌, codes, pos, negsuc, Some, None}
use Rattle.pg_format.specs.Examples.{copy_of_two_columns, copy_of_no_columns, row_of_three_values}
use Rattle.pg_format.specs.Format.{Lawful, Means}
use Rattle.pg_format.specs.Format.Sequences.{◌⨾◌}
use Rattle.pg_format.specs.Format.Tests.{utf8, with_room}
use Rattle.pg_format.specs.Messages.{Column, numbers_of, numbers, row_description}
use Rattle.pg_format.specs.Tables.{table, table_number, attribute, attribute_number}
use Rattle.std.proofs.Common.{refl, arith}
use Rattle.pg_format.proofs.ExamplesLemmas.{clean}
use Rattle.pg_format.proofs.FormatLaws.FromServer.{u32, i16, numbers_take, lawful_copy_response, lawful_data_row}
use Rattle.pg_format.proofs.FormatLaws.Parts.{lawful_unsigned, lawful_signed}
use Rattle.pg_format.proofs.FormatLaws.Sequences.{◌l⨾◌, lawful_mapped}
use Rattle.pg_format.proofs.FormatLaws.Tests.{lawful_utf8, lawful_with_room}
use Rattle.pg_format.proofs.laws.examples.examples_of_columns.Goals as goal

fields : Lawful (utf8 ⨾ with_room 18 numbers)
fields = lawful_utf8 l⨾ lawful_with_room 18 numbers_take (lawful_mapped table table_number u32 l⨾ lawful_mapped attribute attribute_number i16 l⨾ u32 l⨾ i16 l⨾ lawful_signed 4 tt l⨾ i16)

-- a description of one column
one_column : (c : Column) → (utf8 ⨾ with_room 18 numbers).Fits (c.name, numbers_of c) [] → Means row_description (0 ∷ 1 ∷ ((utf8 ⨾ with_room 18 numbers).Writes (c.name, numbers_of c) ++ [])) (c ∷ [])
one_column c fits =
    let bytes = (utf8 ⨾ with_room 18 numbers).Writes (c.name, numbers_of c) ++ [] in
    ([], ((1, c ∷ []), record { mid = bytes; first = (lawful_unsigned 2 tt).written 1 bytes (omega arith); second = (refl, ([], fields.written (c.name, numbers_of c) [] fits, refl)) }, refl), refl)

pub returns-clause-of_a_table : goal.returns-clause-of_a_table
unfolding lib.Utf8.encode
returns-clause-of_a_table c = one_column (record { name = codes "id"; relation_id = Some 16385; relation_attribute_no = Some (pos 2); data_type_id = 23; data_type_size = pos 4; type_modifier = negsuc 0; format = pos 1 }) (((clean (codes "id") refl), (codes "id", (refl, refl))), (((omega arith), refl), (((omega arith), refl), ((omega arith), ((omega arith), ((omega arith), (omega arith)))))))

pub returns-clause-of_no_table : goal.returns-clause-of_no_table
unfolding lib.Utf8.encode
returns-clause-of_no_table c = one_column (record { name = codes "now"; relation_id = None; relation_attribute_no = None; data_type_id = 25; data_type_size = negsuc 0; type_modifier = pos 9; format = pos 0 }) (((clean (codes "now") refl), (codes "now", (refl, refl))), (((omega arith), refl), (((omega arith), refl), ((omega arith), ((omega arith), ((omega arith), (omega arith)))))))

pub returns-clause-copied_in : goal.returns-clause-copied_in
returns-clause-copied_in c = lawful_copy_response.written copy_of_two_columns.value [] ((omega arith, (omega arith, (refl, (omega arith, (omega arith, tt))))), refl)

pub returns-clause-copied_out : goal.returns-clause-copied_out
returns-clause-copied_out c = lawful_copy_response.written copy_of_no_columns.value [] ((omega arith, (omega arith, (refl, tt))), refl)

pub returns-clause-row : goal.returns-clause-row
returns-clause-row c = lawful_data_row.written row_of_three_values.value [] (((omega arith, (refl, (((omega arith, (refl, refl)), refl), (((omega arith, refl), refl), (((omega arith, (refl, refl)), refl), tt))))), refl), refl)
