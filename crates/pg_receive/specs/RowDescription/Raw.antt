-- RowDescription in the encoding of the server: the name of a column is any bytes but NUL.
use Rattle.std.specs.Prelude.{ℕ, List, option_map}
use Rattle.pg_base.specs.declared.io.Oid.{Oid}
use Rattle.pg_format.specs.Format.{Format}
use Rattle.pg_format.specs.Format.Ends.{loosely}
use Rattle.pg_format.specs.Format.Lists.{counted_least}
use Rattle.pg_format.specs.Format.Parts.{until_nul}
use Rattle.pg_format.specs.Format.Sequences.{◌⨾◌, record_of}
use Rattle.pg_format.specs.Format.Tests.{with_room}
use Rattle.pg_format.specs.Messages.{Column, numbers_of, numbers}
use Rattle.pg_receive.specs.declared.message.row_description.raw_columns.RawFieldRef.{RawFieldRef}

abbrev pub column_of_raw : RawFieldRef → Column
column_of_raw field = record {
  name = field.name.now;
  relation_id = option_map (λ (id : Oid). id.0) field.relation_id;
  relation_attribute_no = field.relation_attribute_no;
  data_type_id = field.data_type_id.0;
  data_type_size = field.data_type_size;
  type_modifier = field.type_modifier;
  format = field.format;
}

-- a column whose name is such a text
abbrev pub column_named_by : Format (List ℕ) → Format Column
column_named_by text = record_of (λ c. (c.name, numbers_of c)) (text ⨾ with_room 18 numbers)

abbrev pub raw_column : Format Column
raw_column = column_named_by until_nul

abbrev pub raw_row_description : Format (List Column)
raw_row_description = loosely (counted_least 19 raw_column)
