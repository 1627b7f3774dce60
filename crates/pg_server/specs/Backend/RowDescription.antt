-- RowDescription: the columns of a result. Documentation: "Message Formats", RowDescription (B).
use Rattle.std.specs.Prelude.{◌≡◌, ◌^◌, ◌<◌}
use Rattle.pg_format.specs.Format.Parts.{FitsSigned}
use Rattle.pg_format.specs.Messages as page
use Rattle.pg_server.specs.declared.backend.row_description.OutboundColumn.{OutboundColumn}

-- 0 is the number of no table, and of no attribute of one
abbrev pub column_of : OutboundColumn → page.Column
column_of column = record {
  name = column.name.now;
  relation_id = page.table column.table.0;
  relation_attribute_no = page.attribute column.attribute;
  data_type_id = column.data_type.0;
  data_type_size = column.size;
  type_modifier = column.modifier;
  format = column.format;
}

-- its table and its attribute are read back from their numbers
pub record IsColumnInRange (column : page.Column) : Type 0 where
  pub is_table : page.table (page.table_number column.relation_id) ≡ column.relation_id
  pub is_attribute : page.attribute (page.attribute_number column.relation_attribute_no) ≡ column.relation_attribute_no
  pub relation_id : page.table_number column.relation_id < 2 ^ 32
  pub relation_attribute_no : FitsSigned 2 (page.attribute_number column.relation_attribute_no)
  pub data_type_id : column.data_type_id < 2 ^ 32
  pub data_type_size : FitsSigned 2 column.data_type_size
  pub type_modifier : FitsSigned 4 column.type_modifier
  pub format : FitsSigned 2 column.format
