-- Items of lists, as a C program passes them: as those that are written, and what they say.
use Rattle.std.specs.Prelude.{ℕ, List, Option, Some, None, if◌then◌else◌}
use Rattle.std.specs.Borrow.{Bor}
use Rattle.pg_format.specs.Messages as page
use Rattle.pg_format.specs.Notices.{Field}
use Rattle.pg_server.specs.Backend.Notice as notice
use Rattle.pg_server.specs.Backend.RowDescription as description
use Rattle.pg_server.specs.declared.backend.notice.OutboundNoticeField.{OutboundNoticeField}
use Rattle.pg_server.specs.declared.backend.row_description.OutboundColumn.{OutboundColumn}
use Rattle.pg_c.specs.declared.put.prepared.PgmsgValue.{PgmsgValue}
use Rattle.pg_c.specs.declared.server.authentication.PgmsgBytes.{PgmsgBytes}
use Rattle.pg_c.specs.declared.server.notices.PgmsgFieldText.{PgmsgFieldText}
use Rattle.pg_c.specs.declared.server.rows.PgmsgColumnText.{PgmsgColumnText}

abbrev pub bytes_of : PgmsgBytes → List ℕ
bytes_of text = text.bytes.now

-- NULL, or where the value is
abbrev pub borrowed : PgmsgValue → Option (Bor (List ℕ))
borrowed value = if value.is_null then None else Some value.bytes

abbrev pub field_text_of : PgmsgFieldText → OutboundNoticeField
field_text_of field = record { letter = field.letter; text = field.text }

abbrev pub field_of : PgmsgFieldText → Field
field_of field = notice.field_of (field_text_of field)

abbrev pub column_text_of : PgmsgColumnText → OutboundColumn
column_text_of column = record {
  name = column.name;
  table = record { 0 = column.table };
  attribute = column.attribute;
  data_type = record { 0 = column.type_id };
  size = column.type_size;
  modifier = column.type_modifier;
  format = column.format;
}

abbrev pub column_of : PgmsgColumnText → page.Column
column_of column = description.column_of (column_text_of column)
