-- The columns of a table.
use Rattle.std.specs.Prelude.{List}
use Rattle.pg_format.specs.Logical as page
use Rattle.pg_format.proofs.FormatLaws.Logical.{total_table_column}
use Rattle.pg_replication.specs.declared.logical.table_column.TableColumn.{TableColumn}
use Rattle.pg_replication.specs.declared.logical.table_columns.TableColumns.{TableColumns}
use Rattle.pg_replication.specs.Logical.Listed.{listed}

abbrev pub shown_column : TableColumn → page.Column
shown_column it = record { flags = it.flags; name = it.name.now; type_id = it.type_id; type_modifier = it.type_modifier }

abbrev pub columns_shown : TableColumns → List page.Column
columns_shown columns = listed total_table_column shown_column columns.left columns.bytes.now columns.given.now
