-- What the place of a column says of the body: nothing where its name isn't in it.
use Rattle.std.specs.Prelude.{ℕ, List, Option, option_map, ℤ, Some}
use Rattle.pg_format.specs.Messages.{Column, table, attribute, parameter_description}
use Rattle.pg_c.specs.Place.{part}
use Rattle.pg_c.specs.declared.read.columns.PgmsgColumn.{PgmsgColumn}
use Rattle.pg_format.specs.Format.Parts.{be_u32}
use Rattle.pg_receive.specs.RowDescription.Raw.{raw_column, raw_row_description}
use Rattle.pg_c.specs.Read.{ReadsItems, GivesFront}

-- the column of a name
abbrev pub column_named : PgmsgColumn → List ℕ → Column
column_named column name = record {
  name = name;
  relation_id = table column.table;
  relation_attribute_no = attribute column.attribute;
  data_type_id = column.type_id;
  data_type_size = column.type_size;
  type_modifier = column.type_modifier;
  format = column.format;
}

abbrev pub column_in : List ℕ → PgmsgColumn → Option Column
column_in body column = option_map (column_named column) (part body column.name)

-- the body means columns, as many as the result, and they are given; and the front of them where it is refused
abbrev pub ReadsColumns : List ℕ → List PgmsgColumn → List PgmsgColumn → ℤ → Type 0
ReadsColumns body old new result = ReadsItems raw_row_description (column_in body) body old new result

abbrev pub GivesColumns : List ℕ → List PgmsgColumn → List PgmsgColumn → Type 0
GivesColumns body old new = GivesFront raw_column (column_in body) body 2 old new

-- the same of the types of parameters
abbrev pub ReadsTypes : List ℕ → List ℕ → List ℕ → ℤ → Type 0
ReadsTypes body old new result = ReadsItems parameter_description (λ number. Some number) body old new result

abbrev pub GivesTypes : List ℕ → List ℕ → List ℕ → Type 0
GivesTypes body old new = GivesFront be_u32 (λ number. Some number) body 2 old new
