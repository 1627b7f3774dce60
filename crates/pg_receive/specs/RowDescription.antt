-- RowDescription: the columns that its fields are, and where no memory is asked for.
pub mod Columns
pub mod Raw
use Rattle.std.specs.Prelude.{◌≡◌, ◌+◌, ◌≤◌, ℕ, Bool, false, List, [], map, option_map, string_bytes, Vec, vec_len, vec_capacity}
use Rattle.std.specs.declared.alloc.Global.{Global}
use Rattle.pg_base.specs.declared.io.Oid.{Oid}
use Rattle.pg_format.specs.Format.{Means}
use Rattle.pg_format.specs.Messages.{Column, row_description}
use Rattle.pg_receive.specs.declared.message.row_description.Field.{Field}
use Rattle.pg_receive.specs.declared.message.row_description.columns.FieldRef.{FieldRef}
use Rattle.pg_receive.specs.RowDescription.Columns.{column_of_ref}

abbrev pub column_of : Field → Column
column_of field = record {
  name = string_bytes field.name;
  relation_id = option_map (λ (id : Oid). id.0) field.relation_id;
  relation_attribute_no = field.relation_attribute_no;
  data_type_id = field.data_type_id.0;
  data_type_size = field.data_type_size;
  type_modifier = field.type_modifier;
  format = field.format;
}

-- the columns that a list of fields is
abbrev pub columns_shown : Vec Field Global → List Column
columns_shown fields = map column_of fields.items

-- columns are copied, and nothing else: a body with a fault has none
abbrev pub ColumnsNeedsNoMemory : List ℕ → Type 0
ColumnsNeedsNoMemory body = (columns : List Column) → Means row_description body columns → columns ≡ []

-- while there was memory for each: these are the columns, and there is room for so many more
abbrev pub AreOwned : Bool → List Field → List FieldRef → Type 0
AreOwned lacks_memory fields columns = lacks_memory ≡ false → map column_of fields ≡ map column_of_ref columns

abbrev pub HasRoomFor : Bool → Vec Field Global → ℕ → Type 0
HasRoomFor lacks_memory fields more = lacks_memory ≡ false → vec_len fields + more ≤ vec_capacity fields
