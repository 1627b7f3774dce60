-- The columns that stand one after the other in a body.
use Rattle.std.specs.Prelude.{ℕ, ◌+◌, ◌==◌, List, [], ◌∷◌, ◌++◌, length, take, drop, option_map, if◌then◌else◌}
use Rattle.pg_base.specs.declared.io.Oid.{Oid}
use Rattle.pg_base.specs.Numbers.{num, int}
use Rattle.pg_receive.specs.declared.message.row_description.columns.FieldRef.{FieldRef}
use Rattle.pg_format.specs.Items.{Reading, items_in, HoldsItems}
use Rattle.pg_format.specs.Messages.{Column, table, attribute, column, numbers, numbers_of}

abbrev pub column_of_ref : FieldRef → Column
column_of_ref field = record {
  name = field.name.now;
  relation_id = option_map (λ (id : Oid). id.0) field.relation_id;
  relation_attribute_no = field.relation_attribute_no;
  data_type_id = field.data_type_id.0;
  data_type_size = field.data_type_size;
  type_modifier = field.type_modifier;
  format = field.format;
}

-- the bytes are the numbers of a column, whatever follows
abbrev pub AreNumbersOf : Column → List ℕ → Type 0
AreNumbersOf column bytes = (more : List ℕ) → numbers.Reads (bytes ++ more) (numbers_of column) more

-- the text at the front of some bytes: what stands before the first NUL
abbrev pub first_text : List ℕ → List ℕ
first_text [] = []
first_text (byte ∷ bytes) = if byte == 0 then [] else byte ∷ first_text bytes

-- the column of a name, and of the numbers at the front of some bytes
abbrev pub column_with : List ℕ → List ℕ → Column
column_with name numbers = record {
  name = name;
  relation_id = table (num (take 4 numbers));
  relation_attribute_no = attribute (int (take 2 (drop 4 numbers)));
  data_type_id = num (take 4 (drop 2 (drop 4 numbers)));
  data_type_size = int (take 2 (drop 4 (drop 2 (drop 4 numbers))));
  type_modifier = int (take 4 (drop 2 (drop 4 (drop 2 (drop 4 numbers)))));
  format = int (take 2 (drop 4 (drop 2 (drop 4 (drop 2 (drop 4 numbers))))));
}

-- what follows the name at the front of some bytes
abbrev pub after_name : List ℕ → List ℕ
after_name bytes = drop (length (first_text bytes) + 1) bytes

-- the column at the front of some bytes, and what follows its numbers
abbrev pub first_column : List ℕ → Column
first_column bytes = column_with (first_text bytes) (after_name bytes)

abbrev pub after_column : List ℕ → List ℕ
after_column bytes = drop 2 (drop 4 (drop 2 (drop 4 (drop 2 (drop 4 (after_name bytes))))))

-- the columns that are left, and that the body has them all
abbrev pub columns_left : Reading → List Column
columns_left reading = items_in first_column after_column reading.left (drop reading.at reading.body)

abbrev pub HasColumns : Reading → Type 0
HasColumns reading = HoldsItems column first_column after_column reading.left (drop reading.at reading.body)
