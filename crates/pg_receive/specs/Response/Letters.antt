-- The letters of fields that are not read with the others. Documentation: "Error and Notice Message Fields".
use Rattle.std.specs.Prelude.{ℕ}

abbrev pub detail_letter : ℕ
detail_letter = 68

abbrev pub hint_letter : ℕ
hint_letter = 72

abbrev pub position_letter : ℕ
position_letter = 80

abbrev pub internal_position_letter : ℕ
internal_position_letter = 112

abbrev pub internal_query_letter : ℕ
internal_query_letter = 113

abbrev pub where_letter : ℕ
where_letter = 87

abbrev pub schema_letter : ℕ
schema_letter = 115

abbrev pub table_letter : ℕ
table_letter = 116

abbrev pub column_letter : ℕ
column_letter = 99

abbrev pub data_type_letter : ℕ
data_type_letter = 100

abbrev pub constraint_letter : ℕ
constraint_letter = 110

abbrev pub file_letter : ℕ
file_letter = 70

abbrev pub line_letter : ℕ
line_letter = 76

abbrev pub routine_letter : ℕ
routine_letter = 82
