-- What the accessors of an error answer. Documentation: "Error and Notice Message Fields" and
-- "PostgreSQL Error Codes".
pub mod Position
use Rattle.std.specs.Prelude.{ℕ, Bool, ◌||◌, List, [], ◌++◌, Option, Some, None, codes, decimal, option_and_then, option_map, if◌then◌else◌}
use Rattle.std.specs.Option.{option_or}
use Rattle.std.specs.Str.{bytes_eq}
use Rattle.pg_base.specs.declared.error.ErrorKind.{ErrorKind}
use Rattle.pg_base.specs.declared.error.ErrorKind.TheVariants as kinds
use Rattle.pg_receive.specs.Response.Fields.{first_value, first_text}
use Rattle.pg_format.specs.Notices.{Field}
use Rattle.pg_receive.specs.Response.{NoticeValue}
use Rattle.pg_receive.specs.Response.Letters.{line_letter, position_letter, internal_position_letter, internal_query_letter}
use Rattle.pg_receive.specs.Decimal.{leading_decimal}

abbrev pub greatest_number : ℕ
greatest_number = 18446744073709551615

-- the number at the front of the first field of a letter
abbrev pub first_number : ℕ → List Field → Option ℕ
first_number letter fields = option_and_then (leading_decimal greatest_number) (first_value letter fields)

-- a place in the query of the client, or in one that the server made
pub data ErrorPosition : Type 0 where
  original : ℕ → ErrorPosition
  internal : ℕ → List ℕ → ErrorPosition

abbrev pub internal_of : List Field → Option ErrorPosition
internal_of fields =
    option_and_then (λ position. option_map (internal position) (first_text internal_query_letter fields)) (first_number internal_position_letter fields)

abbrev pub position_of : List Field → Option ErrorPosition
position_of fields = option_or (option_map original (first_number position_letter fields)) (internal_of fields)

-- the codes of violations. Documentation: "PostgreSQL Error Codes", class 23
abbrev pub unique_violation_code : List ℕ
unique_violation_code = codes "23505"

abbrev pub foreign_key_violation_code : List ℕ
foreign_key_violation_code = codes "23503"

abbrev pub not_null_violation_code : List ℕ
not_null_violation_code = codes "23502"

abbrev pub check_violation_code : List ℕ
check_violation_code = codes "23514"

abbrev pub exclusion_violation_code : List ℕ
exclusion_violation_code = codes "23P01"

abbrev pub kind_of : List ℕ → ErrorKind
kind_of code =
    if bytes_eq code unique_violation_code then kinds.UniqueViolation
    else (if bytes_eq code foreign_key_violation_code then kinds.ForeignKeyViolation
    else (if bytes_eq code not_null_violation_code then kinds.NotNullViolation
    else (if bytes_eq code check_violation_code then kinds.CheckViolation
    else (if bytes_eq code exclusion_violation_code then kinds.ExclusionViolation else kinds.Other))))

-- too many connections, or a server that is still starting
abbrev pub is_transient : List ℕ → Bool
is_transient code = bytes_eq code (codes "53300") || bytes_eq code (codes "57P03")

abbrev pub line_words : Option ℕ → List ℕ
line_words None = []
line_words (Some line) = codes " at line " ++ decimal line

-- what an error prints
abbrev pub database_error_words : NoticeValue → List ℕ
database_error_words error = error.message ++ line_words (first_number line_letter error.fields)
