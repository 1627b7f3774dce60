-- What the place of a field says of the body: nothing where its value isn't in it.
use Rattle.std.specs.Prelude.{◌≡◌, ℕ, ℤ, pos, List, Option, option_map}
use Rattle.pg_format.specs.Notices.{Field}
use Rattle.pg_receive.specs.Response.Severity.{severity_number}
use Rattle.pg_format.specs.Format.{Means}
use Rattle.pg_receive.specs.Response.{NoticeValue, notices}
use Rattle.pg_c.specs.Place.{part}
use Rattle.pg_c.specs.declared.read.fields.PgmsgField.{PgmsgField}

abbrev pub field_in : List ℕ → PgmsgField → Option Field
field_in body field = option_map (λ value. (field.letter, value)) (part body field.value)

-- the number of the severity of the error or notice that the body is
pub record IsSeverityOf (body : List ℕ) (result : ℤ) : Type 0 where
  pub notice : NoticeValue
  pub means : Means notices body notice
  pub number : result ≡ pos (severity_number notice.severity)
