-- The result of a function as a C program reads it.
use Rattle.std.specs.Prelude.{◌≡◌, ℕ, List, Option, Some}
use Rattle.pg_format.specs.Format.{Means}
use Rattle.pg_format.specs.Messages.{function_call_response}
use Rattle.pg_c.specs.Read.Row.{cell_in}
use Rattle.pg_c.specs.declared.read.row.PgmsgCell.{PgmsgCell}

-- the body means a value or NULL, and this is it
pub record ReadsResult (body : List ℕ) (read : PgmsgCell) : Type 0 where
  pub value : Option (List ℕ)
  pub means : Means function_call_response body value
  pub place : cell_in body read ≡ Some value
