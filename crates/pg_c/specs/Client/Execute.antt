-- An Execute as a C program reads it.
use Rattle.std.specs.Prelude.{◌≡◌, ℕ, List, Some}
use Rattle.pg_format.specs.Format.{Means}
use Rattle.pg_format.specs.Messages.{Execute, execute}
use Rattle.pg_c.specs.Place.{part}
use Rattle.pg_c.specs.declared.client.execute.PgmsgExecute.{PgmsgExecute}

-- the body means an Execute, and this is it
pub record ReadsExecute (body : List ℕ) (read : PgmsgExecute) : Type 0 where
  pub value : Execute
  pub means : Means execute body value
  pub portal : part body read.portal ≡ Some value.portal
  pub max_rows : read.max_rows ≡ value.limit
