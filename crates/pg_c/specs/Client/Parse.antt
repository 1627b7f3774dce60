-- A Parse as a C program reads it.
use Rattle.std.specs.Prelude.{◌≡◌, ℕ, List, Some}
use Rattle.pg_format.specs.Format.{Means}
use Rattle.pg_format.specs.Format.Parts.{be_u32}
use Rattle.pg_format.specs.Messages.{Parse, parse}
use Rattle.pg_c.specs.Place.{StandAt, part}
use Rattle.pg_c.specs.declared.client.parse.PgmsgParse.{PgmsgParse}

-- the body means a Parse, and this is it
pub record ReadsParse (body : List ℕ) (read : PgmsgParse) : Type 0 where
  pub value : Parse
  pub means : Means parse body value
  pub statement : part body read.statement ≡ Some value.statement
  pub query : part body read.query ≡ Some value.query
  pub types : StandAt be_u32 body read.types value.types
