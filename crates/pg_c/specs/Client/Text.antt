-- A message that is one text, as a C program reads it.
use Rattle.std.specs.Prelude.{◌≡◌, ℕ, List, Some}
use Rattle.pg_format.specs.Format.{Means}
use Rattle.pg_format.specs.Messages as page
use Rattle.pg_c.specs.Place.{part}
use Rattle.pg_c.specs.declared.place.PgmsgSpan.{PgmsgSpan}

-- the body means a text, and this is it
pub record ReadsText (body : List ℕ) (text : PgmsgSpan) : Type 0 where
  pub value : List ℕ
  pub means : Means page.text body value
  pub place : part body text ≡ Some value
