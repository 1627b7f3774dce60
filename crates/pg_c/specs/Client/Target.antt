-- A Describe or a Close as a C program reads it.
use Rattle.std.specs.Prelude.{◌≡◌, ℕ, List, Some}
use Rattle.pg_format.specs.Format.{Means}
use Rattle.pg_format.specs.Messages.{Targeted, targeted, target_letter}
use Rattle.pg_c.specs.Place.{part}
use Rattle.pg_c.specs.declared.client.target.PgmsgTarget.{PgmsgTarget}

-- the body names a statement or a portal, and this is it
pub record ReadsTarget (body : List ℕ) (read : PgmsgTarget) : Type 0 where
  pub value : Targeted
  pub means : Means targeted body value
  pub letter : read.letter ≡ target_letter value.target
  pub name : part body read.name ≡ Some value.name
