-- What is read of a Bind, and of what stands before its values.
use Rattle.std.specs.Prelude.{◌≡◌, ℕ, ℤ, pos, List, Some, length}
use Rattle.pg_format.specs.Format.{Format, Means}
use Rattle.pg_format.specs.Format.Nullable.{value}
use Rattle.pg_format.specs.Format.Parts.{until_nul, be_u16}
use Rattle.pg_format.specs.Format.Sequences.{◌⨾◌}
use Rattle.pg_format.specs.Messages.{Bind, bind, format_codes}
use Rattle.pg_c.specs.Client.Values.{GivesFrontAfter}
use Rattle.pg_c.specs.Place.{StandAt, part}
use Rattle.pg_c.specs.Read.{AreGiven}
use Rattle.pg_c.specs.Read.Row.{cell_in}
use Rattle.pg_c.specs.declared.client.bind.PgmsgBind.{PgmsgBind}
use Rattle.pg_c.specs.declared.read.row.PgmsgCell.{PgmsgCell}

-- two names, and the formats of the values
abbrev pub bind_front : Format (List ℕ × (List ℕ × List ℕ))
bind_front = until_nul ⨾ until_nul ⨾ format_codes

-- the body means a Bind of as many values as the result, and this is it
pub record ReadsBind (body : List ℕ) (read : PgmsgBind) (old new : List PgmsgCell) (result : ℤ) : Type 0 where
  pub message : Bind
  pub means : Means bind body message
  pub portal : part body read.portal ≡ Some message.portal
  pub statement : part body read.statement ≡ Some message.statement
  pub formats : StandAt be_u16 body read.formats message.formats
  pub values : StandAt value body read.values message.values
  pub result_formats : StandAt be_u16 body read.result_formats message.result_formats
  pub count : result ≡ pos (length message.values)
  pub given : AreGiven (cell_in body) message.values old new

-- the same by the count of the values that were found
abbrev pub CountsBind : List ℕ → List PgmsgCell → List PgmsgCell → PgmsgBind → Type 0
CountsBind body old new read = ReadsBind body read old new (pos read.values.count)

-- the front of the values is given, where the body is refused
abbrev pub GivesFrontValues : List ℕ → List PgmsgCell → List PgmsgCell → Type 0
GivesFrontValues body old new = GivesFrontAfter bind_front body old new
