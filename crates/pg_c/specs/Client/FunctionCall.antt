-- What is read of a FunctionCall, and of what stands before its arguments.
use Rattle.std.specs.Prelude.{◌≡◌, ℕ, ℤ, pos, List, length}
use Rattle.pg_format.specs.Format.{Format, Means}
use Rattle.pg_format.specs.Format.Nullable.{value}
use Rattle.pg_format.specs.Format.Parts.{be_u16, be_u32}
use Rattle.pg_format.specs.Format.Sequences.{◌⨾◌}
use Rattle.pg_format.specs.Messages.{FunctionCall, function_call, format_codes}
use Rattle.pg_c.specs.Client.Values.{GivesFrontAfter}
use Rattle.pg_c.specs.Place.{StandAt}
use Rattle.pg_c.specs.Read.{AreGiven}
use Rattle.pg_c.specs.Read.Row.{cell_in}
use Rattle.pg_c.specs.declared.client.function_call.PgmsgFunctionCall.{PgmsgFunctionCall}
use Rattle.pg_c.specs.declared.read.row.PgmsgCell.{PgmsgCell}

-- the function, and the formats of the arguments
abbrev pub call_front : Format (ℕ × List ℕ)
call_front = be_u32 ⨾ format_codes

-- the body means a FunctionCall of as many arguments as the result, and this is it
pub record ReadsCall (body : List ℕ) (read : PgmsgFunctionCall) (old new : List PgmsgCell) (result : ℤ) : Type 0 where
  pub message : FunctionCall
  pub means : Means function_call body message
  pub function : read.function ≡ message.object_id
  pub formats : StandAt be_u16 body read.formats message.formats
  pub arguments : StandAt value body read.arguments message.arguments
  pub result_format : read.result_format ≡ message.result_format
  pub count : result ≡ pos (length message.arguments)
  pub given : AreGiven (cell_in body) message.arguments old new

-- the same by the count of the arguments that were found
abbrev pub CountsCall : List ℕ → List PgmsgCell → List PgmsgCell → PgmsgFunctionCall → Type 0
CountsCall body old new read = ReadsCall body read old new (pos read.arguments.count)

-- the front of the arguments is given, where the body is refused
abbrev pub GivesFrontArguments : List ℕ → List PgmsgCell → List PgmsgCell → Type 0
GivesFrontArguments body old new = GivesFrontAfter call_front body old new
