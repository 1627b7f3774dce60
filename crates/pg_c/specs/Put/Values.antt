-- Values as a C program passes them, and the messages that have them.
use Rattle.std.specs.Prelude.{ℕ, List, Option, Some, None, map, if◌then◌else◌, ◌≡◌, ◌≢◌, ℤ}
use Rattle.pg_format.specs.Messages as page
use Rattle.pg_c.specs.declared.put.prepared.PgmsgValue.{PgmsgValue}
use Rattle.pg_send.specs.Message as message
use Rattle.pg_send.specs.Message.{Message}
use Rattle.pg_c.specs.Put.{PutsMessage, IsRefusedBy}
use Rattle.pg_c.specs.Refusal.{unknown_target_number}

-- NULL, or a value
abbrev pub value_of : PgmsgValue → Option (List ℕ)
value_of value = if value.is_null then None else Some value.bytes.now

abbrev pub bind_of : List ℕ → List ℕ → List ℕ → List PgmsgValue → List ℕ → page.Bind
bind_of portal statement formats values result_formats = record {
  portal = portal;
  statement = statement;
  formats = formats;
  values = map value_of values;
  result_formats = result_formats;
}

abbrev pub function_call_of : ℕ → List ℕ → List PgmsgValue → ℕ → page.FunctionCall
function_call_of object_id formats arguments result_format = record { object_id = object_id; formats = formats; arguments = map value_of arguments; result_format = result_format }

abbrev pub parse_of : List ℕ → List ℕ → List ℕ → Message
parse_of statement query types = message.RawParse (record { statement = statement; query = query; types = types })

abbrev pub execute_of : List ℕ → ℕ → Message
execute_of portal limit = message.RawExecute (record { portal = portal; limit = limit })

-- a Bind of what the caller passes is put
abbrev pub PutsBind : List ℕ → List ℕ → List ℕ → List PgmsgValue → List ℕ → List ℕ → List ℕ → ℤ → Type 0
PutsBind portal statement formats values result_formats old new result =
    PutsMessage (message.RawBind (bind_of portal statement formats values result_formats)) old new result

-- a FunctionCall of what the caller passes is put
abbrev pub PutsCall : ℕ → List ℕ → List PgmsgValue → ℕ → List ℕ → List ℕ → ℤ → Type 0
PutsCall object_id formats arguments result_format old new result =
    PutsMessage (message.FunctionCall (function_call_of object_id formats arguments result_format)) old new result

-- the message of a statement or of a portal is put, as the letter says; another letter is refused
pub record PutsTargeted (message_of : page.Targeted → Message) (letter : ℕ) (name old new : List ℕ) (result : ℤ) : Type 0 where
  pub statement : letter ≡ page.target_letter page.statement → PutsMessage (message_of (record { target = page.statement; name = name })) old new result
  pub portal : letter ≡ page.target_letter page.portal → PutsMessage (message_of (record { target = page.portal; name = name })) old new result
  pub neither : letter ≢ page.target_letter page.statement → letter ≢ page.target_letter page.portal → IsRefusedBy unknown_target_number old new result
