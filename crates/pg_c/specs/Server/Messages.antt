-- Messages to a client, from what a C program passes.
use Rattle.std.specs.Prelude.{ℕ, ℤ, List, Bool, Some, None, map, if◌then◌else◌}
use Rattle.pg_server.specs.Backend.Message as messages
use Rattle.pg_server.specs.Backend.Message.{Message}
use Rattle.pg_server.specs.declared.backend.copy.CopyDirection.{CopyDirection}
use Rattle.pg_server.specs.declared.backend.notice.NoticeKind.{NoticeKind}
use Rattle.pg_c.specs.Put.Values.{value_of}
use Rattle.pg_c.specs.Server.{PutsServerMessage}
use Rattle.pg_c.specs.Server.Lists.{bytes_of, field_of, column_of}
use Rattle.pg_c.specs.declared.put.prepared.PgmsgValue.{PgmsgValue}
use Rattle.pg_c.specs.declared.server.authentication.PgmsgBytes.{PgmsgBytes}
use Rattle.pg_c.specs.declared.server.notices.PgmsgFieldText.{PgmsgFieldText}
use Rattle.pg_c.specs.declared.server.rows.PgmsgColumnText.{PgmsgColumnText}

-- a request for SASL by one of these mechanisms
abbrev pub sasl_offer_of : List PgmsgBytes → Message
sasl_offer_of mechanisms = messages.sasl_offer_of (map bytes_of mechanisms)

abbrev pub negotiation_of : ℕ → List PgmsgBytes → Message
negotiation_of minor options = messages.negotiation_of minor (map bytes_of options)

-- a notification is put, or refused for its fault
abbrev pub PutsNotification : ℕ → List ℕ → List ℕ → List ℕ → List ℕ → ℤ → Type 0
PutsNotification process_id channel payload old new result = PutsServerMessage (messages.notification_of process_id channel payload) old new result

-- an error or a notice of these fields
abbrev pub notice_of_kind : List PgmsgFieldText → NoticeKind → Message
notice_of_kind fields kind = messages.Notice kind (map field_of fields)

-- the columns of a result
abbrev pub row_description_of : List PgmsgColumnText → Message
row_description_of columns = messages.RowDescription (map column_of columns)

-- the values of a row
abbrev pub data_row_of : List PgmsgValue → Message
data_row_of values = messages.DataRow (map value_of values)

-- where the data of a COPY goes, and how it is spelled
abbrev pub copy_answer_of : ℤ → List ℤ → CopyDirection → Message
copy_answer_of format codes direction = messages.CopyResponse direction format codes

abbrev pub result_of : Bool → List ℕ → Message
result_of is_null value = messages.FunctionCallResponse (if is_null then None else Some value)
