-- What is decoded of a message that was written.
use Rattle.std.specs.Prelude.{◌≡◌, ◌↔◌, Bool, List, length, Result}
use Rattle.pg_base.specs.Format.{backend_tag}
use Rattle.pg_base.specs.Numbers.{num}
use Rattle.pg_base.specs.Ended.{ended}
use Rattle.pg_base.specs.declared.error.Error.{Error}
use Rattle.pg_format.specs.Format.{Format, Means}
use Rattle.pg_format.specs.Messages as page
use Rattle.pg_format.specs.Notices.{Field, read_part}
use Rattle.pg_format.specs.Replication.{XLogData, replication}
use Rattle.pg_format.specs.declared.replication.ReplicationKind.TheVariants as contents
use Rattle.pg_receive.specs.Authentication.{value_of}
use Rattle.pg_receive.specs.Authentication.Any.{any_value_of, any_requests}
use Rattle.pg_receive.specs.CommandComplete.{tag_text}
use Rattle.pg_receive.specs.ParameterStatus.{raw_parameter_status}
use Rattle.pg_receive.specs.RowDescription.Raw.{raw_row_description}
use Rattle.pg_receive.specs.contracts.message.authentication.AuthenticationBackendMessage.TheImpl as authentication
use Rattle.pg_receive.specs.contracts.message.backend_key_data.BackendKeyDataBackendMessage.TheImpl as backend_key_data
use Rattle.pg_receive.specs.contracts.message.command_complete.CommandCompleteBackendMessage.TheImpl as command_complete
use Rattle.pg_receive.specs.contracts.message.copy.CopyInResponseBackendMessage.TheImpl as copy_in_response
use Rattle.pg_receive.specs.contracts.message.copy.CopyOutResponseBackendMessage.TheImpl as copy_out_response
use Rattle.pg_receive.specs.contracts.message.data_row.DataRowBackendMessage.TheImpl as data_row
use Rattle.pg_receive.specs.contracts.message.notification.NotificationBackendMessage.TheImpl as notification
use Rattle.pg_receive.specs.contracts.message.parameter_description.ParameterDescriptionBackendMessage.TheImpl as parameter_description
use Rattle.pg_receive.specs.contracts.message.parameter_status.ParameterStatusBackendMessage.TheImpl as parameter_status
use Rattle.pg_receive.specs.contracts.message.ready_for_query.ReadyForQueryBackendMessage.TheImpl as ready_for_query
use Rattle.pg_receive.specs.contracts.message.row_description.RowDescriptionBackendMessage.TheImpl as row_description
use Rattle.pg_receive.specs.contracts.database_error.PgDatabaseErrorBackendMessage.TheImpl as error_response
use Rattle.pg_format.specs.contracts.copy.CopyDataBytesBackendMessage.TheImpl as copy_data
use Rattle.pg_format.specs.contracts.copy.CopyDoneBackendMessage.TheImpl as copy_done
use Rattle.pg_receive.specs.contracts.message.response.NoticeBackendMessage.TheImpl as notice_response
use Rattle.pg_format.specs.Received.{IsValue}
use Rattle.pg_format.specs.Received.Message.{DecodesMessage}
use Rattle.pg_receive.specs.Response.{NoticeValue, notice_of}
use Rattle.pg_receive.specs.Response.Fields.{fields_in}
use Rattle.pg_format.specs.declared.received.BackendMessage.{Ghosts}
use Rattle.pg_format.specs.declared.received.ReceivedMessage.{ReceivedMessage}
use Rattle.pg_replication.specs.Logical.{LogicalAnswer, ReadsLogical}
use Rattle.pg_replication.specs.Logical.Encode.{IsNumbered, IsSaid}
use Rattle.pg_replication.specs.contracts.logical.xlog_message.XLogMessageOutboundMessage.TheImpl as xlog_message
use Rattle.pg_replication.specs.declared.logical.xlog_message.XLogMessage.{XLogMessage}
use Rattle.pg_server.specs.Backend.Copy.{response_of}
use Rattle.pg_server.specs.Backend.Message as message
use Rattle.pg_server.specs.Backend.Message.{Message, tag, body}
use Rattle.pg_server.specs.Backend.ReadyForQuery.{status_of}
use Rattle.pg_server.specs.declared.backend.copy.CopyDirection.{CopyDirection}
use Rattle.pg_server.specs.declared.backend.copy.CopyDirection.TheVariants as directions
use Rattle.pg_server.specs.declared.backend.no_body.OutboundNoBody.{OutboundNoBody}
use Rattle.pg_server.specs.declared.backend.no_body.OutboundNoBody.TheVariants as bare
use Rattle.pg_server.specs.declared.backend.notice.NoticeKind.{NoticeKind}
use Rattle.pg_server.specs.declared.backend.notice.NoticeKind.TheVariants as kinds

-- it has the tag of the type's kind, and what decodes its body as that type gives this value, unless memory ran out
pub record IsDecoded {A : Type 0} (type : Ghosts A) (value : type.Shown) (m : Message) : Type 0 where
  pub tagged : backend_tag type.FORMAT ≡ tag m
  pub gives : (received : ReceivedMessage) (result : Result A Error) → received.format ≡ type.FORMAT → received.contents ≡ body m → DecodesMessage type received result → IsValue type.shown value result

-- all of its fields, and what is read of them
abbrev pub noticed : List Field → NoticeValue
noticed fields = notice_of fields (read_part fields)

-- a key of four bytes is a number
abbrev pub numbered : page.Cancel → page.BackendKey
numbered key = record { process_id = key.process_id; secret_key = num key.secret_key }

abbrev pub IsCopyDecoded : CopyDirection → page.CopyResponse → Message → Type 0
IsCopyDecoded directions.In response m = IsDecoded copy_in_response.ghosts response m
IsCopyDecoded directions.Out response m = IsDecoded copy_out_response.ghosts response m
IsCopyDecoded directions.Both response m = Unit {0}

abbrev pub IsBareDecoded : OutboundNoBody → Message → Type 0
IsBareDecoded bare.CopyDone m = IsDecoded copy_done.ghosts tt m
IsBareDecoded other m = Unit {0}

abbrev pub IsNoticeDecoded : NoticeKind → NoticeValue → Message → Type 0
IsNoticeDecoded kinds.Error notice m = IsDecoded error_response.ghosts notice m
IsNoticeDecoded kinds.Notice notice m = IsDecoded notice_response.ghosts notice m

-- what it says, by the type of its kind; of other kinds nothing is decoded
abbrev pub IsDecodedBack : Message → Type 0
IsDecodedBack (message.Authentication (page.known_method request)) = IsDecoded authentication.ghosts (value_of request) (message.Authentication (page.known_method request))
IsDecodedBack (message.BackendKeyData key) = length key.secret_key ≡ 4 → IsDecoded backend_key_data.ghosts (numbered key) (message.BackendKeyData key)
IsDecodedBack (message.CommandComplete command) = IsDecoded command_complete.ghosts (ended command) (message.CommandComplete command)
IsDecodedBack (message.CopyData bytes) = IsDecoded copy_data.ghosts bytes (message.CopyData bytes)
IsDecodedBack (message.CopyResponse direction format codes) = IsCopyDecoded direction (response_of format codes) (message.CopyResponse direction format codes)
IsDecodedBack (message.DataRow cells) = IsDecoded data_row.ghosts cells (message.DataRow cells)
IsDecodedBack (message.NoBody kind) = IsBareDecoded kind (message.NoBody kind)
IsDecodedBack (message.Notice kind fields) = IsNoticeDecoded kind (noticed fields) (message.Notice kind fields)
IsDecodedBack (message.Notification n) = IsDecoded notification.ghosts n (message.Notification n)
IsDecodedBack (message.ParameterDescription types) = IsDecoded parameter_description.ghosts types (message.ParameterDescription types)
IsDecodedBack (message.ParameterStatus setting) = IsDecoded parameter_status.ghosts setting (message.ParameterStatus setting)
IsDecodedBack (message.ReadyForQuery ready) = IsDecoded ready_for_query.ghosts (status_of ready) (message.ReadyForQuery ready)
IsDecodedBack (message.RowDescription columns) = IsDecoded row_description.ghosts columns (message.RowDescription columns)
IsDecodedBack other = Unit {0}

-- ---- texts in any encoding, and what has a fault of its own

-- this body means this value, and no other
abbrev pub IsMeant : {V : Type 0} → Format V → V → Message → Type 0
IsMeant {V} line value m = (read : V) → Means line (body m) read ↔ (read ≡ value)

-- what a reader of requests for authentication by any method reads
abbrev pub IsAskedBack : Message → Type 0
IsAskedBack (message.Authentication request) = IsMeant any_requests (any_value_of request) (message.Authentication request)
IsAskedBack other = Unit {0}

-- what it says, where its reader asks for no UTF-8 and tests nothing
abbrev pub IsReadRaw : Message → Type 0
IsReadRaw (message.BackendKeyData key) = IsMeant page.backend_key key (message.BackendKeyData key)
IsReadRaw (message.CommandComplete command) = IsMeant tag_text command (message.CommandComplete command)
IsReadRaw (message.Notice kind fields) = fields_in (body (message.Notice kind fields)) ≡ fields
IsReadRaw (message.ParameterStatus setting) = IsMeant raw_parameter_status setting (message.ParameterStatus setting)
IsReadRaw (message.RowDescription columns) = IsMeant raw_row_description columns (message.RowDescription columns)
IsReadRaw other = Unit {0}

-- ---- a message of logical replication

-- the message to a client that it is written as
abbrev pub streamed : XLogMessage → Message
streamed it = xlog_message.ghosts.message it

-- whatever piece of the log its body means, the content of that piece is read as the message, and as no other
abbrev pub IsReadInPiece : XLogMessage → Type 0
IsReadInPiece it =
    (is_streamed : Bool) (piece : XLogData) (answer : LogicalAnswer) → IsNumbered is_streamed it.message → Means (replication contents.XLogData) (body (streamed it)) piece
    → ReadsLogical is_streamed piece.content answer → IsSaid it.message answer
