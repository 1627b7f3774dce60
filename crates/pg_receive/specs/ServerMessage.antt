-- What decoding a message by its kind answers, and what borrowing one does.
use Rattle.std.specs.Prelude.{◌≡◌, ℕ, List, Result, Ok, Err, IfOk, IfErr, IsOkAnd, MatchResult}
use Rattle.std.specs.Borrow.{Bor}
use Rattle.pg_base.specs.declared.error.Error.{Error}
use Rattle.pg_base.specs.declared.error.ProtocolFault.{ProtocolFault}
use Rattle.pg_base.specs.declared.format.BackendMessageFormat.{BackendMessageFormat}
use Rattle.pg_base.specs.declared.format.BackendMessageFormat.TheVariants as formats
use Rattle.pg_format.specs.Format.{Format, ReadsAs}
use Rattle.pg_format.specs.Items.{Reading, IsCountFault, Begins}
use Rattle.pg_format.specs.Messages as page
use Rattle.pg_format.specs.Received.Message.{DecodesMessage}
use Rattle.pg_format.specs.declared.received.BackendMessage.{Ghosts}
use Rattle.pg_format.specs.declared.received.ReceivedMessage.{ReceivedMessage}
use Rattle.pg_receive.specs.BackendKeyData.{key_shown}
use Rattle.pg_receive.specs.Notification.{notification_borrowed}
use Rattle.pg_receive.specs.ParameterStatus.{setting_borrowed}
use Rattle.pg_receive.specs.ReadyForQuery.{ready_shown}
use Rattle.pg_receive.specs.Response.Fields.{fields_in}
use Rattle.pg_receive.specs.declared.message.server_message.ServerMessage.{ServerMessage}
use Rattle.pg_receive.specs.declared.message.server_message.ServerMessage.TheVariants as messages
use Rattle.pg_receive.specs.declared.message.server_message.ServerMessageRef.{ServerMessageRef}
use Rattle.pg_receive.specs.declared.message.server_message.ServerMessageRef.TheVariants as borrowed
use Rattle.pg_receive.specs.contracts.message.authentication.AuthenticationBackendMessage.TheImpl as authentication
use Rattle.pg_receive.specs.contracts.message.backend_key_data.BackendKeyDataBackendMessage.TheImpl as backend_key_data
use Rattle.pg_receive.specs.contracts.message.command_complete.CommandCompleteBackendMessage.TheImpl as command_complete
use Rattle.pg_format.specs.contracts.copy.CopyDataBytesBackendMessage.TheImpl as copy_data
use Rattle.pg_format.specs.contracts.copy.CopyDoneBackendMessage.TheImpl as copy_done
use Rattle.pg_receive.specs.contracts.message.copy.CopyInResponseBackendMessage.TheImpl as copy_in_response
use Rattle.pg_receive.specs.contracts.message.copy.CopyOutResponseBackendMessage.TheImpl as copy_out_response
use Rattle.pg_receive.specs.contracts.message.data_row.DataRowBackendMessage.TheImpl as data_row
use Rattle.pg_receive.specs.contracts.database_error.PgDatabaseErrorBackendMessage.TheImpl as error_response
use Rattle.pg_receive.specs.contracts.message.response.NoticeBackendMessage.TheImpl as notice_response
use Rattle.pg_receive.specs.contracts.message.notification.NotificationBackendMessage.TheImpl as notification_response
use Rattle.pg_receive.specs.contracts.message.parameter_description.ParameterDescriptionBackendMessage.TheImpl as parameter_description
use Rattle.pg_receive.specs.contracts.message.parameter_status.ParameterStatusBackendMessage.TheImpl as parameter_status
use Rattle.pg_receive.specs.contracts.message.ready_for_query.ReadyForQueryBackendMessage.TheImpl as ready_for_query
use Rattle.pg_receive.specs.contracts.message.row_description.RowDescriptionBackendMessage.TheImpl as row_description

-- the message decodes as the type does, and its value gives the result
pub record DecodesBy {A : Type 0} {B : Type 0} (law : Ghosts A) (Gives : A → B → Type 0) (message : ReceivedMessage) (result : Result B Error) : Type 0 where
  pub answer : Result A Error
  pub decodes : DecodesMessage law message answer
  pub is : MatchResult answer (λ value. IsOkAnd result (Gives value)) (λ error. result ≡ Err error)

-- the message decodes as the type does, and what is given for its value, wrapped as a message of any kind, is the result
abbrev pub DecodesCase : {A B : Type 0} → Ghosts A → (A → ServerMessage → Type 0) → (ServerMessage → B → Type 0) → ReceivedMessage → Result B Error → Type 0
DecodesCase law Wraps Gives message result =
    DecodesBy law (λ value given. (decoded : ServerMessage) × Wraps value decoded × Gives decoded given) message result

-- the message decodes as the type of its kind does, and what is given for its value in that kind's case is the result
abbrev pub Decodes : {B : Type 0} → BackendMessageFormat → (ServerMessage → B → Type 0) → ReceivedMessage → Result B Error → Type 0
Decodes formats.Authentication Gives message result = DecodesBy authentication.ghosts (λ value. Gives (messages.Authentication value)) message result
Decodes formats.BackendKeyData Gives message result = DecodesBy backend_key_data.ghosts (λ value. Gives (messages.BackendKeyData value)) message result
Decodes formats.BindComplete Gives message result = IsOkAnd result (Gives messages.BindComplete)
Decodes formats.CloseComplete Gives message result = IsOkAnd result (Gives messages.CloseComplete)
Decodes formats.CommandComplete Gives message result = DecodesBy command_complete.ghosts (λ value. Gives (messages.CommandComplete value)) message result
Decodes formats.CopyData Gives message result = DecodesBy copy_data.ghosts (λ value. Gives (messages.CopyData value)) message result
Decodes formats.CopyDone Gives message result = DecodesBy copy_done.ghosts (λ value. Gives (messages.CopyDone value)) message result
Decodes formats.CopyInResponse Gives message result = DecodesBy copy_in_response.ghosts (λ value. Gives (messages.CopyInResponse value)) message result
Decodes formats.CopyOutResponse Gives message result = DecodesBy copy_out_response.ghosts (λ value. Gives (messages.CopyOutResponse value)) message result
Decodes formats.DataRow Gives message result = DecodesBy data_row.ghosts (λ value. Gives (messages.DataRow value)) message result
Decodes formats.EmptyQueryResponse Gives message result = IsOkAnd result (Gives messages.EmptyQueryResponse)
Decodes formats.ErrorResponse Gives message result = DecodesBy error_response.ghosts (λ value. Gives (messages.ErrorResponse value)) message result
Decodes formats.NoData Gives message result = IsOkAnd result (Gives messages.NoData)
Decodes formats.NoticeResponse Gives message result = DecodesBy notice_response.ghosts (λ value. Gives (messages.NoticeResponse value)) message result
Decodes formats.NotificationResponse Gives message result = DecodesBy notification_response.ghosts (λ value. Gives (messages.NotificationResponse value)) message result
Decodes formats.ParameterDescription Gives message result = DecodesBy parameter_description.ghosts (λ value. Gives (messages.ParameterDescription value)) message result
Decodes formats.ParameterStatus Gives message result = DecodesBy parameter_status.ghosts (λ value. Gives (messages.ParameterStatus value)) message result
Decodes formats.ParseComplete Gives message result = IsOkAnd result (Gives messages.ParseComplete)
Decodes formats.PortalSuspended Gives message result = IsOkAnd result (Gives messages.PortalSuspended)
Decodes formats.ReadyForQuery Gives message result = DecodesBy ready_for_query.ghosts (λ value. Gives (messages.ReadyForQuery value)) message result
Decodes formats.RowDescription Gives message result = DecodesBy row_description.ghosts (λ value. Gives (messages.RowDescription value)) message result

-- ---- borrowed

abbrev pub Answer : Type 0
Answer = Result ServerMessageRef ProtocolFault

-- the body is read by its format to a value of this case, or has a fault
pub record Reads {A V M : Type 0} (case : A → M) (format : Format V) (shown : A → V) (body : List ℕ) (result : Result M ProtocolFault) : Type 0 where
  pub answer : Result A ProtocolFault
  pub reads : ReadsAs format shown body answer
  pub is : MatchResult answer (λ value. result ≡ Ok (case value)) (λ fault. result ≡ Err fault)

-- the items of the body, of at least so many bytes each, are about to be read, or the body can't hold them
pub record ReadsItems (case : Reading → ServerMessageRef) (least : ℕ) (body : List ℕ) (result : Answer) : Type 0 where
  pub answer : Result Reading ProtocolFault
  pub value : IfOk answer (Begins least body)
  pub fault : IfErr answer (IsCountFault least body)
  pub is : MatchResult answer (λ value. result ≡ Ok (case value)) (λ fault. result ≡ Err fault)

-- the body is given as it is
pub record Gives (case : Bor (List ℕ) → ServerMessageRef) (body : List ℕ) (result : Answer) : Type 0 where
  pub given : Bor (List ℕ)
  pub whole : given.now ≡ body
  pub is : result ≡ Ok (case given)

-- what borrowing a message of this kind from its body answers
abbrev pub Borrows : BackendMessageFormat → List ℕ → Answer → Type 0
Borrows formats.Authentication body result = Gives borrowed.Authentication body result
Borrows formats.BackendKeyData body result = Reads borrowed.BackendKeyData page.backend_key_data key_shown body result
Borrows formats.BindComplete body result = result ≡ Ok borrowed.BindComplete
Borrows formats.CloseComplete body result = result ≡ Ok borrowed.CloseComplete
Borrows formats.CommandComplete body result = Gives borrowed.CommandComplete body result
Borrows formats.CopyData body result = Gives borrowed.CopyData body result
Borrows formats.CopyDone body result = result ≡ Ok borrowed.CopyDone
Borrows formats.CopyInResponse body result = Gives borrowed.CopyInResponse body result
Borrows formats.CopyOutResponse body result = Gives borrowed.CopyOutResponse body result
Borrows formats.DataRow body result = ReadsItems borrowed.DataRow 4 body result
Borrows formats.EmptyQueryResponse body result = result ≡ Ok borrowed.EmptyQueryResponse
Borrows formats.ErrorResponse body result = result ≡ Ok (borrowed.ErrorResponse (fields_in body))
Borrows formats.NoData body result = result ≡ Ok borrowed.NoData
Borrows formats.NoticeResponse body result = result ≡ Ok (borrowed.NoticeResponse (fields_in body))
Borrows formats.NotificationResponse body result = Reads borrowed.NotificationResponse page.notification notification_borrowed body result
Borrows formats.ParameterDescription body result = Gives borrowed.ParameterDescription body result
Borrows formats.ParameterStatus body result = Reads borrowed.ParameterStatus page.parameter_status setting_borrowed body result
Borrows formats.ParseComplete body result = result ≡ Ok borrowed.ParseComplete
Borrows formats.PortalSuspended body result = result ≡ Ok borrowed.PortalSuspended
Borrows formats.ReadyForQuery body result = Reads borrowed.ReadyForQuery page.ready_for_query ready_shown body result
Borrows formats.RowDescription body result = ReadsItems borrowed.RowDescription 19 body result
