-- Every message of both directions, in the order of the documentation's "Message Formats": (B) is sent by
-- the server, (F) by the client. A format is of the body, which follows the tag and the length.
use Rattle.std.specs.Prelude.{◌≢◌, ℕ, ◌+◌, ◌-◌, ◌*◌, ◌==◌, ◌&&◌, ℤ, pos, negsuc, Bool, List, [], ◌∷◌, length, Option, Some, None, IsUtf8, nat_le, nat_lt, if◌then◌else◌}
use Rattle.pg_base.specs.declared.format.BackendMessageFormat.{BackendMessageFormat}
use Rattle.pg_base.specs.declared.format.BackendMessageFormat.TheVariants as backend
use Rattle.pg_base.specs.declared.format.FrontendMessageFormat.{FrontendMessageFormat}
use Rattle.pg_base.specs.declared.format.FrontendMessageFormat.TheVariants as frontend
use Rattle.pg_base.specs.declared.error.ProtocolFault.{ProtocolFault}
use Rattle.pg_base.specs.declared.error.ProtocolFault.TheVariants.{UnknownStatus, UnknownLetter, UnknownAuthentication, BadKeyLength, UnknownCode}
use Rattle.pg_format.specs.Format.{Format}
use Rattle.pg_format.specs.Format.Parts.{until_nul, be_u8, be_u16, be_u32, be_i8, be_i16, be_i32, bytes_of, remaining, one_of, success, fail}
use Rattle.pg_format.specs.Format.Sequences.{dep_pair, ◌⨾◌, record_of, mapped, case_of, choose}
use Rattle.pg_format.specs.Format.Tests.{utf8, checked, only, with_room}
use Rattle.pg_format.specs.Format.Ends.{exactly, loosely}
use Rattle.pg_format.specs.Format.Lists.{times, counted, counted_least, counted_long, until_zero, many}
use Rattle.pg_format.specs.Format.Nullable.{cell, value}
use Rattle.pg_format.specs.Notices.{Field, notice_fault}
pub use Rattle.pg_format.specs.Tables.{Authentication, ok, cleartext_password, md5_password, sasl, sasl_continue, sasl_final, method_number, salt_of, mechanisms_of, continued, finished}
pub use Rattle.pg_format.specs.Tables.{is_asked_by, AnyAuthentication, known_method, kerberos_v5, scm_credential, gss, gss_continue, sspi, other_method, any_method_number, known_of, gss_continued, content_of}
pub use Rattle.pg_format.specs.Tables.{Target, statement, portal, target_of, target_letter, Status, idle, transaction, error, status_of, status_letter, table, table_number, attribute, attribute_number}
use Rattle.pg_format.specs.Sasl.{first_message_fault, final_message_fault}

-- AuthenticationOk (B) and the requests after it: mechanisms are names up to the first that is empty or no text
abbrev pub mechanism_names : Format (List (List ℕ))
mechanism_names = many (0 ∷ []) (only (λ name. (name ≢ []) × IsUtf8 name) until_nul)

abbrev pub asked_by : ℕ → Format Authentication
asked_by method =
    choose (method == 0) (success ok)
    (choose (method == 3) (success cleartext_password)
    (choose (method == 5) (case_of md5_password salt_of (bytes_of 4))
    (choose (method == 10) (case_of sasl mechanisms_of mechanism_names)
    (choose (method == 11) (case_of sasl_continue continued (checked first_message_fault remaining))
    (choose (method == 12) (case_of sasl_final finished (checked final_message_fault remaining))
    (fail (UnknownAuthentication method)))))))

abbrev pub with_method : Authentication → ℕ × Authentication
with_method request = (method_number request, request)

abbrev pub authentication : Format Authentication
authentication = loosely (mapped (λ v. v.1) with_method (dep_pair be_u32 asked_by))

-- AuthenticationKerberosV5 (B), AuthenticationSCMCredential (B), AuthenticationGSS (B), AuthenticationGSSContinue (B) and
-- AuthenticationSSPI (B), beside those above; and any other method, with what follows its number
abbrev pub asked_by_any : ℕ → Format AnyAuthentication
asked_by_any method =
    choose (method == 2) (success kerberos_v5)
    (choose (method == 6) (success scm_credential)
    (choose (method == 7) (success gss)
    (choose (method == 8) (case_of gss_continue gss_continued remaining)
    (choose (method == 9) (success sspi)
    (choose (is_asked_by method) (case_of known_method known_of (asked_by method))
    (case_of (other_method method) content_of remaining))))))

abbrev pub with_any_method : AnyAuthentication → ℕ × AnyAuthentication
with_any_method request = (any_method_number request, request)

abbrev pub any_authentication : Format AnyAuthentication
any_authentication = loosely (mapped (λ v. v.1) with_any_method (dep_pair be_u32 asked_by_any))

-- BackendKeyData (B)
pub record BackendKey : Type 0 where
  pub process_id : ℕ
  pub secret_key : ℕ

abbrev pub backend_key_data : Format BackendKey
backend_key_data = loosely (record_of (λ k. (k.process_id, k.secret_key)) (be_u32 ⨾ be_u32))

-- a session and its key, as a request to cancel names them
pub record Cancel : Type 0 where
  pub process_id : ℕ
  pub secret_key : List ℕ

-- a key has 4 bytes, or up to 256 of a server that speaks protocol 3.2
abbrev pub key_fault : ℕ → Option ProtocolFault
key_fault length = if nat_le 4 length && nat_le length 256 then None else Some (BadKeyLength length)

-- BackendKeyData (B) of a server that speaks protocol 3.2: all that follows the process is the key
abbrev pub backend_key : Format Cancel
backend_key = record_of (λ c. (c.process_id, c.secret_key)) (be_u32 ⨾ checked (λ key. key_fault (length key)) remaining)

-- Bind (F): a format code for all values, for each, or none for text
pub record Bind : Type 0 where
  pub portal : List ℕ
  pub statement : List ℕ
  pub formats : List ℕ
  pub values : List (Option (List ℕ))
  pub result_formats : List ℕ

abbrev pub format_codes : Format (List ℕ)
format_codes = counted_least 2 be_u16

abbrev pub bind : Format Bind
bind = exactly (record_of (λ b. (b.portal, (b.statement, (b.formats, (b.values, b.result_formats))))) (until_nul ⨾ until_nul ⨾ format_codes ⨾ counted value ⨾ format_codes))

-- BindComplete (B), CloseComplete (B), CopyDone (B), EmptyQueryResponse (B), NoData (B), ParseComplete (B)
-- and PortalSuspended (B): a body is ignored
abbrev pub no_body : Format (Unit {0})
no_body = loosely (success tt)

-- CopyDone (F), Flush (F), Sync (F) and Terminate (F)
abbrev pub empty : Format (Unit {0})
empty = exactly (success tt)

-- CancelRequest (F), after its code: a session, and all that follows is its key
abbrev pub cancel_request : Format Cancel
cancel_request = backend_key

-- Close (F) and Describe (F)
pub record Targeted : Type 0 where
  pub target : Target
  pub name : List ℕ

abbrev pub targeted : Format Targeted
targeted = exactly (record_of (λ t. (t.target, t.name)) (one_of target_of target_letter UnknownLetter ⨾ until_nul))

-- CommandComplete (B): the tag of the command, here with the NUL that ends it
abbrev pub command_complete : Format (List ℕ)
command_complete = remaining

-- CopyData (F & B)
abbrev pub copy_data : Format (List ℕ)
copy_data = remaining

-- CopyInResponse (B), CopyOutResponse (B) and CopyBothResponse (B): the format of the whole, and one for each column
pub record CopyResponse : Type 0 where
  pub format : ℤ
  pub num_columns : ℤ
  pub format_codes : List ℤ

-- a count below 0 is of no column
abbrev pub columns_of : ℤ → ℕ
columns_of (pos n) = n
columns_of (negsuc n) = 0

abbrev pub column_codes : ℤ → Format (List ℤ)
column_codes count = with_room (2 * columns_of count) (times (columns_of count) be_i16)

abbrev pub copy_response : Format CopyResponse
copy_response = loosely (record_of (λ c. (c.format, (c.num_columns, c.format_codes))) (be_i8 ⨾ dep_pair be_i16 column_codes))

-- DataRow (B)
abbrev pub data_row : Format (List (Option (List ℕ)))
data_row = loosely (counted_least 4 cell)

-- ErrorResponse (B) and NoticeResponse (B): fields up to one whose letter is 0
abbrev pub field : Format Field
field = only (λ f. f.0 ≢ 0) (be_u8 ⨾ until_nul)

abbrev pub notice : Format (List Field)
notice = checked notice_fault (many (0 ∷ []) field)

-- Execute (F): a limit of 0 rows is none
pub record Execute : Type 0 where
  pub portal : List ℕ
  pub limit : ℕ

abbrev pub execute : Format Execute
execute = exactly (record_of (λ e. (e.portal, e.limit)) (until_nul ⨾ be_u32))

-- FunctionCall (F): a format code for all arguments, for each, or none for text
pub record FunctionCall : Type 0 where
  pub object_id : ℕ
  pub formats : List ℕ
  pub arguments : List (Option (List ℕ))
  pub result_format : ℕ

abbrev pub function_call : Format FunctionCall
function_call = exactly (record_of (λ f. (f.object_id, (f.formats, (f.arguments, f.result_format)))) (be_u32 ⨾ format_codes ⨾ counted value ⨾ be_u16))

-- FunctionCallResponse (B)
abbrev pub function_call_response : Format (Option (List ℕ))
function_call_response = loosely cell

-- GSSENCRequest (F), after its code
abbrev pub gss_enc_request : Format (Unit {0})
gss_enc_request = empty

-- GSSResponse (F)
abbrev pub gss_response : Format (List ℕ)
gss_response = remaining

-- NegotiateProtocolVersion (B): the newest version of the server, and the options that it doesn't know. The
-- documentation speaks of the minor version alone, in four bytes. Servers send both halves of the version there, as a
-- Startup has it: one of version 3.0 sends 0, 3, 0, 0.
pub record Negotiation : Type 0 where
  pub major : ℕ
  pub minor : ℕ
  pub options : List (List ℕ)

-- the two halves of a version
abbrev pub version : Format (ℕ × ℕ)
version = with_room 4 (be_u16 ⨾ be_u16)

abbrev pub negotiate_protocol_version : Format Negotiation
negotiate_protocol_version = loosely (record_of (λ n. ((n.major, n.minor), n.options)) (version ⨾ counted_long until_nul))

-- NotificationResponse (B)
pub record Notification : Type 0 where
  pub process_id : ℕ
  pub channel : List ℕ
  pub payload : List ℕ

abbrev pub notification : Format Notification
notification = loosely (record_of (λ n. (n.process_id, (n.channel, n.payload))) (be_u32 ⨾ until_nul ⨾ until_nul))

-- ParameterDescription (B): the ids of types
abbrev pub parameter_description : Format (List ℕ)
parameter_description = loosely (counted_least 4 be_u32)

-- ParameterStatus (B)
pub record Setting : Type 0 where
  pub name : List ℕ
  pub value : List ℕ

abbrev pub parameter_status : Format Setting
parameter_status = loosely (record_of (λ s. (s.name, s.value)) (utf8 ⨾ utf8))

-- Parse (F)
pub record Parse : Type 0 where
  pub statement : List ℕ
  pub query : List ℕ
  pub types : List ℕ

abbrev pub parse : Format Parse
parse = exactly (record_of (λ p. (p.statement, (p.query, p.types))) (until_nul ⨾ until_nul ⨾ counted_least 4 be_u32))

-- CopyFail (F), PasswordMessage (F) and Query (F)
abbrev pub text : Format (List ℕ)
text = exactly until_nul

-- ReadyForQuery (B)
abbrev pub ready_for_query : Format Status
ready_for_query = loosely (one_of status_of status_letter UnknownStatus)

-- RowDescription (B)
pub record Column : Type 0 where
  pub name : List ℕ
  pub relation_id : Option ℕ
  pub relation_attribute_no : Option ℤ
  pub data_type_id : ℕ
  pub data_type_size : ℤ
  pub type_modifier : ℤ
  pub format : ℤ

-- the six numbers of a column, which follow its name
abbrev pub Numbers : Type 0
Numbers = Option ℕ × (Option ℤ × (ℕ × (ℤ × (ℤ × ℤ))))

abbrev pub numbers_of : Column → Numbers
numbers_of c = (c.relation_id, (c.relation_attribute_no, (c.data_type_id, (c.data_type_size, (c.type_modifier, c.format)))))

abbrev pub numbers : Format Numbers
numbers = mapped table table_number be_u32 ⨾ mapped attribute attribute_number be_i16 ⨾ be_u32 ⨾ be_i16 ⨾ be_i32 ⨾ be_i16

abbrev pub column : Format Column
column = record_of (λ c. (c.name, numbers_of c)) (utf8 ⨾ with_room 18 numbers)

abbrev pub row_description : Format (List Column)
row_description = loosely (counted_least 19 column)

-- SASLInitialResponse (F)
pub record SaslInitial : Type 0 where
  pub mechanism : List ℕ
  pub response : Option (List ℕ)

abbrev pub sasl_initial_response : Format SaslInitial
sasl_initial_response = exactly (record_of (λ s. (s.mechanism, s.response)) (until_nul ⨾ value))

-- SASLResponse (F)
abbrev pub sasl_response : Format (List ℕ)
sasl_response = remaining

-- SSLRequest (F), after its code
abbrev pub ssl_request : Format (Unit {0})
ssl_request = empty

-- StartupMessage (F), after its version: settings, each a name that isn't empty and a value, and the NUL that ends
-- them, after which nothing follows
abbrev pub setting : Format (List ℕ × List ℕ)
setting = only (λ s. s.0 ≢ []) (until_nul ⨾ until_nul)

abbrev pub startup : Format (List (List ℕ × List ℕ))
startup = exactly (until_zero setting)

-- ---- without a tag

-- what a client asks for first: a session, by a minor version of the protocol's version 3 and settings; that the
-- query of another session is cancelled; or encryption, by TLS or by GSSAPI
pub data First : Type 0 where
  opening : ℕ → List (List ℕ × List ℕ) → First
  cancelling : Cancel → First
  tls : First
  gssapi : First

-- a session's code is its version: 3 in the upper half, the minor one in the lower. The codes of other messages are
-- versions that the protocol will never have.
abbrev pub first_code : First → ℕ
first_code (opening minor settings) = 196608 + minor
first_code (cancelling cancel) = 80877102
first_code tls = 80877103
first_code gssapi = 80877104

abbrev pub is_version_3 : ℕ → Bool
is_version_3 code = nat_le 196608 code && nat_lt code 262144

abbrev pub settings_of : First → Option (List (List ℕ × List ℕ))
settings_of (opening minor settings) = Some settings
settings_of other = None

abbrev pub cancelled : First → Option Cancel
cancelled (cancelling cancel) = Some cancel
cancelled other = None

abbrev pub asks_tls : First → Option (Unit {0})
asks_tls tls = Some tt
asks_tls other = None

abbrev pub asks_gssapi : First → Option (Unit {0})
asks_gssapi gssapi = Some tt
asks_gssapi other = None

abbrev pub by_code : ℕ → Format First
by_code code =
    choose (code == 80877102) (case_of cancelling cancelled cancel_request)
    (choose (code == 80877103) (case_of (λ _. tls) asks_tls ssl_request)
    (choose (code == 80877104) (case_of (λ _. gssapi) asks_gssapi gss_enc_request)
    (choose (is_version_3 code) (case_of (opening (code - 196608)) settings_of startup)
    (fail (UnknownCode code)))))

abbrev pub with_code : First → ℕ × First
with_code first = (first_code first, first)

-- the body of a message without a tag: its code, and what that says
abbrev pub first_message : Format First
first_message = mapped (λ v. v.1) with_code (dep_pair be_u32 by_code)

-- ---- by the kind of message

-- what a body of a kind means, and by which format
pub record Meaning : Type 1 where
  pub Value : Type 0
  pub format : Format Value

abbrev pub means : {A : Type 0} → Format A → Meaning
means {A} g = record { Value = A; format = g }

abbrev pub from_server : BackendMessageFormat → Meaning
from_server backend.Authentication = means authentication
from_server backend.BackendKeyData = means backend_key_data
from_server backend.BindComplete = means no_body
from_server backend.CloseComplete = means no_body
from_server backend.CommandComplete = means command_complete
from_server backend.CopyData = means copy_data
from_server backend.CopyDone = means no_body
from_server backend.CopyInResponse = means copy_response
from_server backend.CopyOutResponse = means copy_response
from_server backend.DataRow = means data_row
from_server backend.EmptyQueryResponse = means no_body
from_server backend.ErrorResponse = means notice
from_server backend.NoData = means no_body
from_server backend.NoticeResponse = means notice
from_server backend.NotificationResponse = means notification
from_server backend.ParameterDescription = means parameter_description
from_server backend.ParameterStatus = means parameter_status
from_server backend.ParseComplete = means no_body
from_server backend.PortalSuspended = means no_body
from_server backend.ReadyForQuery = means ready_for_query
from_server backend.RowDescription = means row_description

-- a message of the last kind is a password, or SASL's: its bytes are for the method that was asked for
abbrev pub from_client : FrontendMessageFormat → Meaning
from_client frontend.Bind = means bind
from_client frontend.Close = means targeted
from_client frontend.Describe = means targeted
from_client frontend.Execute = means execute
from_client frontend.Flush = means empty
from_client frontend.FunctionCall = means function_call
from_client frontend.Parse = means parse
from_client frontend.Query = means text
from_client frontend.Sync = means empty
from_client frontend.Terminate = means empty
from_client frontend.CopyDone = means empty
from_client frontend.CopyData = means copy_data
from_client frontend.CopyFail = means text
from_client frontend.PasswordPolymorphic = means remaining
