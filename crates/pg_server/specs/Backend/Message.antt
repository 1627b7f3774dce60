-- Any message to a client as a plain value, what its law says of it, and what a reader makes of it. Documentation:
-- "Message Formats", the messages marked (B).
use Rattle.std.specs.Prelude.{◌≡◌, ◌↔◌, ℕ, ◌^◌, ◌<◌, ℤ, List, length, Option, None, All, IsUtf8, Result}
use Rattle.std.specs.List.{list_any}
use Rattle.std.specs.Option.{option_or}
use Rattle.pg_base.specs.Format.{backend_tag}
use Rattle.pg_base.specs.Ended.{ended}
use Rattle.pg_base.specs.declared.error.ProtocolFault.{ProtocolFault}
use Rattle.pg_base.specs.declared.format.BackendMessageFormat.{BackendMessageFormat}
use Rattle.pg_base.specs.declared.format.BackendMessageFormat.TheVariants as formats
use Rattle.pg_format.specs.Format.{Format, Means}
use Rattle.pg_format.specs.Format.Parts.{remaining}
use Rattle.pg_format.specs.Format.Parts.{FitsSigned}
use Rattle.pg_format.specs.Messages as page
use Rattle.pg_format.specs.Replication as logged
use Rattle.pg_format.specs.Replication.{in_copy_data, replication}
use Rattle.pg_format.specs.declared.replication.ReplicationKind.{ReplicationKind}
use Rattle.pg_format.specs.declared.replication.ReplicationKind.TheVariants as contents
use Rattle.pg_format.specs.Notices.{Field, notice_fault}
use Rattle.pg_format.specs.Sasl.{first_message_fault, final_message_fault}
use Rattle.pg_server.specs.Backend.Authentication.{names_fault, IsAskable}
use Rattle.pg_server.specs.Backend.OutboundMessage as law
use Rattle.pg_server.specs.Backend.OutboundMessage.{Law}
use Rattle.pg_server.specs.Backend.Copy.{direction_tag, response_of, IsCopyInRange}
use Rattle.pg_server.specs.Backend.OutboundItem.{too_many, max_unsigned, max_signed, holds_nul, nul_fault, text_fault}
use Rattle.pg_server.specs.Backend.NoBody.{no_body_kind}
use Rattle.pg_server.specs.Backend.Notice.{notice_tag, breaks_fields}
use Rattle.pg_server.specs.Backend.ReadyForQuery.{status_of}
use Rattle.pg_server.specs.Backend.RowDescription.{IsColumnInRange}
use Rattle.pg_server.specs.declared.backend.copy.CopyDirection.{CopyDirection}
use Rattle.pg_server.specs.declared.backend.no_body.OutboundNoBody.{OutboundNoBody}
use Rattle.pg_server.specs.declared.backend.notice.NoticeKind.{NoticeKind}
use Rattle.pg_server.specs.declared.backend.ready_for_query.OutboundReadyForQuery.{OutboundReadyForQuery}
use Rattle.pg_base.specs.Tagged.{checked_len}

pub data Message : Type 0 where
  Authentication : page.AnyAuthentication → Message
  BackendKeyData : page.Cancel → Message
  CommandComplete : List ℕ → Message
  CopyData : List ℕ → Message
  CopyResponse : CopyDirection → ℤ → List ℤ → Message
  DataRow : List (Option (List ℕ)) → Message
  FunctionCallResponse : Option (List ℕ) → Message
  NegotiateProtocolVersion : page.Negotiation → Message
  NoBody : OutboundNoBody → Message
  Notice : NoticeKind → List Field → Message
  Notification : page.Notification → Message
  ParameterDescription : List ℕ → Message
  ParameterStatus : page.Setting → Message
  Raw : ℕ → List ℕ → Message
  ReadyForQuery : OutboundReadyForQuery → Message
  Replication : (kind : ReplicationKind) → (in_copy_data kind).Value → Message
  RowDescription : List page.Column → Message
  XLogContent : logged.XLogData → Option ProtocolFault → Message

-- the process that serves a session, and its secret key
abbrev pub key_data_of : ℕ → List ℕ → Message
key_data_of process_id key = BackendKeyData (record { process_id = process_id; secret_key = key })

-- a minor version of version 3, and the names of options
abbrev pub negotiation_of : ℕ → List (List ℕ) → Message
negotiation_of minor options = NegotiateProtocolVersion (record { major = 3; minor = minor; options = options })

abbrev pub notification_of : ℕ → List ℕ → List ℕ → Message
notification_of process_id channel payload = Notification (record { process_id = process_id; channel = channel; payload = payload })

-- a setting and its value
abbrev pub parameter_status_of : List ℕ → List ℕ → Message
parameter_status_of name value = ParameterStatus (record { name = name; value = value })

-- a request for SASL by one of these mechanisms
abbrev pub sasl_offer_of : List (List ℕ) → Message
sasl_offer_of mechanisms = Authentication (page.known_method (page.sasl mechanisms))

-- ---- in the data of a CopyData

abbrev pub replication_fault : (kind : ReplicationKind) → (in_copy_data kind).Value → Option ProtocolFault
replication_fault contents.NewArchive archive = option_or (text_fault archive.name) (text_fault archive.location)
replication_fault other value = None

abbrev pub IsReplicationInRange : (kind : ReplicationKind) → (in_copy_data kind).Value → Type 0
IsReplicationInRange contents.XLogData x = (x.start < 2 ^ 64) × (x.end < 2 ^ 64) × FitsSigned 8 x.clock
IsReplicationInRange contents.PrimaryKeepalive k = (k.end < 2 ^ 64) × FitsSigned 8 k.clock
IsReplicationInRange contents.StandbyStatusUpdate u = (u.written < 2 ^ 64) × (u.flushed < 2 ^ 64) × (u.applied < 2 ^ 64) × FitsSigned 8 u.clock
IsReplicationInRange contents.HotStandbyFeedback f = FitsSigned 8 f.clock × (f.xmin < 2 ^ 32) × (f.xmin_epoch < 2 ^ 32) × (f.catalog_xmin < 2 ^ 32) × (f.catalog_xmin_epoch < 2 ^ 32)
IsReplicationInRange contents.Progress processed = processed < 2 ^ 64
IsReplicationInRange other value = Unit {0}

-- a message by its tag, the line of the page that writes it, what it says, the first fault of its parts, and
-- that its numbers are in their ranges
abbrev pub by_line : {V : Type 0} → ℕ → Format V → V → Option ProtocolFault → Type 0 → Law
by_line {V} tag line value part_fault IsInRange = record { tag = tag; Value = V; line = line; value = value; part_fault = part_fault; IsInRange = IsInRange }

abbrev pub of_kind : {V : Type 0} → BackendMessageFormat → Format V → V → Option ProtocolFault → Type 0 → Law
of_kind kind line value part_fault IsInRange = by_line (backend_tag kind) line value part_fault IsInRange

-- Of a CommandComplete the page has the whole body for what it says, with the NUL. A COPY's count is signed. 86 is
-- `V`, and 118 is `v`. The content of an XLogContent is made of parts, which may have a fault.
abbrev pub law_of : Message → Law
law_of (Authentication request) = of_kind formats.Authentication page.any_authentication request (names_fault request) (IsAskable request)
law_of (BackendKeyData key) = of_kind formats.BackendKeyData page.backend_key key (page.key_fault (length key.secret_key)) (key.process_id < 2 ^ 32)
law_of (CommandComplete command) = of_kind formats.CommandComplete page.command_complete (ended command) (text_fault command) (Unit {0})
law_of (CopyData bytes) = of_kind formats.CopyData page.copy_data bytes None (Unit {0})
law_of (CopyResponse direction format codes) = by_line (direction_tag direction) page.copy_response (response_of format codes) (too_many max_signed (length codes)) (IsCopyInRange format codes)
law_of (DataRow cells) = of_kind formats.DataRow page.data_row cells (too_many max_unsigned (length cells)) (Unit {0})
law_of (FunctionCallResponse value) = by_line 86 page.function_call_response value None (Unit {0})
law_of (NegotiateProtocolVersion n) = by_line 118 page.negotiate_protocol_version n (nul_fault (list_any holds_nul n.options)) ((n.major < 2 ^ 16) × (n.minor < 2 ^ 16))
law_of (NoBody message) = of_kind (no_body_kind message) page.no_body tt None (Unit {0})
law_of (Notice kind fields) = by_line (notice_tag kind) page.notice fields (nul_fault (list_any breaks_fields fields)) (All (λ (field : Field). field.0 < 256) fields)
law_of (Notification n) = of_kind formats.NotificationResponse page.notification n (option_or (text_fault n.channel) (text_fault n.payload)) (n.process_id < 2 ^ 32)
law_of (ParameterDescription types) = of_kind formats.ParameterDescription page.parameter_description types (too_many max_unsigned (length types)) (All (λ n. n < 2 ^ 32) types)
law_of (ParameterStatus setting) = of_kind formats.ParameterStatus page.parameter_status setting (option_or (text_fault setting.name) (text_fault setting.value)) (Unit {0})
law_of (Raw tag body) = by_line tag remaining body None (Unit {0})
law_of (ReadyForQuery ready) = of_kind formats.ReadyForQuery page.ready_for_query (status_of ready) None (Unit {0})
law_of (Replication kind value) = of_kind formats.CopyData (replication kind) value (replication_fault kind value) (IsReplicationInRange kind value)
law_of (RowDescription columns) =
    of_kind formats.RowDescription page.row_description columns
    (option_or (too_many max_unsigned (length columns)) (nul_fault (list_any (λ (column : page.Column). holds_nul column.name) columns)))
    (All IsColumnInRange columns)
law_of (XLogContent piece content_fault) = of_kind formats.CopyData (replication contents.XLogData) piece content_fault (IsReplicationInRange contents.XLogData piece)

-- ---- what its law says of a message

abbrev pub tag : Message → ℕ
tag m = (law_of m).tag

abbrev pub body : Message → List ℕ
body m = law.body (law_of m)

abbrev pub part_fault : Message → Option ProtocolFault
part_fault m = (law_of m).part_fault

abbrev pub fault : Message → Option ProtocolFault
fault m = law.fault (law_of m)

abbrev pub text : Message → List ℕ
text m = law.text (law_of m)

-- its length, or its first fault
abbrev pub text_len : Message → Result ℕ ProtocolFault
text_len m = checked_len (fault m) (length (text m))

abbrev pub IsInRange : Message → Type 0
IsInRange m = (law_of m).IsInRange

-- ---- what a reader asks of it beside: texts of UTF-8, and data without a fault of its own

abbrev pub IsRequestReadable : page.AnyAuthentication → Type 0
IsRequestReadable (page.known_method (page.sasl names)) = All IsUtf8 names
IsRequestReadable (page.known_method (page.sasl_continue content)) = first_message_fault content ≡ None
IsRequestReadable (page.known_method (page.sasl_final content)) = final_message_fault content ≡ None
IsRequestReadable other = Unit {0}

pub record IsSettingReadable (setting : page.Setting) : Type 0 where
  pub name : IsUtf8 setting.name
  pub value : IsUtf8 setting.value

abbrev pub IsReadable : Message → Type 0
IsReadable (Authentication request) = IsRequestReadable request
IsReadable (Notice kind fields) = notice_fault fields ≡ None
IsReadable (ParameterStatus setting) = IsSettingReadable setting
IsReadable (RowDescription columns) = All (λ (column : page.Column). IsUtf8 column.name) columns
IsReadable other = Unit {0}

-- ---- reading

-- the body means what the message says, and nothing else
abbrev pub IsReadBack : Message → Type 0
IsReadBack m = (read : (law_of m).Value) → Means (law_of m).line (body m) read ↔ (read ≡ (law_of m).value)

abbrev pub IsRead : Message → Type 0
IsRead m = IsReadable m → IsReadBack m
