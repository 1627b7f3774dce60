-- A message that is written is decoded to what it says.
use Rattle.std.proofs.Common.{◌≡◌, ℕ, ◌+◌, ◌≤◌, List, [], ◌++◌, length, Option, None, refl, sym, ap, subst, ◌∙◌, arith, length-append}
use Rattle.std.proofs.lemmas.Bool.{le-leb}
use Rattle.std.proofs.lemmas.List.{append-nil}
use Rattle.pg_base.specs.Cutting.{max_length}
use Rattle.pg_base.specs.Format.{backend_tag}
use Rattle.pg_base.specs.Numbers.{num}
use Rattle.pg_base.specs.declared.error.Error.{Error}
use Rattle.pg_format.specs.Field.{signed64}
use Rattle.pg_format.specs.Format.{Means}
use Rattle.pg_format.specs.Messages as page
use Rattle.pg_format.specs.Notices.{Field}
use Rattle.pg_receive.specs.Authentication.{value_of}
use Rattle.pg_receive.specs.Authentication.Any.{any_value_of}
use Rattle.pg_receive.specs.contracts.message.authentication.AuthenticationBackendMessage.TheImpl as authentication
use Rattle.pg_receive.specs.contracts.message.backend_key_data.BackendKeyDataBackendMessage.TheImpl as backend_key_data
use Rattle.pg_receive.specs.contracts.message.command_complete.CommandCompleteBackendMessage.TheImpl as command_complete
use Rattle.pg_receive.specs.contracts.message.copy.CopyInResponseBackendMessage.TheImpl as copy_in_response
use Rattle.pg_receive.specs.contracts.message.copy.CopyOutResponseBackendMessage.TheImpl as copy_out_response
use Rattle.pg_receive.specs.contracts.message.data_row.DataRowBackendMessage.TheImpl as data_row
use Rattle.pg_receive.specs.contracts.message.notification.NotificationBackendMessage.TheImpl as notification
use Rattle.pg_receive.specs.contracts.message.parameter_description.ParameterDescriptionBackendMessage.TheImpl as parameter_description
use Rattle.pg_receive.specs.contracts.message.parameter_status.ParameterStatusBackendMessage.TheImpl as parameter_status
use Rattle.pg_receive.specs.contracts.message.ready_for_query.ReadyForQueryBackendMessage.TheImpl as ready_for_query
use Rattle.pg_receive.specs.contracts.message.row_description.RowDescriptionBackendMessage.TheImpl as row_description
use Rattle.pg_receive.specs.contracts.database_error.PgDatabaseErrorBackendMessage.TheImpl as error_response
use Rattle.pg_format.specs.contracts.copy.CopyDataBytesBackendMessage.TheImpl as copy_data
use Rattle.pg_format.specs.contracts.copy.CopyDoneBackendMessage.TheImpl as copy_done
use Rattle.pg_receive.specs.contracts.message.response.NoticeBackendMessage.TheImpl as notice_response
use Rattle.pg_format.specs.declared.received.BackendMessage.{Ghosts}
use Rattle.pg_server.specs.Backend.Copy.{response_of}
use Rattle.pg_server.specs.Backend.Message as message
use Rattle.pg_server.specs.Backend.Message.{Message, law_of, tag, body, fault, IsInRange, IsReadable}
use Rattle.pg_server.specs.declared.backend.copy.CopyDirection.{CopyDirection}
use Rattle.pg_server.specs.declared.backend.copy.CopyDirection.TheVariants as directions
use Rattle.pg_server.specs.declared.backend.no_body.OutboundNoBody.{OutboundNoBody}
use Rattle.pg_server.specs.declared.backend.no_body.OutboundNoBody.TheVariants as bare
use Rattle.pg_server.specs.declared.backend.notice.NoticeKind.{NoticeKind}
use Rattle.pg_server.specs.declared.backend.notice.NoticeKind.TheVariants as kinds
use Rattle.pg_base.specs.Part.{byte, number64}
use Rattle.pg_base.specs.Tagged.{first_fault}
use Rattle.pg_base.specs.declared.error.ProtocolFault.{ProtocolFault}
use Rattle.pg_base.proofs.TaggedLemmas.{len_fits, no_part_fault}
use Rattle.pg_replication.specs.Logical.{ReadsLogical}
use Rattle.pg_replication.specs.Logical.Encode.{content, content_part}
use Rattle.pg_replication.specs.Logical.XLogMessage.{piece_of}
use Rattle.pg_replication.specs.declared.logical.xlog_message.XLogMessage.{XLogMessage}
use Rattle.pg_replication.proofs.LogicalEncodeLemmas as logical
use Rattle.pg_server.proofs.BackendMessageLemmas.{own_message, own_request}
use Rattle.pg_message.specs.Backend.{IsDecoded, IsCopyDecoded, IsBareDecoded, IsNoticeDecoded, IsDecodedBack, IsAskedBack, IsReadInPiece, noticed, numbered, streamed}

small : (m : Message) → fault m ≡ None → 4 + length (body m) ≤ max_length
small m e = len_fits (law_of m).part_fault (length (body m)) e

-- what its body means
means : (m : Message) → fault m ≡ None → IsInRange m → IsReadable m → Means (law_of m).line (body m) (law_of m).value
means m e r h = (own_message m e r h (law_of m).value).1 refl

-- what a type's line means by a body within the limits is what the type decodes
decoded : {A : Type 0} (type : Ghosts A) (value : type.Shown) (m : Message) → fault m ≡ None → backend_tag type.FORMAT ≡ tag m → Means type.format (body m) value → IsDecoded type value m
decoded type value m e tagged is = record {
  tagged = tagged;
  gives = λ received result format contents decodes.
      decodes.only value format (omega (arith, small m e, ap length contents)) (rw contents is);
}

-- a key of four bytes is read as a number
read_key : (key : page.Cancel) (bytes : List ℕ) → length key.secret_key ≡ 4 → Means page.backend_key bytes key → Means page.backend_key_data bytes (numbered key)
read_key key bytes wide p =
    let same : key.secret_key ≡ p.mid = p.second.0.0 in (
      [],
      record {
        mid = p.mid;
        first = p.first;
        second = record { spelled = p.mid; wide = ap length (sym same) ∙ wide; is = ap num same; parts = sym (append-nil p.mid) };
      },
      refl,
    )

decoded_copy : (direction : CopyDirection) (m : Message) (response : page.CopyResponse) → fault m ≡ None → tag m ≡ tag (message.CopyResponse direction response.format response.format_codes) → Means page.copy_response (body m) response → IsCopyDecoded direction response m
decoded_copy directions.In m response e t is = decoded copy_in_response.ghosts response m e (sym t) is
decoded_copy directions.Out m response e t is = decoded copy_out_response.ghosts response m e (sym t) is
decoded_copy directions.Both m response e t is = tt

decoded_bare : (kind : OutboundNoBody) → fault (message.NoBody kind) ≡ None → Means page.no_body (body (message.NoBody kind)) tt → IsBareDecoded kind (message.NoBody kind)
decoded_bare bare.CopyDone e is = decoded copy_done.ghosts tt (message.NoBody bare.CopyDone) e refl is
decoded_bare other e is = tt

decoded_notice : (kind : NoticeKind) (fields : List Field) → fault (message.Notice kind fields) ≡ None → Means page.notice (body (message.Notice kind fields)) fields → IsNoticeDecoded kind (noticed fields) (message.Notice kind fields)
decoded_notice kinds.Error fields e is = decoded error_response.ghosts (noticed fields) (message.Notice kinds.Error fields) e refl (fields, is, refl)
decoded_notice kinds.Notice fields e is = decoded notice_response.ghosts (noticed fields) (message.Notice kinds.Notice fields) e refl (fields, is, refl)

decoded_request : (request : page.AnyAuthentication) → fault (message.Authentication request) ≡ None → IsInRange (message.Authentication request) → IsReadable (message.Authentication request) → IsDecodedBack (message.Authentication request)
decoded_request (page.known_method request) e r h =
    decoded authentication.ghosts (value_of request) (message.Authentication (page.known_method request)) e refl (request, own_request request e r h, refl)
decoded_request other e r h = tt

decoded_by_kind : (m : Message) → fault m ≡ None → IsInRange m → IsReadable m → Means (law_of m).line (body m) (law_of m).value → IsDecodedBack m
decoded_by_kind (message.Authentication request) e r h is = decoded_request request e r h
decoded_by_kind (message.BackendKeyData key) e r h is = λ wide. decoded backend_key_data.ghosts (numbered key) (message.BackendKeyData key) e refl (read_key key (body (message.BackendKeyData key)) wide is)
decoded_by_kind (message.CommandComplete command) e r h is = decoded command_complete.ghosts _ (message.CommandComplete command) e refl is
decoded_by_kind (message.CopyData bytes) e r h is = decoded copy_data.ghosts bytes (message.CopyData bytes) e refl is
decoded_by_kind (message.CopyResponse direction format codes) e r h is = decoded_copy direction (message.CopyResponse direction format codes) (response_of format codes) e refl is
decoded_by_kind (message.DataRow cells) e r h is = decoded data_row.ghosts cells (message.DataRow cells) e refl is
decoded_by_kind (message.NoBody kind) e r h is = decoded_bare kind e is
decoded_by_kind (message.Notice kind fields) e r h is = decoded_notice kind fields e is
decoded_by_kind (message.Notification n) e r h is = decoded notification.ghosts n (message.Notification n) e refl is
decoded_by_kind (message.ParameterDescription types) e r h is = decoded parameter_description.ghosts types (message.ParameterDescription types) e refl is
decoded_by_kind (message.ParameterStatus setting) e r h is = decoded parameter_status.ghosts setting (message.ParameterStatus setting) e refl is
decoded_by_kind (message.ReadyForQuery ready) e r h is = decoded ready_for_query.ghosts _ (message.ReadyForQuery ready) e refl is
decoded_by_kind (message.RowDescription columns) e r h is = decoded row_description.ghosts columns (message.RowDescription columns) e refl is
decoded_by_kind other e r h is = tt

pub decoded_back : (m : Message) → fault m ≡ None → IsInRange m → IsReadable m → IsDecodedBack m
decoded_back m e r h = decoded_by_kind m e r h (means m e r h)

pub asked_back : (m : Message) → fault m ≡ None → IsInRange m → IsReadable m → IsAskedBack m
asked_back (message.Authentication request) e r h = λ read. (
  (λ p. p.2 ∙ ap any_value_of ((own_message (message.Authentication request) e r h p.0).0 p.1)),
  (λ is. (request, means (message.Authentication request) e r h, is)),
)
asked_back other e r h = tt

-- ---- a message of logical replication

-- what is as long as a body within the limits at most, and has no other fault, has none
within : (own : Option ProtocolFault) (len : ℕ) → own ≡ None → 4 + len ≤ max_length → first_fault own len ≡ None
within own len e fits = rw (e, le-leb (len + 4) max_length (omega (arith, fits))) refl

-- the content of the piece is a part of the body
inside : (it : XLogMessage) → length (content it.message) ≤ length (body (streamed it))
inside it =
    let start = (number64 it.start).text in
    let end = (number64 it.end).text in
    let clock = (signed64 it.clock).text in
    let log = content it.message in
    let all : body (streamed it) ≡ (byte 119).text ++ (start ++ (end ++ (clock ++ log))) = refl in
    omega (
      arith,
      ap length all,
      length-append (byte 119).text (start ++ (end ++ (clock ++ log))),
      length-append start (end ++ (clock ++ log)),
      length-append end (clock ++ log),
      length-append clock log,
    )

pub read_in_piece : (it : XLogMessage) → fault (streamed it) ≡ None → IsInRange (streamed it) → (content_part it.message).IsInRange → IsReadInPiece it
read_in_piece it e r range is_streamed piece answer numbered means reads =
    let same : piece ≡ piece_of it = (own_message (streamed it) e r tt piece).0 means in
    let own = (content_part it.message).fault in
    let fits : 4 + length (content it.message) ≤ max_length = omega (arith, inside it, small (streamed it) e) in
    let none = within own (length (content it.message)) (no_part_fault own (length (body (streamed it))) e) fits in
    logical.own_message it.message none range is_streamed answer numbered (subst (λ p. ReadsLogical is_streamed p.content answer) same reads)
