-- What reading a message of the whole protocol by its kind answers.
use Rattle.std.specs.Prelude.{◌≡◌, ◌≢◌, ℕ, List, Option, Result, Ok, Err, MatchResult, option_copied}
use Rattle.pg_base.specs.declared.error.ProtocolFault.{ProtocolFault}
use Rattle.pg_base.specs.declared.format.BackendMessageFormat.{BackendMessageFormat}
use Rattle.pg_base.specs.declared.format.BackendMessageFormat.TheVariants as formats
use Rattle.pg_format.specs.Messages.{copy_response, function_call_response, negotiate_protocol_version, backend_key}
use Rattle.pg_format.specs.declared.protocol.ProtocolMessageKind.{ProtocolMessageKind}
use Rattle.pg_format.specs.declared.protocol.ProtocolMessageKind.TheVariants as kinds
use Rattle.pg_receive.specs.Authentication.Any.{any_requests, any_borrowed}
use Rattle.pg_receive.specs.BackendKeyData.{raw_key}
use Rattle.pg_receive.specs.CopyResponseRef.{response_borrowed}
use Rattle.pg_receive.specs.NegotiateProtocolVersion.{negotiation_borrowed}
use Rattle.pg_receive.specs.ServerMessage.{Borrows, Reads}
use Rattle.pg_receive.specs.declared.message.function_call_response.FunctionCallResponseRef.{FunctionCallResponseRef}
use Rattle.pg_receive.specs.declared.message.protocol_message_ref.ProtocolMessageRef.{ProtocolMessageRef}
use Rattle.pg_receive.specs.declared.message.protocol_message_ref.ProtocolMessageRef.TheVariants as messages
use Rattle.pg_receive.specs.declared.message.server_message.ServerMessageRef.{ServerMessageRef}

abbrev pub Answer : Type 0
Answer = Result ProtocolMessageRef ProtocolFault

-- it is what borrowing a message of this kind answers
pub record IsBorrowed (format : BackendMessageFormat) (body : List ℕ) (result : Answer) : Type 0 where
  pub answer : Result ServerMessageRef ProtocolFault
  pub borrows : Borrows format body answer
  pub is : MatchResult answer (λ message. result ≡ Ok (messages.Other message)) (λ fault. result ≡ Err fault)

-- of the kinds that sqlx-postgres knows two say more here: a request of any method, and a key of up to 256 bytes
pub record ReadsKnown (format : BackendMessageFormat) (body : List ℕ) (result : Answer) : Type 0 where
  pub request : format ≡ formats.Authentication → Reads messages.Authentication any_requests any_borrowed body result
  pub key : format ≡ formats.BackendKeyData → Reads messages.BackendKeyData backend_key raw_key body result
  pub other : format ≢ formats.Authentication → format ≢ formats.BackendKeyData → IsBorrowed format body result

abbrev pub result_borrowed : FunctionCallResponseRef → Option (List ℕ)
result_borrowed response = option_copied response.value

-- what reading a message of this kind from its body answers
abbrev pub ReadsProtocol : ProtocolMessageKind → List ℕ → Answer → Type 0
ReadsProtocol (kinds.Known format) body result = ReadsKnown format body result
ReadsProtocol kinds.CopyBothResponse body result = Reads messages.CopyBothResponse copy_response response_borrowed body result
ReadsProtocol kinds.FunctionCallResponse body result = Reads messages.FunctionCallResponse function_call_response result_borrowed body result
ReadsProtocol kinds.NegotiateProtocolVersion body result = Reads messages.NegotiateProtocolVersion negotiate_protocol_version negotiation_borrowed body result
