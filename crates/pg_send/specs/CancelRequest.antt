-- CancelRequest: asks the server to stop what a session does; it has no tag. Documentation: "Message
-- Formats", CancelRequest (F).
use Rattle.std.specs.Prelude.{ℕ, ◌+◌, List, ◌++◌, length, ◌≡◌, ◌<◌, ◌^◌, ◌↔◌, Some, None}
use Rattle.pg_base.specs.Numbers.{be32}
use Rattle.pg_format.specs.Messages as page
use Rattle.pg_send.specs.declared.message.cancel_request.CancelRequest.{CancelRequest}
use Rattle.pg_base.specs.declared.error.ProtocolFault.{ProtocolFault}
use Rattle.pg_format.specs.Format.{Means}

-- the code, the process and the key
abbrev pub cancel_request_body : page.Cancel → List ℕ
cancel_request_body cancel = page.first_message.Writes (page.cancelling cancel)

-- the length of itself, the code, the process and the key
abbrev pub length_field : page.Cancel → ℕ
length_field cancel = length cancel.secret_key + 12

-- the whole, after its length
abbrev pub cancel_request_text : page.Cancel → List ℕ
cancel_request_text cancel = be32 (length_field cancel) ++ cancel_request_body cancel

-- the key has no length that keys have, for this fault
abbrev pub IsKeyFault : List ℕ → ProtocolFault → Type 0
IsKeyFault key fault = page.key_fault (length key) ≡ Some fault

-- what holds of a request whose numbers are in range and whose key has a length that keys have
abbrev pub IfSent : page.Cancel → Type 0 → Type 0
IfSent cancel Holds = cancel.process_id < 2 ^ 32 → page.key_fault (length cancel.secret_key) ≡ None → Holds

-- a server reads the request as itself, and as no other
abbrev pub CancelIsReadBack : page.Cancel → Type 0
CancelIsReadBack cancel = (read : page.First) → Means page.first_message (cancel_request_body cancel) read ↔ (read ≡ page.cancelling cancel)

abbrev pub cancel_request_fields : CancelRequest → page.Cancel
cancel_request_fields cancel = record { process_id = cancel.process_id; secret_key = cancel.secret_key.now }
