-- What a client sends at the opening of a session, from what a C program passes.
use Rattle.std.specs.Prelude.{ℕ, ℤ, List, Bool, length, Some, None, if◌then◌else◌}
use Rattle.pg_format.specs.Messages as page
use Rattle.pg_send.specs.CancelRequest.{cancel_request_text}
use Rattle.pg_send.specs.Message as message
use Rattle.pg_send.specs.Message.{Message}
use Rattle.pg_c.specs.Put.{PutsText}

-- a request to cancel is put, or refused for the length of its key
abbrev pub PutsCancel : ℕ → List ℕ → List ℕ → List ℕ → ℤ → Type 0
PutsCancel process_id key old new result =
    PutsText (cancel_request_text (record { process_id = process_id; secret_key = key })) (page.key_fault (length key)) old new result

-- the first answer of SASL, with a response or without
abbrev pub sasl_of : List ℕ → Bool → List ℕ → Message
sasl_of mechanism has_response response = message.SaslInitial (record { mechanism = mechanism; response = if has_response then Some response else None })
