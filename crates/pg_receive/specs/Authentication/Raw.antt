-- A request for authentication by any method: its number, and all that follows it. Documentation: "Message
-- Formats", AuthenticationOk (B) and those after it.
use Rattle.std.specs.Prelude.{ℕ, List}
use Rattle.pg_format.specs.Format.{Format}
use Rattle.pg_format.specs.Format.Parts.{be_u32, remaining}
use Rattle.pg_format.specs.Format.Sequences.{◌⨾◌, record_of}
use Rattle.pg_receive.specs.declared.message.authentication.raw.RawAuthentication.{RawAuthentication}

pub record Request : Type 0 where
  pub method : ℕ
  pub content : List ℕ

abbrev pub raw_request : Format Request
raw_request = record_of (λ r. (r.method, r.content)) (be_u32 ⨾ remaining)

abbrev pub raw_request_of : RawAuthentication → Request
raw_request_of request = record { method = request.method; content = request.content.now }
