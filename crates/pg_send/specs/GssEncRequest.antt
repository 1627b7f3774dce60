-- GssEncRequest: asks for a connection that GSSAPI encrypts; it has no tag. Documentation: "Message
-- Formats", GSSENCRequest (F).
use Rattle.std.specs.Prelude.{ℕ, List}
use Rattle.pg_send.specs.SslRequest.{code_text}

-- 1234 in the upper two bytes and 5680 in the lower, in the place of a version
abbrev pub gss_enc_request_code : ℕ
gss_enc_request_code = 80877104

abbrev pub gss_enc_request_text : List ℕ
gss_enc_request_text = code_text gss_enc_request_code
