-- SslRequest: asks for an encrypted connection; it has no tag. Documentation: "Message Formats",
-- SSLRequest (F).
use Rattle.std.specs.Prelude.{ℕ, List, ◌++◌}
use Rattle.pg_base.specs.Numbers.{be32}

-- 1234 in the upper two bytes and 5679 in the lower, in the place of a version
abbrev pub ssl_request_code : ℕ
ssl_request_code = 80877103

-- the length of the whole, and a code
abbrev pub code_text : ℕ → List ℕ
code_text code = be32 8 ++ be32 code

abbrev pub ssl_request_text : List ℕ
ssl_request_text = code_text ssl_request_code
