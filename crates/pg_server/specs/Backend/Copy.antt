-- CopyInResponse, CopyOutResponse, CopyBothResponse and CopyData. Documentation: "Message Formats", the
-- messages of these names marked (B).
use Rattle.std.specs.Prelude.{ℕ, ℤ, pos, List, length, All}
use Rattle.pg_base.specs.Format.{backend_tag}
use Rattle.pg_base.specs.declared.format.BackendMessageFormat.TheVariants as formats
use Rattle.pg_format.specs.Format.Parts.{FitsSigned}
use Rattle.pg_format.specs.Messages as page
use Rattle.pg_server.specs.declared.backend.copy.CopyDirection.{CopyDirection}
use Rattle.pg_server.specs.declared.backend.copy.CopyDirection.TheVariants as directions

-- that of CopyBothResponse is `W`
abbrev pub direction_tag : CopyDirection → ℕ
direction_tag directions.In = backend_tag formats.CopyInResponse
direction_tag directions.Out = backend_tag formats.CopyOutResponse
direction_tag directions.Both = 87

-- as many columns as codes
abbrev pub response_of : ℤ → List ℤ → page.CopyResponse
response_of format codes = record { format = format; num_columns = pos (length codes); format_codes = codes }

pub record IsCopyInRange (format : ℤ) (codes : List ℤ) : Type 0 where
  pub whole : FitsSigned 1 format
  pub columns : All (FitsSigned 2) codes
