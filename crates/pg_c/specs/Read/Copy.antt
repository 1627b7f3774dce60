-- How the data of a COPY is spelled, as a C program reads it.
use Rattle.std.specs.Prelude.{◌≡◌, ℕ, ℤ, pos, List, Some, length}
use Rattle.pg_format.specs.Format.{Means}
use Rattle.pg_format.specs.Messages.{CopyResponse, copy_response}
use Rattle.pg_c.specs.Read.{AreGiven, GivesFront}
use Rattle.pg_c.specs.declared.read.copy.PgmsgCopyResponse.{PgmsgCopyResponse}
use Rattle.pg_format.specs.Format.Parts.{be_i16}

-- the body means these formats, as many as the result, and they are given
pub record ReadsFormats (body : List ℕ) (response : PgmsgCopyResponse) (old new : List ℤ) (result : ℤ) : Type 0 where
  pub formats : CopyResponse
  pub means : Means copy_response body formats
  pub format : response.format ≡ formats.format
  pub columns : response.columns ≡ formats.num_columns
  pub count : result ≡ pos (length formats.format_codes)
  pub given : AreGiven (λ (code : ℤ). Some code) formats.format_codes old new

-- the front of the codes is given, where the body is refused
abbrev pub GivesCodes : List ℕ → List ℤ → List ℤ → Type 0
GivesCodes body old new = GivesFront be_i16 (λ (code : ℤ). Some code) body 3 old new
