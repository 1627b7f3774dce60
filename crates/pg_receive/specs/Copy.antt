-- CopyInResponse and CopyOutResponse: what the type's fields are, and where no memory is asked for.
use Rattle.std.specs.Prelude.{◌≡◌, ℕ, ◌*◌, ◌<◌, ℤ, List, length, ◌⊎◌}
use Rattle.pg_format.specs.Format.Parts.{be_i8, be_i16}
use Rattle.pg_format.specs.Format.Sequences.{◌⨾◌}
use Rattle.pg_format.specs.Messages.{CopyResponse, columns_of}
use Rattle.pg_receive.specs.declared.message.copy.CopyResponseData.{CopyResponseData}

-- the count is there, and the body can't hold so many codes, or there are none
pub record NeedsNoCodes (body : List ℕ) : Type 0 where
  pub format : ℤ
  pub count : ℤ
  pub after : List ℕ
  pub counts : (be_i8 ⨾ be_i16).Reads body (format, count) after
  pub why : (length after < 2 * columns_of count) ⊎ (columns_of count ≡ 0)

abbrev pub FormatsNeedsNoMemory : List ℕ → Type 0
FormatsNeedsNoMemory body = (length body < 3) ⊎ NeedsNoCodes body

abbrev pub shown_response : CopyResponseData → CopyResponse
shown_response response = record { format = response.format; num_columns = response.num_columns; format_codes = response.format_codes.items }
