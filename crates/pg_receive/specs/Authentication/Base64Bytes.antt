-- Bytes that stand as base64 in SASL data.
use Rattle.std.specs.Prelude.{◌≡◌, ℕ, List, length, Some}
use Rattle.base64.specs.Engines.{standard}
use Rattle.base64.specs.GeneralPurpose.{encode_of, IsBytes}
use Rattle.pg_format.specs.Sasl.{base64_of}
use Rattle.pg_receive.specs.Authentication.SaslItems.{base64_value}

-- the text is base64, of so many bytes
abbrev pub IsBase64 : List ℕ → ℕ → Type 0
IsBase64 text len = (base64_of text ≡ Some (base64_value text)) × (len ≡ length (base64_value text))

-- a piece of 64 is the base64 of 48 bytes, which takes no padding
pub record IsWhole (piece : List ℕ) : Type 0 where
  pub bytes : List ℕ
  pub are : IsBytes bytes
  pub many : length bytes ≡ 48
  pub is : piece ≡ encode_of standard bytes
