-- Password: answers a request for a password, in clear or with its digest. Documentation: "Message
-- Formats", PasswordMessage (F).
use Rattle.std.specs.Prelude.{◌≤◌, ◌*◌, ◌⊎◌, ◌≡◌, ℕ, zero, suc, ◌+◌, ◌-◌, ◌^◌, ◌<◌, List, [], ◌∷◌, ◌++◌, length, codes, All, None, nat_le, if◌then◌else◌}
use Rattle.hex.specs.Hex.{encode_lower}
use Rattle.pg_base.specs.declared.format.FrontendMessageFormat.TheVariants as formats
use Rattle.pg_format.specs.Messages as page
use Rattle.pg_base.specs.Part.{saturated}
use Rattle.pg_send.specs.FrontendMessage.{Law, cleartext, md5}
use Rattle.pg_send.specs.Shapes.{text_law}
pub mod Laws

-- the letters md5, and each byte of the digest as two lower hexadecimal digits
abbrev pub md5_value : List ℕ → List ℕ
md5_value digest = codes "md5" ++ encode_lower digest

-- the same and a NUL
abbrev pub md5_body : List ℕ → List ℕ
md5_body digest = page.text.Writes (md5_value digest)

-- sixteen bytes
pub record IsDigest (digest : List ℕ) : Type 0 where
  pub long : length digest ≡ 16
  pub bytes : All (λ b. b < 256) digest

-- the first of so many powers of two, from 2 ^ k on, that is at least n; the greatest `usize` where
-- there is none
unfoldable pub power_from : ℕ → ℕ → ℕ → ℕ
power_from zero k n = 2 ^ 64 - 1
power_from (suc more) k n = if nat_le n (2 ^ k) then 2 ^ k else power_from more (k + 1) n

-- the least power of two that is at least n, which doesn't tell n; the greatest `usize` where there
-- is none
unfoldable pub power_over : ℕ → ℕ
power_over n = power_from 64 0 n

-- a lower hexadecimal digit and what it is worth
abbrev pub IsWorth : ℕ → ℕ → Type 0
IsWorth digit worth = ((48 ≤ digit) × (digit ≤ 57) × (digit ≡ 48 + worth)) ⊎ ((97 ≤ digit) × (digit ≤ 102) × (digit ≡ 87 + worth))

-- two digits, the first worth sixteen times as much, and what stands after them
pub record HexByte (digits : List ℕ) (byte : ℕ) (after : List ℕ) : Type 0 where
  pub high : ℕ
  pub low : ℕ
  pub high_worth : ℕ
  pub low_worth : ℕ
  pub high_is : IsWorth high high_worth
  pub low_is : IsWorth low low_worth
  pub is : byte ≡ 16 * high_worth + low_worth
  pub parts : digits ≡ high ∷ low ∷ after

-- two digits for each byte, and none after
abbrev pub HexBytes : List ℕ → List ℕ → Type 0
HexBytes digits [] = digits ≡ []
HexBytes digits (b ∷ bytes) = (after : List ℕ) × HexByte digits b after × HexBytes after bytes

-- a reader takes the letters md5, the digits of the sixteen bytes, and a NUL
pub record ReadsMd5 (body digest : List ℕ) : Type 0 where
  pub digits : List ℕ
  pub long : length digest ≡ 16
  pub spelled : HexBytes digits digest
  pub parts : body ≡ 109 ∷ 100 ∷ 53 ∷ (digits ++ 0 ∷ [])

-- in clear: the room that is reserved doesn't tell the length
abbrev pub cleartext_law : List ℕ → Law
cleartext_law text = text_law formats.PasswordPolymorphic cleartext power_over text

-- as a digest
abbrev pub md5_law : List ℕ → Law
md5_law digest = record {
  format = formats.PasswordPolymorphic;
  form = md5;
  body = md5_body digest;
  count_fault = None;
  room_for = saturated;
  IsInRange = IsDigest digest;
  Reads = λ bytes. ReadsMd5 bytes digest;
  CanRoundTrip = Unit {0};
  round_trip_fault = None;
}
