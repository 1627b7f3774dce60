-- SaslInitialResponse: chooses a mechanism of authentication, and begins it. Documentation: "Message
-- Formats", SASLInitialResponse (F).
use Rattle.std.specs.Prelude.{◌≡◌, ℕ, pos, Bool, true, false, List, length, codes, Some, None, if◌then◌else◌}
use Rattle.pg_base.specs.declared.format.FrontendMessageFormat.TheVariants as formats
use Rattle.pg_base.specs.Reading.{Text, Signed}
use Rattle.pg_format.specs.Messages as page
use Rattle.pg_send.specs.declared.message.sasl.SaslInitialResponse.{SaslInitialResponse}
use Rattle.pg_base.specs.Part.{saturated}
use Rattle.pg_send.specs.FrontendMessage.{Law, sasl_initial}

pub record SaslInitialFields : Type 0 where
  pub response : List ℕ
  pub plus : Bool

-- the name of the mechanism, with channel binding or without
abbrev pub mechanism : Bool → List ℕ
mechanism plus = if plus then codes "SCRAM-SHA-256-PLUS" else codes "SCRAM-SHA-256"

-- what the page means by it
abbrev pub sasl_initial_value : SaslInitialFields → page.SaslInitial
sasl_initial_value s = record { mechanism = mechanism s.plus; response = Some s.response }

-- the mechanism and a NUL, and the response after its length
abbrev pub sasl_initial_body : SaslInitialFields → List ℕ
sasl_initial_body s = page.sasl_initial_response.Writes (sasl_initial_value s)

-- a reader knows two names of mechanisms
abbrev pub ReadsMechanism : List ℕ → Bool → Type 0
ReadsMechanism name true = name ≡ codes "SCRAM-SHA-256-PLUS"
ReadsMechanism name false = name ≡ codes "SCRAM-SHA-256"

-- it takes the name of one, and the response after its length
pub record ReadsSaslInitial (body : List ℕ) (s : SaslInitialFields) : Type 0 where
  pub name : List ℕ
  pub after_name : List ℕ
  pub first : Text body name after_name
  pub chosen : ReadsMechanism name s.plus
  pub response : Signed 4 after_name (pos (length s.response)) s.response

abbrev pub sasl_initial_law : SaslInitialFields → Law
sasl_initial_law s = record {
  format = formats.PasswordPolymorphic;
  form = sasl_initial;
  body = sasl_initial_body s;
  count_fault = None;
  room_for = saturated;
  IsInRange = Unit {0};
  Reads = λ bytes. ReadsSaslInitial bytes s;
  CanRoundTrip = Unit {0};
  round_trip_fault = None;
}

abbrev pub sasl_initial_fields : SaslInitialResponse → SaslInitialFields
sasl_initial_fields s = record { response = s.response.now; plus = s.plus }
