-- SaslInitial: chooses any mechanism of authentication, and may begin it. Documentation: "Message
-- Formats", SASLInitialResponse (F).
use Rattle.std.specs.Prelude.{ℕ, List, Some, None, option_copied}
use Rattle.pg_base.specs.declared.format.FrontendMessageFormat.TheVariants as formats
use Rattle.pg_base.specs.declared.error.ProtocolFault.TheVariants.{TextHoldsNul}
use Rattle.pg_base.specs.Reading.{HoldsNo}
use Rattle.pg_format.specs.Format.{Means}
use Rattle.pg_format.specs.Messages as page
use Rattle.pg_send.specs.declared.message.sasl_initial.SaslInitial.{SaslInitial}
use Rattle.pg_base.specs.Part.{saturated}
use Rattle.pg_send.specs.FrontendMessage.{Law, any_sasl_initial}

-- the mechanism and a NUL, and the response after its length, which is -1 where there is none
abbrev pub any_sasl_body : page.SaslInitial → List ℕ
any_sasl_body s = page.sasl_initial_response.Writes s

-- a reader takes it apart by the page; a name that holds a NUL isn't read back
abbrev pub any_sasl_law : page.SaslInitial → Law
any_sasl_law s = record {
  format = formats.PasswordPolymorphic;
  form = any_sasl_initial;
  body = any_sasl_body s;
  count_fault = None;
  room_for = saturated;
  IsInRange = Unit {0};
  Reads = λ bytes. Means page.sasl_initial_response bytes s;
  CanRoundTrip = HoldsNo 0 s.mechanism;
  round_trip_fault = Some TextHoldsNul;
}

abbrev pub any_sasl_fields : SaslInitial → page.SaslInitial
any_sasl_fields s = record { mechanism = s.mechanism.now; response = option_copied s.response }
