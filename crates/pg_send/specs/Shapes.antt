-- The laws of messages that differ in tag and form alone. Documentation: "Message Formats", the messages of their
-- names marked (F).
use Rattle.std.specs.Prelude.{◌≡◌, ℕ, Bool, List, [], Some, None, if◌then◌else◌}
use Rattle.pg_base.specs.declared.format.FrontendMessageFormat.{FrontendMessageFormat}
use Rattle.pg_base.specs.declared.format.FrontendMessageFormat.TheVariants as formats
use Rattle.pg_base.specs.declared.error.ProtocolFault.TheVariants.{TextHoldsNul}
use Rattle.pg_base.specs.Reading.{HoldsNo, Text}
use Rattle.pg_format.specs.Format.Parts.{remaining}
use Rattle.pg_format.specs.Messages as page
use Rattle.pg_base.specs.Part.{saturated}
use Rattle.pg_send.specs.FrontendMessage.{Form, Law, plain}

-- a message without a body
abbrev pub empty_law : FrontendMessageFormat → Law
empty_law format = record {
  format = format;
  form = plain;
  body = page.empty.Writes tt;
  count_fault = None;
  room_for = saturated;
  IsInRange = Unit {0};
  Reads = λ bytes. bytes ≡ [];
  CanRoundTrip = Unit {0};
  round_trip_fault = None;
}

-- a message whose body is some bytes
abbrev pub bytes_law : FrontendMessageFormat → Form → List ℕ → Law
bytes_law format form sent = record {
  format = format;
  form = form;
  body = remaining.Writes sent;
  count_fault = None;
  room_for = saturated;
  IsInRange = Unit {0};
  Reads = λ bytes. bytes ≡ sent;
  CanRoundTrip = Unit {0};
  round_trip_fault = None;
}

-- a message whose body is a text and a NUL; one with a NUL in its text isn't read back
abbrev pub text_law : FrontendMessageFormat → Form → (ℕ → ℕ) → List ℕ → Law
text_law format form room_for text = record {
  format = format;
  form = form;
  body = page.text.Writes text;
  count_fault = None;
  room_for = room_for;
  IsInRange = Unit {0};
  Reads = λ bytes. Text bytes text [];
  CanRoundTrip = HoldsNo 0 text;
  round_trip_fault = Some TextHoldsNul;
}

-- that of a CopyFail, or else of a Query
abbrev pub copy_fail_or_query_law : Bool → List ℕ → Law
copy_fail_or_query_law fails text = text_law (if fails then formats.CopyFail else formats.Query) plain saturated text
