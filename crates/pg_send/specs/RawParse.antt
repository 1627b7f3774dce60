-- RawParse: prepares a statement of any name. Documentation: "Message Formats", Parse (F).
use Rattle.std.specs.Prelude.{ℕ, ◌^◌, ◌<◌, List, length, map, All, Option, Some}
use Rattle.pg_base.specs.declared.format.FrontendMessageFormat.TheVariants as formats
use Rattle.pg_base.specs.declared.error.ProtocolFault.{ProtocolFault}
use Rattle.pg_base.specs.declared.error.ProtocolFault.TheVariants.{TooManyParamTypes, TextHoldsNul}
use Rattle.pg_base.specs.Reading.{HoldsNo}
use Rattle.pg_format.specs.Format.{Means}
use Rattle.pg_format.specs.Messages as page
use Rattle.pg_send.specs.declared.message.raw_parse.RawParse.{RawParse}
use Rattle.pg_send.specs.Counted.{too_many}
use Rattle.pg_base.specs.Part.{saturated}
use Rattle.pg_send.specs.FrontendMessage.{Law, raw}

-- it may have more types than it can count
abbrev pub raw_parse_count_fault : page.Parse → Option ProtocolFault
raw_parse_count_fault p = too_many TooManyParamTypes (length p.types)

-- the name and a NUL, the query and a NUL, and the types after their count
abbrev pub raw_parse_body : page.Parse → List ℕ
raw_parse_body p = page.parse.Writes p

-- neither text holds a NUL, which would end it
pub record CanParseRoundTrip (p : page.Parse) : Type 0 where
  pub statement : HoldsNo 0 p.statement
  pub query : HoldsNo 0 p.query

-- a reader takes it apart by the page
abbrev pub raw_parse_law : page.Parse → Law
raw_parse_law p = record {
  format = formats.Parse;
  form = raw;
  body = raw_parse_body p;
  count_fault = raw_parse_count_fault p;
  room_for = saturated;
  IsInRange = All (λ n. n < 2 ^ 32) p.types;
  Reads = λ bytes. Means page.parse bytes p;
  CanRoundTrip = CanParseRoundTrip p;
  round_trip_fault = Some TextHoldsNul;
}

-- of types that are in the caller's form
abbrev pub raw_parse_fields : {T : Type 0} → (T → ℕ) → RawParse T → page.Parse
raw_parse_fields number p = record { statement = p.statement.now; query = p.query.now; types = map number p.param_types.now }
