-- Parse: prepares a statement. Documentation: "Message Formats", Parse (F).
use Rattle.std.specs.Prelude.{ℕ, ◌^◌, ◌<◌, ◌≤◌, List, [], length, All, Option, Some}
use Rattle.pg_base.specs.declared.format.FrontendMessageFormat.TheVariants as formats
use Rattle.pg_base.specs.declared.error.ProtocolFault.{ProtocolFault}
use Rattle.pg_base.specs.declared.error.ProtocolFault.TheVariants.{TooManyParamTypes, TextHoldsNul}
use Rattle.pg_base.specs.Id.{name, statement_prefix, max_id}
use Rattle.pg_base.specs.Reading.{HoldsNo, Text, StatementName, Counted}
use Rattle.pg_base.specs.Numbers.{numbers_of}
use Rattle.pg_format.specs.Messages as page
use Rattle.pg_send.specs.declared.message.parse.Parse.{Parse}
use Rattle.pg_send.specs.Counted.{too_many}
use Rattle.pg_base.specs.Part.{saturated}
use Rattle.pg_send.specs.FrontendMessage.{Law, plain}

pub record ParseFields : Type 0 where
  pub statement : ℕ
  pub query : List ℕ
  pub param_types : List ℕ

-- it may have more types than it can count
abbrev pub parse_count_fault : ParseFields → Option ProtocolFault
parse_count_fault p = too_many TooManyParamTypes (length p.param_types)

-- what the page means by it
abbrev pub parse_value : ParseFields → page.Parse
parse_value p = record { statement = name statement_prefix p.statement; query = p.query; types = p.param_types }

-- the statement's name, the query and a NUL, and the types after their count
abbrev pub parse_body : ParseFields → List ℕ
parse_body p = page.parse.Writes (parse_value p)

-- its numbers are in their ranges
pub record IsParseInRange (p : ParseFields) : Type 0 where
  pub statement : p.statement ≤ max_id
  pub param_types : All (λ n. n < 2 ^ 32) p.param_types

-- a reader takes the statement's name, the query, and the types after their count
pub record ReadsParse (body : List ℕ) (p : ParseFields) : Type 0 where
  pub name : List ℕ
  pub after_name : List ℕ
  pub after_query : List ℕ
  pub first : Text body name after_name
  pub statement : StatementName name p.statement
  pub second : Text after_name p.query after_query
  pub types : Counted 4 after_query p.param_types []

-- a query that holds a NUL isn't read back
abbrev pub parse_law : ParseFields → Law
parse_law p = record {
  format = formats.Parse;
  form = plain;
  body = parse_body p;
  count_fault = parse_count_fault p;
  room_for = saturated;
  IsInRange = IsParseInRange p;
  Reads = λ bytes. ReadsParse bytes p;
  CanRoundTrip = HoldsNo 0 p.query;
  round_trip_fault = Some TextHoldsNul;
}

abbrev pub parse_fields : Parse → ParseFields
parse_fields p = record { statement = p.statement; query = p.query.now; param_types = numbers_of p.param_types.now }
