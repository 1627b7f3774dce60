-- RawBind: makes a portal of any name. Documentation: "Message Formats", Bind (F).
use Rattle.std.specs.Prelude.{ℕ, ◌^◌, ◌<◌, List, length, map, All, Option, Some}
use Rattle.std.specs.Option.{option_or}
use Rattle.pg_base.specs.declared.format.FrontendMessageFormat.TheVariants as formats
use Rattle.pg_base.specs.declared.error.ProtocolFault.{ProtocolFault}
use Rattle.pg_base.specs.declared.error.ProtocolFault.TheVariants.{TooManyParamFormats, TooManyResultFormats, BadParams, TextHoldsNul}
use Rattle.pg_base.specs.Reading.{HoldsNo}
use Rattle.pg_format.specs.Format.{Means}
use Rattle.pg_format.specs.Messages as page
use Rattle.pg_send.specs.declared.message.raw_bind.RawBind.{RawBind}
use Rattle.pg_send.specs.Counted.{too_many}
use Rattle.pg_base.specs.Part.{saturated}
use Rattle.pg_send.specs.FrontendMessage.{Law, raw}

-- it may have more formats than it can count, first of the parameters and then of the results, or more
-- values
abbrev pub raw_bind_count_fault : page.Bind → Option ProtocolFault
raw_bind_count_fault b =
    option_or (too_many TooManyParamFormats (length b.formats)) (option_or (too_many TooManyResultFormats (length b.result_formats)) (too_many (λ _. BadParams) (length b.values)))

-- the two names, each with a NUL, the formats of the parameters after their count, the values after theirs,
-- and the formats of the results after theirs
abbrev pub raw_bind_body : page.Bind → List ℕ
raw_bind_body b = page.bind.Writes b

pub record IsRawBindInRange (b : page.Bind) : Type 0 where
  pub formats : All (λ code. code < 2 ^ 16) b.formats
  pub result_formats : All (λ code. code < 2 ^ 16) b.result_formats

-- neither name holds a NUL, which would end it
pub record CanBindRoundTrip (b : page.Bind) : Type 0 where
  pub portal : HoldsNo 0 b.portal
  pub statement : HoldsNo 0 b.statement

-- a reader takes it apart by the page
abbrev pub raw_bind_law : page.Bind → Law
raw_bind_law b = record {
  format = formats.Bind;
  form = raw;
  body = raw_bind_body b;
  count_fault = raw_bind_count_fault b;
  room_for = saturated;
  IsInRange = IsRawBindInRange b;
  Reads = λ bytes. Means page.bind bytes b;
  CanRoundTrip = CanBindRoundTrip b;
  round_trip_fault = Some TextHoldsNul;
}

-- of values that are in the caller's form
abbrev pub raw_bind_fields : {V : Type 0} → (V → Option (List ℕ)) → RawBind V → page.Bind
raw_bind_fields value b = record {
  portal = b.portal.now;
  statement = b.statement.now;
  formats = b.formats.now;
  values = map value b.values.now;
  result_formats = b.result_formats.now;
}
