-- RawExecute: runs a portal of any name. Documentation: "Message Formats", Execute (F).
use Rattle.std.specs.Prelude.{ℕ, ◌^◌, ◌<◌, List, Some, None}
use Rattle.pg_base.specs.declared.format.FrontendMessageFormat.TheVariants as formats
use Rattle.pg_base.specs.declared.error.ProtocolFault.TheVariants.{TextHoldsNul}
use Rattle.pg_base.specs.Reading.{HoldsNo}
use Rattle.pg_format.specs.Format.{Means}
use Rattle.pg_format.specs.Messages as page
use Rattle.pg_send.specs.declared.message.raw_execute.RawExecute.{RawExecute}
use Rattle.pg_base.specs.Part.{saturated}
use Rattle.pg_send.specs.FrontendMessage.{Law, raw}

-- the name and a NUL, and the limit
abbrev pub raw_execute_body : page.Execute → List ℕ
raw_execute_body e = page.execute.Writes e

-- a reader takes it apart by the page; a name that holds a NUL isn't read back
abbrev pub raw_execute_law : page.Execute → Law
raw_execute_law e = record {
  format = formats.Execute;
  form = raw;
  body = raw_execute_body e;
  count_fault = None;
  room_for = saturated;
  IsInRange = e.limit < 2 ^ 32;
  Reads = λ bytes. Means page.execute bytes e;
  CanRoundTrip = HoldsNo 0 e.portal;
  round_trip_fault = Some TextHoldsNul;
}

abbrev pub raw_execute_fields : RawExecute → page.Execute
raw_execute_fields e = record { portal = e.portal.now; limit = e.limit }
