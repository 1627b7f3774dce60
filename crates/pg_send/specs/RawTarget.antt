-- What a RawDescribe or a RawClose names: a prepared statement or a portal, by any name.
use Rattle.std.specs.Prelude.{ℕ, Bool, Some, None, if◌then◌else◌}
use Rattle.pg_base.specs.declared.format.FrontendMessageFormat.{FrontendMessageFormat}
use Rattle.pg_base.specs.declared.format.FrontendMessageFormat.TheVariants as formats
use Rattle.pg_base.specs.declared.error.ProtocolFault.TheVariants.{TextHoldsNul}
use Rattle.pg_base.specs.Reading.{HoldsNo}
use Rattle.pg_format.specs.Format.{Means}
use Rattle.pg_format.specs.Messages as page
use Rattle.pg_base.specs.Part.{saturated}
use Rattle.pg_send.specs.declared.message.raw_target.RawTargetOf.{RawTargetOf}
use Rattle.pg_send.specs.declared.message.raw_target.RawTargetOf.TheVariants as message
use Rattle.pg_send.specs.FrontendMessage.{Law, raw}

-- a reader takes it apart by the page; a name that holds a NUL isn't read back
abbrev pub raw_target_law : FrontendMessageFormat → page.Targeted → Law
raw_target_law format target = record {
  format = format;
  form = raw;
  body = page.targeted.Writes target;
  count_fault = None;
  room_for = saturated;
  IsInRange = Unit {0};
  Reads = λ bytes. Means page.targeted bytes target;
  CanRoundTrip = HoldsNo 0 target.name;
  round_trip_fault = Some TextHoldsNul;
}

abbrev pub raw_close_law : page.Targeted → Law
raw_close_law target = raw_target_law formats.Close target

abbrev pub raw_describe_law : page.Targeted → Law
raw_describe_law target = raw_target_law formats.Describe target

abbrev pub raw_close_or_describe_law : Bool → page.Targeted → Law
raw_close_or_describe_law closes target = raw_target_law (if closes then formats.Close else formats.Describe) target

abbrev pub raw_target_of : {closes : ℕ} → RawTargetOf closes → page.Targeted
raw_target_of (message.Statement name) = record { target = page.statement; name = name.now }
raw_target_of (message.Portal name) = record { target = page.portal; name = name.now }
