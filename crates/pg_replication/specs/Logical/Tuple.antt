-- The values of a row.
use Rattle.std.specs.Prelude.{◌≡◌, ℕ, ◌==◌, ◌||◌, Bool, List, [], ◌∷◌, Option, Some, None, Result, Ok, Err, if◌then◌else◌}
use Rattle.std.specs.Option.{option_or}
use Rattle.pg_base.specs.declared.error.ProtocolFault.{ProtocolFault}
use Rattle.pg_base.specs.declared.error.ProtocolFault.TheVariants.{UnknownLetter}
use Rattle.pg_format.specs.Logical as page
use Rattle.pg_format.proofs.FormatLaws.Logical.{total_datum}
use Rattle.pg_replication.specs.declared.logical.datum.Datum.{Datum}
use Rattle.pg_replication.specs.declared.logical.datum.Datum.TheVariants as datum
use Rattle.pg_replication.specs.declared.logical.datum.OutboundDatum.{OutboundDatum}
use Rattle.pg_replication.specs.declared.logical.tuple.Tuple.{Tuple}
use Rattle.pg_replication.specs.Logical.Listed.{listed}

abbrev pub shown_datum : Datum → page.Datum
shown_datum datum.Null = page.null
shown_datum datum.Unchanged = page.unchanged
shown_datum (datum.Text value) = page.text value.now
shown_datum (datum.Binary value) = page.binary value.now

-- ---- values that a caller gives, by the letters of their kinds

abbrev pub is_kind : ℕ → Bool
is_kind byte = byte == 110 || (byte == 117 || (byte == 116 || byte == 98))

abbrev pub kind_fault : OutboundDatum → Option ProtocolFault
kind_fault it = if is_kind it.kind then None else Some (UnknownLetter it.kind)

-- that of the first that has one
abbrev pub kinds_fault : List OutboundDatum → Option ProtocolFault
kinds_fault [] = None
kinds_fault (it ∷ given) = option_or (kind_fault it) (kinds_fault given)

-- one of a known kind
abbrev pub shown_text : OutboundDatum → page.Datum
shown_text it =
    if it.kind == 110 then page.null else (
    if it.kind == 117 then page.unchanged else (
    if it.kind == 116 then page.text it.value.now else
    page.binary it.value.now))

-- ---- a row

abbrev pub datums : Tuple → List page.Datum
datums tuple = listed total_datum shown_text tuple.left tuple.bytes.now tuple.given.now

-- ---- what is made of what a caller gives

-- it shows this value, where there is no fault
abbrev pub IsMade : {A V : Type 0} → (A → V) → Option ProtocolFault → V → Result A ProtocolFault → Type 0
IsMade shown fault value (Ok it) = (fault ≡ None) × (shown it ≡ value)
IsMade shown fault value (Err why) = fault ≡ Some why
