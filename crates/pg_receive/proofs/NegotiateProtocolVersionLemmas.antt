-- The version that a server speaks: the options are read after their count.
use Rattle.std.specs.Prelude.{ℕ, ◌≤◌, List, length, drop}
use Rattle.std.proofs.Common.{refl, inl, inr}
use Rattle.pg_base.specs.Error.{IsShort}
use Rattle.pg_base.specs.declared.error.ProtocolFault.{ProtocolFault}
use Rattle.pg_format.specs.Format.{Means, IsFaultOf}
use Rattle.pg_format.specs.Format.Lists.{times}
use Rattle.pg_format.specs.Format.Parts.{be_u16, be_u32, until_nul}
use Rattle.pg_format.specs.Format.Places.{IsReadAt, BreaksAt}
use Rattle.pg_format.specs.Messages.{negotiate_protocol_version, version}
use Rattle.pg_format.proofs.FormatLaws.Places.{lacks_at}

-- both halves of the version
abbrev pub Versions : List ℕ → ℕ → ℕ → Type 0
Versions body major minor = version.Reads body (major, minor) (drop 4 body)

pub version_at : (body : List ℕ) (major minor : ℕ) → be_u16.Reads body major (drop 2 body) → be_u16.Reads (drop 2 body) minor (drop 4 body) → Versions body major minor
version_at body major minor p q = record { mid = drop 2 body; first = p; second = q }

pub negotiation_at : (body : List ℕ) (major minor n end : ℕ) (options : List (List ℕ)) → Versions body major minor → be_u32.Reads (drop 4 body) n (drop 8 body)
    → IsReadAt (times n until_nul) body 8 options end → Means negotiate_protocol_version body (record { major = major; minor = minor; options = options })
negotiation_at body major minor n end options p counted read =
    (drop end body, record { mid = drop 4 body; first = p; second = ((n, options), record { mid = drop 8 body; first = counted; second = read.reads }, refl) }, refl)

-- the count isn't there
pub count_breaks : (body : List ℕ) (major minor : ℕ) (fault : ProtocolFault) → Versions body major minor → 4 ≤ length body → IsShort body 4 4 fault → IsFaultOf negotiate_protocol_version body fault
count_breaks body major minor fault p within short = inr (record { value = (major, minor); mid = drop 4 body; reads = p; breaks = inl (lacks_at body 4 4 fault within short) })

-- an option has no end
pub options_break : (body : List ℕ) (major minor n : ℕ) (fault : ProtocolFault) → Versions body major minor → be_u32.Reads (drop 4 body) n (drop 8 body) → BreaksAt (times n until_nul) body 8 fault
    → IsFaultOf negotiate_protocol_version body fault
options_break body major minor n fault p counted breaks =
    inr (record { value = (major, minor); mid = drop 4 body; reads = p; breaks = inr (record { value = n; mid = drop 8 body; reads = counted; breaks = breaks }) })
