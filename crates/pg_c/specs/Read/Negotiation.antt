-- The version that a server speaks, as a C program reads it.
use Rattle.std.specs.Prelude.{◌≡◌, ℕ, ℤ, pos, List, length}
use Rattle.pg_format.specs.Format.{Means}
use Rattle.pg_format.specs.Messages.{Negotiation, negotiate_protocol_version}
use Rattle.pg_c.specs.Place.{part}
use Rattle.pg_c.specs.Read.{AreGiven, GivesFront}
use Rattle.pg_c.specs.declared.place.PgmsgSpan.{PgmsgSpan}
use Rattle.pg_c.specs.declared.read.negotiation.PgmsgNegotiation.{PgmsgNegotiation}
use Rattle.pg_format.specs.Format.Parts.{until_nul}

-- the body means a version and as many options as the result, and they are given
pub record ReadsNegotiation (body : List ℕ) (version : PgmsgNegotiation) (old new : List PgmsgSpan) (result : ℤ) : Type 0 where
  pub value : Negotiation
  pub means : Means negotiate_protocol_version body value
  pub major : version.major ≡ value.major
  pub minor : version.minor ≡ value.minor
  pub count : result ≡ pos (length value.options)
  pub given : AreGiven (part body) value.options old new

-- the front of the options is given, where the body is refused
abbrev pub GivesOptions : List ℕ → List PgmsgSpan → List PgmsgSpan → Type 0
GivesOptions body old new = GivesFront until_nul (part body) body 8 old new
