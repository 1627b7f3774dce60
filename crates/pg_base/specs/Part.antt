-- The parts of a body, one after the other.
use Rattle.std.specs.Prelude.{ℕ, ◌-◌, ◌^◌, ◌<◌, min, List, [], ◌∷◌, ◌++◌, Option, None}
use Rattle.std.specs.Option.{option_or}
use Rattle.pg_base.specs.declared.error.ProtocolFault.{ProtocolFault}
use Rattle.pg_base.specs.Naming.{Naming, IsNamingInRange, with_nul}
use Rattle.pg_base.specs.Numbers.{be16, be32, be64}

-- a count or a sum, or the greatest that a `usize` holds where it is more
abbrev pub saturated : ℕ → ℕ
saturated n = min n (2 ^ 64 - 1)

-- all that is said of a part: its bytes, the limit on counts that it breaks, and that its numbers are in
-- the ranges of their types
pub record PartLaw : Type 1 where
  pub text : List ℕ
  pub fault : Option ProtocolFault
  pub IsInRange : Type 0

-- bytes that break no limit
abbrev pub bytes : List ℕ → PartLaw
bytes text = record { text = text; fault = None; IsInRange = Unit {0} }

abbrev pub byte : ℕ → PartLaw
byte b = bytes (b ∷ [])

-- numbers of two bytes, of four and of eight
abbrev pub number16 : ℕ → PartLaw
number16 n = record { text = be16 n; fault = None; IsInRange = n < 2 ^ 16 }

abbrev pub number32 : ℕ → PartLaw
number32 n = record { text = be32 n; fault = None; IsInRange = n < 2 ^ 32 }

abbrev pub number64 : ℕ → PartLaw
number64 n = record { text = be64 n; fault = None; IsInRange = n < 2 ^ 64 }

-- a name and a NUL
abbrev pub name : Naming → PartLaw
name naming = record { text = with_nul naming; fault = None; IsInRange = IsNamingInRange naming }

-- two, one after the other, and the first limit that they break
abbrev pub both : PartLaw → PartLaw → PartLaw
both a b = record { text = a.text ++ b.text; fault = option_or a.fault b.fault; IsInRange = a.IsInRange × b.IsInRange }

-- the same, and of the limits that they break that of the second
abbrev pub both_from_last : PartLaw → PartLaw → PartLaw
both_from_last a b = record { text = a.text ++ b.text; fault = option_or b.fault a.fault; IsInRange = a.IsInRange × b.IsInRange }
