-- What is said of the fields of a body that is written and read.
use Rattle.std.specs.Prelude.{ℕ, ◌^◌, ◌<◌, ℤ, None}
use Rattle.pg_base.specs.Part.{PartLaw}
use Rattle.pg_format.specs.Format.Parts.{be_u8, complement, FitsSigned}

-- a number of one byte
abbrev pub number8 : ℕ → PartLaw
number8 n = record { text = be_u8.Writes n; fault = None; IsInRange = n < 2 ^ 8 }

-- a signed number of four bytes, and one of eight
abbrev pub signed32 : ℤ → PartLaw
signed32 z = record { text = complement 4 z; fault = None; IsInRange = FitsSigned 4 z }

abbrev pub signed64 : ℤ → PartLaw
signed64 z = record { text = complement 8 z; fault = None; IsInRange = FitsSigned 8 z }
