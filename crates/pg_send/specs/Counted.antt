-- Lists in a body, each after its count.
use Rattle.std.specs.Prelude.{ℕ, ◌^◌, ◌<◌, ◌==◌, List, ◌++◌, length, map, All, Option, Some, None, nat_le, if◌then◌else◌}
use Rattle.std.specs.List.{flat_map}
use Rattle.pg_base.specs.declared.error.ProtocolFault.{ProtocolFault}
use Rattle.pg_base.specs.declared.error.ProtocolFault.TheVariants.{TooManyParamTypes}
use Rattle.pg_base.specs.Numbers.{be16, be32, max_count}
use Rattle.pg_base.specs.Part.{PartLaw}

-- the fault of a list that is longer, of which it tells the length
abbrev pub too_many : (ℕ → ProtocolFault) → ℕ → Option ProtocolFault
too_many fault count = if nat_le count max_count then None else Some (fault count)

-- numbers of two bytes each, and of four, after their count
abbrev pub counted16 : List ℕ → List ℕ
counted16 ns = be16 (length ns) ++ flat_map be16 ns

-- the same of items that have a number each
abbrev pub codes_of : {C : Type 0} → (C → ℕ) → List C → List ℕ
codes_of code items = counted16 (map code items)

abbrev pub counted32 : List ℕ → List ℕ
counted32 ns = be16 (length ns) ++ flat_map be32 ns

-- codes after their count, each below a limit
abbrev pub codes : (ℕ → ProtocolFault) → ℕ → List ℕ → PartLaw
codes fault limit ns = record { text = counted16 ns; fault = too_many fault (length ns); IsInRange = All (λ code. code < limit) ns }

-- the numbers of types after their count
abbrev pub types : List ℕ → PartLaw
types ns = record { text = counted32 ns; fault = too_many TooManyParamTypes (length ns); IsInRange = All (λ n. n < 2 ^ 32) ns }

-- 0 is text, and anything else binary
abbrev pub format_of : ℕ → ℕ
format_of number = if number == 0 then 0 else 1
