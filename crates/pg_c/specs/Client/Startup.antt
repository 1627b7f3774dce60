-- The settings of a Startup, given where they stand.
use Rattle.std.specs.Prelude.{ℕ, List, Option, drop}
use Rattle.std.specs.Borrow.{Bor}
use Rattle.std.specs.Option.{option_zip}
use Rattle.pg_format.specs.Messages.{setting}
use Rattle.pg_server.specs.Frontend.Lists.{settings_in}
use Rattle.pg_c.specs.Place.{part}
use Rattle.pg_c.specs.declared.read.status.PgmsgParameterStatus.{PgmsgParameterStatus}

-- the name and the value at their places
abbrev pub setting_in : List ℕ → PgmsgParameterStatus → Option (List ℕ × List ℕ)
setting_in body setting = option_zip (part body setting.name) (part body setting.value)

-- the settings that a body asks for, which follow its code
abbrev pub asked_for : List ℕ → List (List ℕ × List ℕ)
asked_for body = settings_in (drop 4 body)

-- a name and a value are read at the front of some bytes, and what follows them is the rest
abbrev pub SplitsSetting : List ℕ → Bor (List ℕ) × Bor (List ℕ) × Bor (List ℕ) → Type 0
SplitsSetting bytes found = setting.Reads bytes (found.0.now, found.1.now) found.2.now
