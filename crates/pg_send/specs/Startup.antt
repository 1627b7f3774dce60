-- Startup: opens a session; it has no tag. Documentation: "Message Formats", StartupMessage (F).
use Rattle.std.specs.Prelude.{ℕ, ◌+◌, ◌<◌, List, [], ◌∷◌, ◌++◌, map, length, codes, option_copied, Option, Some, None, MatchOption}
use Rattle.std.specs.Borrow.{Bor}
use Rattle.std.specs.List.{flat_map, All}
use Rattle.pg_base.specs.Numbers.{be32}
use Rattle.pg_base.specs.Reading.{HoldsNo}
use Rattle.pg_base.specs.Ended.{ended}
use Rattle.pg_send.specs.declared.message.startup.Startup.{Startup}

pub record StartupFields : Type 0 where
  pub username : Option (List ℕ)
  pub database : Option (List ℕ)
  pub params : List (List ℕ × List ℕ)

-- protocol 3.0: the major version in the upper two bytes, the minor one in the lower
abbrev pub protocol_version : ℕ
protocol_version = 196608

-- a name and its value, each ended by a NUL
abbrev pub setting : List ℕ × List ℕ → List ℕ
setting (name, value) = ended name ++ ended value

abbrev pub setting_where_there : List ℕ → Option (List ℕ) → List ℕ
setting_where_there name (Some value) = setting (name, value)
setting_where_there name None = []

-- the version; the user, the database and each parameter; and a NUL
abbrev pub startup_body : StartupFields → List ℕ
startup_body s =
    be32 protocol_version ++ (setting_where_there (codes "user") s.username ++ (setting_where_there (codes "database") s.database ++ (flat_map setting s.params ++ 0 ∷ [])))

-- the whole, after its length
abbrev pub startup_text : StartupFields → List ℕ
startup_text s = be32 (length (startup_body s) + 4) ++ startup_body s

-- the user, the database and each parameter
abbrev pub named_where_there : List ℕ → Option (List ℕ) → List (List ℕ × List ℕ)
named_where_there name (Some value) = (name, value) ∷ []
named_where_there name None = []

abbrev pub all_settings : StartupFields → List (List ℕ × List ℕ)
all_settings s = named_where_there (codes "user") s.username ++ (named_where_there (codes "database") s.database ++ s.params)

-- a reader gets the setting back: a NUL would end the name or the value, and an empty name the settings
pub record IsReadable (pair : List ℕ × List ℕ) : Type 0 where
  pub named : 0 < length pair.0
  pub name : HoldsNo 0 pair.0
  pub value : HoldsNo 0 pair.1

abbrev pub IsReadableWhereThere : Option (List ℕ) → Type 0
IsReadableWhereThere value = MatchOption value (Unit {0}) (HoldsNo 0)

-- a reader gets all settings back
pub record StartupCanRoundTrip (s : StartupFields) : Type 0 where
  pub username : IsReadableWhereThere s.username
  pub database : IsReadableWhereThere s.database
  pub params : All IsReadable s.params

-- a name and a value as the program borrows them
abbrev pub setting_of : Bor (List ℕ) × Bor (List ℕ) → List ℕ × List ℕ
setting_of pair = (pair.0.now, pair.1.now)

abbrev pub settings_of : List (Bor (List ℕ) × Bor (List ℕ)) → List (List ℕ × List ℕ)
settings_of params = map setting_of params

abbrev pub startup_fields : Startup → StartupFields
startup_fields s = record { username = option_copied s.username; database = option_copied s.database; params = settings_of s.params.now }
