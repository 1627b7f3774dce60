-- RawStartup: opens a session by a minor version of the protocol's version 3; it has no tag. Documentation: "Message
-- Formats", StartupMessage (F).
use Rattle.std.specs.Prelude.{◌≡◌, ◌↔◌, ℕ, ◌^◌, ◌<◌, List, [], ◌∷◌, ◌++◌, map}
use Rattle.std.specs.List.{flat_map, All}
use Rattle.pg_base.specs.Numbers.{be32}
use Rattle.pg_base.specs.Part.{PartLaw, bytes}
use Rattle.pg_format.specs.Format.{Means}
use Rattle.pg_format.specs.Messages as page
use Rattle.pg_send.specs.Startup.{setting, IsReadable}
use Rattle.pg_send.specs.declared.message.raw_startup.RawStartup.{RawStartup}

-- the version, each setting, and a NUL
abbrev pub raw_startup_body : ℕ → List (List ℕ × List ℕ) → List ℕ
raw_startup_body minor settings = be32 (page.first_code (page.opening minor settings)) ++ (flat_map setting settings ++ 0 ∷ [])

-- the body, as a part, with the settings as the caller has them
abbrev pub raw_startup : {S : Type 0} → (S → List ℕ × List ℕ) → ℕ → List S → PartLaw
raw_startup pair minor settings = bytes (raw_startup_body minor (map pair settings))

abbrev pub raw_startup_of : {S : Type 0} → (S → List ℕ × List ℕ) → RawStartup S → PartLaw
raw_startup_of pair it = raw_startup pair it.minor it.settings.now

-- a reader gets all settings back
abbrev pub AreReadable : {S : Type 0} → (S → List ℕ × List ℕ) → List S → Type 0
AreReadable pair settings = All IsReadable (map pair settings)

-- what holds of a minor version in its range and of settings that a reader gets back
abbrev pub IfOpened : ℕ → List (List ℕ × List ℕ) → Type 0 → Type 0
IfOpened minor settings Holds = minor < 2 ^ 16 → All IsReadable settings → Holds

-- the page writes the same
abbrev pub StartupIsOfPage : ℕ → List (List ℕ × List ℕ) → Type 0
StartupIsOfPage minor settings = raw_startup_body minor settings ≡ page.first_message.Writes (page.opening minor settings)

-- a server reads the version and the settings, and nothing else
abbrev pub StartupIsReadBack : ℕ → List (List ℕ × List ℕ) → Type 0
StartupIsReadBack minor settings = (read : page.First) → Means page.first_message (raw_startup_body minor settings) read ↔ (read ≡ page.opening minor settings)
