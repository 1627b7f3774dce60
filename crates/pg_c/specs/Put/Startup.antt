-- The settings that open a session.
use Rattle.std.specs.Prelude.{◌≡◌, ◌⊎◌, ℕ, ℤ, List, length, Some, None, Result, Ok, Err}
use Rattle.pg_base.specs.BufMut.{prefixed}
use Rattle.pg_base.specs.Part.{PartLaw}
use Rattle.pg_base.specs.Sink.{IsGiven}
use Rattle.pg_base.specs.declared.error.Error.{Error}
use Rattle.pg_base.specs.declared.error.Error.TheVariants.{Protocol, OutOfMemory}
use Rattle.pg_base.specs.declared.error.ProtocolFault.TheVariants.{TextHoldsNul}
use Rattle.pg_base.specs.Tagged.{fault_of}
use Rattle.pg_send.specs.RawStartup.{raw_startup, AreReadable}
use Rattle.pg_c.specs.Put.{number_of_answer}
use Rattle.pg_c.specs.declared.put.startup.PgmsgSetting.{PgmsgSetting}

abbrev pub name_and_value : PgmsgSetting → List ℕ × List ℕ
name_and_value setting = (setting.name.now, setting.value.now)

-- the body of the message
abbrev pub startup_of : ℕ → List PgmsgSetting → PartLaw
startup_of minor settings = raw_startup name_and_value minor settings

-- it is too long; or it isn't, and the server wouldn't get the settings back
abbrev pub IsStartupDue : ℕ → List PgmsgSetting → Error → Type 0
IsStartupDue minor settings (Protocol reading why) =
    (reading ≡ None) × ((fault_of (startup_of minor settings) ≡ Some why) ⊎ ((fault_of (startup_of minor settings) ≡ None) × (why ≡ TextHoldsNul) × ¬ AreReadable name_and_value settings))
IsStartupDue minor settings OutOfMemory = ⊥

-- the length of the message, which is given where the server gets the settings back; or the refusal
-- that is due, and the room is as it was
abbrev pub IsStartupWritten : ℕ → List PgmsgSetting → Result ℕ Error → List ℕ → List ℕ → Type 0
IsStartupWritten minor settings (Ok len) old new =
    ((fault_of (startup_of minor settings) ≡ None) × AreReadable name_and_value settings) × (len ≡ length (prefixed (startup_of minor settings).text)) × IsGiven (prefixed (startup_of minor settings).text) old new
IsStartupWritten minor settings (Err error) old new = IsStartupDue minor settings error × (new ≡ old)

-- the message of these settings is put, or refused exactly where it has to be
pub record PutsStartup (minor : ℕ) (settings : List PgmsgSetting) (old new : List ℕ) (result : ℤ) : Type 0 where
  pub answer : Result ℕ Error
  pub is : IsStartupWritten minor settings answer old new
  pub number : result ≡ number_of_answer answer
