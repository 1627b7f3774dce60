-- Why a stream isn't passed on, as a number and in words.
use Rattle.std.specs.Prelude.{ℤ, negsuc}
use Rattle.pg_frames.specs.Relay.Error.{error_words}
use Rattle.pg_frames.specs.declared.relay.error.RelayError.{RelayError}
use Rattle.pg_frames.specs.declared.relay.error.RelayError.TheVariants.{BadLength, TooLong, NotFrames, OutOfMemory}
use Rattle.pg_c.specs.Refusal.{IsReportOf}
use Rattle.pg_c.specs.declared.refusal.PgmsgFault.{PgmsgFault}

-- as in the header
abbrev pub relay_number : RelayError → ℤ
relay_number (BadLength length) = negsuc 17
relay_number (TooLong length limit) = negsuc 28
relay_number NotFrames = negsuc 27
relay_number OutOfMemory = negsuc 0

-- no fault names an offset
abbrev pub IsRelayReport : RelayError → PgmsgFault → PgmsgFault → ℤ → Type 0
IsRelayReport error = IsReportOf (relay_number error) 0 (error_words error)

-- a call that passes on refuses for a fault that the stream has
pub record RefusesRelay (IsFault : RelayError → Type 0) (old fault : PgmsgFault) (result : ℤ) : Type 0 where
  pub why : RelayError
  pub is : IsFault why
  pub report : IsRelayReport why old fault result
