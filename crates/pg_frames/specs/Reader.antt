-- What a reader answers, of either side, and what a reader of a server'"'"'s stream takes.
use Rattle.std.specs.Prelude.{◌≡◌, ℕ, List, Option, Result, Err, IsSome, MatchResult}
use Rattle.pg_base.specs.Cutting.{Begins}
use Rattle.pg_base.specs.Format.{backend_tag}
use Rattle.pg_format.specs.declared.received.ReceivedMessage.{ReceivedMessage}

-- the message at the front was taken
abbrev pub TakesMessage : List ℕ → ReceivedMessage → List ℕ → Type 0
TakesMessage old message new = Begins old (backend_tag message.format) message.contents new

-- a message is found, unless there is this error
abbrev pub IsFoundUnless : {A E : Type 0} → Result (Option A) E → E → Type 0
IsFoundUnless result unless = MatchResult result IsSome (λ error. error ≡ unless)

-- whichever fault there is, the answer is the error that tells of the fault
abbrev pub GivesFault : {F A E : Type 0} → Result A E → (F → Type 0) → (F → E) → Type 0
GivesFault {F} result IsFault as_error = (fault : F) → IsFault fault → result ≡ Err (as_error fault)
