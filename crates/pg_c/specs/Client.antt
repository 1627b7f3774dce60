-- Why a call that reads a client's message refuses its body.
pub mod Bind
pub mod Execute
pub mod First
pub mod Frames
pub mod FunctionCall
pub mod Parse
pub mod Parts
pub mod SaslInitial
pub mod Startup
pub mod Target
pub mod Text
pub mod Values
use Rattle.std.specs.Prelude.{◌≤◌, ◌<ℤ◌, ◌⊎◌, ℕ, ℤ, pos, List, length}
use Rattle.pg_format.specs.Format.{Format}
use Rattle.pg_server.specs.Frontend.Message.{HasFault}
use Rattle.pg_server.specs.declared.frontend.error.FrontendFault.{FrontendFault}
use Rattle.pg_format.specs.Received.{max_body}
use Rattle.pg_c.specs.Read.{IsTooLong}
use Rattle.pg_c.specs.Refusal.{Refuses, RefusesClient}
use Rattle.pg_c.specs.declared.refusal.PgmsgFault.{PgmsgFault}

-- a result below 0 refuses the body: it is longer than any, or has such a fault
abbrev pub RefusesClientBodyFor : (List ℕ → FrontendFault → Type 0) → List ℕ → PgmsgFault → PgmsgFault → ℤ → Type 0
RefusesClientBodyFor IsFault body old new result =
    result <ℤ pos 0 → Refuses (IsTooLong body) old new result ⊎ ((length body ≤ max_body) × RefusesClient (IsFault body) old new result)

-- a fault by its format
abbrev pub RefusesClientBody : {V : Type 0} → Format V → List ℕ → PgmsgFault → PgmsgFault → ℤ → Type 0
RefusesClientBody g body = RefusesClientBodyFor (λ bytes. HasFault g bytes 0) body
