-- A session, as C follows it.
pub mod Refusal
use Rattle.std.specs.Prelude.{◌≡◌, ◌≢◌, ◌<ℤ◌, ℕ, ℤ, pos, Bool, false, List, None}
use Rattle.pg_flow.specs.declared.fault.Fault.{Fault}
use Rattle.pg_flow.specs.declared.fault.Fault.TheVariants.{Full}
use Rattle.pg_flow.specs.declared.fixed_flow.FixedFlow.{FixedFlow}
use Rattle.pg_flow.specs.declared.heard.Heard.{Heard}
use Rattle.pg_flow.specs.declared.heard.Heard.TheVariants as whom
use Rattle.pg_flow.specs.FixedFlow.{session_in}
use Rattle.pg_flow.specs.Flow.{session_heard, session_said}
use Rattle.pg_c.specs.Flow.Refusal.{RefusesFlow}
use Rattle.pg_c.specs.declared.flow.session.PgmsgHeard.{PgmsgHeard}
use Rattle.pg_c.specs.declared.refusal.PgmsgFault.{PgmsgFault}

-- which request is answered, as C has it

abbrev pub heard_of : ℕ → ℕ → Bool → PgmsgHeard
heard_of first last is_last = record { first = first; last = last; is_last = is_last }

abbrev pub given_heard : Heard → PgmsgHeard
given_heard (whom.Answer request is_last) = heard_of request request is_last
given_heard (whom.Group first last) = heard_of first last false
given_heard _ = heard_of 0 0 false

-- as in the header
abbrev pub heard_kind : Heard → ℤ
heard_kind whom.ByItself = pos 0
heard_kind (whom.Answer request is_last) = pos 1
heard_kind (whom.Group first last) = pos 2
heard_kind whom.Login = pos 3
heard_kind whom.End = pos 4

-- a result below 0 refuses a message that can't be said, or can't come, now; or there is no room or memory

abbrev pub CantSay : ℕ → List ℕ → FixedFlow → Fault → Type 0
CantSay tag body flow fault = fault ≢ Full → session_said tag body (session_in flow) ≡ None

abbrev pub CantHear : ℕ → List ℕ → FixedFlow → Fault → Type 0
CantHear tag body flow fault = fault ≢ Full → session_heard tag body (session_in flow) ≡ None

abbrev pub RefusesSaid : ℕ → List ℕ → FixedFlow → PgmsgFault → PgmsgFault → ℤ → Type 0
RefusesSaid tag body flow old fault result = result <ℤ pos 0 → RefusesFlow (CantSay tag body flow) old fault result

abbrev pub RefusesHeard : ℕ → List ℕ → FixedFlow → PgmsgFault → PgmsgFault → ℤ → Type 0
RefusesHeard tag body flow old fault result = result <ℤ pos 0 → RefusesFlow (CantHear tag body flow) old fault result
