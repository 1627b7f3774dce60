use Rattle.std.proofs.Common.{ℕ, ◌-◌, ◌≤◌, List, length, drop}
use Rattle.pg_format.specs.Format.Lists.{AreRead}
use Rattle.pg_format.specs.Messages.{setting}
use Rattle.pg_server.proofs.frontend.settings.settings_at.Given as goal

-- settings up to here, which is within the body
pub record SoFar (body : List ℕ) (at end : ℕ) : Type 0 where
  pub within : end ≤ length body
  pub all : List (List ℕ × List ℕ)
  pub are_read : AreRead setting (drop at body) all (drop end body)

abbrev pub invariant-settings : goal.invariant-settings
invariant-settings l = SoFar l.body l.at l.end

abbrev pub decreases-settings : goal.decreases-settings
decreases-settings l = length l.body - l.end
