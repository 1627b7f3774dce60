-- A stream that is passed on, as C has it.
pub mod Passage
pub mod Refusal
use Rattle.std.specs.Prelude.{ℕ, List, Bool, true, false}
use Rattle.pg_frames.specs.Relay.Answer.{IsRun}
use Rattle.pg_frames.specs.declared.frontend.frame.Expects.{Expects}
use Rattle.pg_frames.specs.declared.frontend.frame.Expects.TheVariants.{First, Tagged}

-- which message comes next, by whether it is a first one
abbrev pub expected : Bool → Expects
expected true = First
expected false = Tagged

-- the bytes are no run of whole messages, whatever comes after them
abbrev pub AreNoFrames : Bool → List ℕ → Type 0
AreNoFrames is_first bytes = (last : Expects) → ¬ (IsRun (expected is_first) bytes last)
