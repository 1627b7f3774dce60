-- What is so of all that relays pass on.
use Rattle.std.specs.Prelude.{◌≡◌, ℕ, ℤ, Bool, List, [], ◌++◌, Option}
use Rattle.pg_frames.specs.declared.frontend.frame.Expects.{Expects}
use Rattle.pg_frames.specs.Relay.Answer.{Frames, Lead}
use Rattle.pg_frames.specs.Relay.Pass.{HasPassed, Relayed}
use Rattle.pg_frames.specs.Relay.{Relaying, holding, IsKept, IsRelayError}
use Rattle.pg_frames.specs.declared.relay.answer.Answer.{Answer}
use Rattle.pg_frames.specs.declared.relay.answer.Answer.TheVariants.{Keep}
use Rattle.pg_frames.specs.declared.relay.error.RelayError.TheVariants.{BadLength}

-- a user keeps each frame
abbrev pub KeepsEach : {U : Type 0} → (U → Option ℕ → List ℕ → Answer → List ℕ → U → Type 0) → Type 0
KeepsEach {U} Answers = (user : U) (tag : Option ℕ) (frame : List ℕ) (answer : Answer) (added : List ℕ) (later : U) → Answers user tag frame answer added later → answer ≡ Keep

module _ {U : Type 0} (wanted : U → ℕ → ℕ → Bool) (Answers : U → Option ℕ → List ℕ → Answer → List ℕ → U → Type 0) where
  -- a relay that has taken nothing has passed nothing on
  abbrev pub PassesNothingAtFirst : Type 0
  PassesNothingAtFirst = (start : Expects) (first : U) (limit : ℕ) → HasPassed wanted Answers start first [] [] first (holding limit start [])

  -- what went out and what the relay holds are the bytes that came
  abbrev pub PassesAsItCame : Type 0
  PassesAsItCame =
      (start : Expects) (first user : U) (bytes out : List ℕ) (relay : Relaying) → HasPassed wanted Answers start first bytes out user relay → bytes ≡ out ++ relay.held

  -- the frames that came, and those that went out, follow one another as they are expected, and after both the same is
  -- expected
  abbrev pub PassesFrames : Type 0
  PassesFrames =
      (limit : ℕ) (start last : Expects) (first user : U) (came sent : Frames) → Relayed wanted Answers limit start first came sent last user → Lead start came last × Lead start sent last

  -- of the same bytes the same frames come, and the same bytes follow them, given in parts or held
  abbrev pub ComesOneWay : Type 0
  ComesOneWay =
      (start : Expects) (first : U) (bytes a b : List ℕ) (u v : U) (r s : Relaying) (p : HasPassed wanted Answers start first bytes a u r) (q : HasPassed wanted Answers start first bytes b v s)
      → IsKept r.limit r.expects r.held r.left → IsKept s.limit s.expects s.held s.left
      → (p.came ≡ q.came) × (r.expects ≡ s.expects) × (p.given ++ r.held ≡ q.given ++ s.held)

  -- bytes in which a length is too low never pass
  abbrev pub EndsAtLowLength : Type 0
  EndsAtLowLength =
      (start : Expects) (first : U) (before rest a b : List ℕ) (u v : U) (r s : Relaying) (announced : ℤ) → HasPassed wanted Answers start first before a u r
      → IsRelayError (wanted u) r rest (BadLength announced) → HasPassed wanted Answers start first (before ++ rest) b v s
      → IsKept s.limit s.expects s.held s.left → ⊥
