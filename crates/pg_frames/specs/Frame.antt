-- What is found at the front of some bytes.
use Rattle.std.specs.Prelude.{List, ℕ, Option, Result, IfOk, IfSome, IfNone, MatchOption}
use Rattle.pg_base.specs.Cutting.{Begins}
use Rattle.pg_base.specs.Format.{backend_tag}
use Rattle.pg_frames.specs.declared.frame.Frame.{Frame}

-- where something is found, this is so of the thing
abbrev pub IfFound : {A E : Type 0} → Result (Option A) E → (A → Type 0) → Type 0
IfFound result Holds = IfOk result (λ found. IfSome found Holds)

-- where nothing is found yet, this is so
abbrev pub IfNotFound : {A E : Type 0} → Result (Option A) E → Type 0 → Type 0
IfNotFound result Holds = IfOk result (λ found. IfNone found Holds)

-- the first is so where nothing is found, and the second of the thing where one is
abbrev pub MatchFound : {A E : Type 0} → Result (Option A) E → Type 0 → (A → Type 0) → Type 0
MatchFound result Nothing Holds = IfOk result (λ found. MatchOption found Nothing Holds)

-- a frame is the message at the front of the bytes, and what comes after it
abbrev pub LiesAtFront : List ℕ → Frame → Type 0
LiesAtFront stream frame = Begins stream (backend_tag frame.format) frame.body.now frame.rest.now
