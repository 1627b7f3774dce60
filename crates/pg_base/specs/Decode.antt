-- What a call that decodes answers.
use Rattle.std.specs.Prelude.{◌≡◌, ℕ, List, Option, Result, Ok, Err}
use Rattle.pg_base.specs.declared.format.BackendMessageFormat.{BackendMessageFormat}
use Rattle.pg_base.specs.declared.error.ProtocolFault.{ProtocolFault}
use Rattle.pg_base.specs.declared.error.Error.{Error}
use Rattle.pg_base.specs.declared.error.Error.TheVariants.{Protocol, OutOfMemory}

-- A value that the body means; or what is wrong with the body, with the kind of message that was
-- read; or out of memory, where the body can't be read without.
abbrev pub Decodes : {A V : Type 0} → (List ℕ → V → Type 0) → (List ℕ → ProtocolFault → Type 0) → (List ℕ → Type 0) → (A → V)
    → Option BackendMessageFormat → List ℕ → Result A Error → Type 0
Decodes Means IsFault NeedsNoMemory shown reading body (Ok value) = Means body (shown value)
Decodes Means IsFault NeedsNoMemory shown reading body (Err (Protocol format fault)) = (format ≡ reading) × IsFault body fault
Decodes Means IsFault NeedsNoMemory shown reading body (Err OutOfMemory) = ¬ NeedsNoMemory body

-- a body means one value
abbrev pub MeansOne : {V : Type 0} → (List ℕ → V → Type 0) → Type 0
MeansOne {V} Means = (body : List ℕ) (v w : V) → Means body v → Means body w → v ≡ w

-- a body with a value has no fault
abbrev pub NeverBoth : {V : Type 0} → (List ℕ → V → Type 0) → (List ℕ → ProtocolFault → Type 0) → Type 0
NeverBoth {V} Means IsFault = (body : List ℕ) (v : V) (fault : ProtocolFault) → Means body v → IsFault body fault → ⊥
