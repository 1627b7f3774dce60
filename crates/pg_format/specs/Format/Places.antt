-- Values that stand between two offsets of a body.
use Rattle.std.specs.Prelude.{◌≡◌, ℕ, ◌+◌, ◌≤◌, List, length, drop, Option, Result, Ok, Err, IfOk, IfSome}
use Rattle.pg_base.specs.declared.error.ProtocolFault.{ProtocolFault}
use Rattle.pg_format.specs.Format.{Format, Means}

-- a value is read from one offset to another
pub record IsReadAt {A : Type 0} (g : Format A) (body : List ℕ) (at : ℕ) (a : A) (end : ℕ) : Type 0 where
  pub within : end ≤ length body
  pub reads : g.Reads (drop at body) a (drop end body)

-- some value is read from one offset to another
pub record EndsAt {A : Type 0} (g : Format A) (body : List ℕ) (at end : ℕ) : Type 0 where
  pub value : A
  pub read : IsReadAt g body at value end

-- what stands at an offset can't be read
abbrev pub BreaksAt : {A : Type 0} → Format A → List ℕ → ℕ → ProtocolFault → Type 0
BreaksAt g body at fault = g.Breaks (length body) (drop at body) fault

-- what stands at an offset, and the offset after it
abbrev pub ReadsAt : {I A : Type 0} → Format A → (I → A) → List ℕ → ℕ → Result (I × ℕ) ProtocolFault → Type 0
ReadsAt g shown body at result = IfOk result (λ found. IsReadAt g body at (shown found.0) found.1)

-- where a value is found, it is read from this offset to the one that is found with it
abbrev pub FindsAt : {I A : Type 0} → Format A → (I → A) → List ℕ → ℕ → Option (I × ℕ) → Type 0
FindsAt g shown body at found = IfSome found (λ it. IsReadAt g body at (shown it.0) it.1)

-- a value is read from this offset on, and the rest follows at the one that is given with it
abbrev pub ReadsFrom : {I A : Type 0} → Format A → (I → A) → List ℕ → ℕ → Result (I × ℕ) ProtocolFault → Type 0
ReadsFrom g shown body at result = IfOk result (λ found. g.Reads (drop at body) (shown found.0) (drop found.1 body))

-- the offset that is given with a text is the one after its NUL, and lies within the body
abbrev pub EndsAfterNul : {I : Type 0} → (I → List ℕ) → List ℕ → ℕ → Result (I × ℕ) ProtocolFault → Type 0
EndsAfterNul shown body at result =
    IfOk result (λ found. (found.1 ≡ at + length (shown found.0) + 1) × (found.1 ≤ length body))

-- what a body has from an offset on means a value; or has a fault
abbrev pub ReadsAfter : {I A : Type 0} → Format A → (I → A) → List ℕ → ℕ → Result I ProtocolFault → Type 0
ReadsAfter g shown body at (Ok value) = Means g (drop at body) (shown value)
ReadsAfter g shown body at (Err fault) = BreaksAt g body at fault
