-- What a call that reads answers, and how the places that it gives are those of items.
pub mod Authentication
pub mod Columns
pub mod Copy
pub mod End
pub mod Fields
pub mod Frame
pub mod FunctionResult
pub mod Negotiation
pub mod Row
pub mod Status
use Rattle.std.specs.Prelude.{◌≡◌, ◌<◌, ◌≤◌, ◌<ℤ◌, ◌≤ℤ◌, ◌⊎◌, ℕ, ℤ, pos, List, Option, Some, map, take, drop, length, Result, Ok, Err, IfOk}
use Rattle.pg_base.specs.declared.error.ProtocolFault.{ProtocolFault}
use Rattle.pg_base.specs.declared.error.ProtocolFault.TheVariants.{BodyTooLong}
use Rattle.pg_format.specs.Received.{max_body}
use Rattle.pg_format.specs.Format.{Format, Means, IsFaultOf}
use Rattle.pg_format.specs.Format.Lists.{times}
use Rattle.pg_format.specs.Format.Places.{IsReadAt}
use Rattle.pg_c.specs.Refusal.{RefusesFor}
use Rattle.pg_c.specs.declared.refusal.PgmsgFault.{PgmsgFault}

-- a result from 0 on is what was read: this holds of the result
abbrev pub IfRead : ℤ → (ℤ → Type 0) → Type 0
IfRead result Holds = pos 0 ≤ℤ result → Holds result

-- the same of a count that was read, as the number that the call returns
abbrev pub IfCount : {E : Type 0} → Result ℕ E → (ℤ → Type 0) → Type 0
IfCount result Holds = IfOk result (λ count. Holds (pos count))

-- what a call leaves as it was: the fault, where it doesn't refuse, and what it gives, where it does
pub record LeavesEither {A : Type 0} (old_fault fault : PgmsgFault) (old new : A) (result : ℤ) : Type 0 where
  pub untouched : pos 0 ≤ℤ result → fault ≡ old_fault
  pub kept : result <ℤ pos 0 → new ≡ old

-- the same of a call that reads a body, which then isn't longer than any
pub record LeavesRest {A : Type 0} (body : List ℕ) (old_fault fault : PgmsgFault) (old new : A) (result : ℤ) : Type 0 where
  pub within : pos 0 ≤ℤ result → length body ≤ max_body
  pub untouched : pos 0 ≤ℤ result → fault ≡ old_fault
  pub kept : result <ℤ pos 0 → new ≡ old

-- the same of one that gives nothing but a number, or the items before the one that it refuses
pub record LeavesFault (body : List ℕ) (old_fault fault : PgmsgFault) (result : ℤ) : Type 0 where
  pub within : pos 0 ≤ℤ result → length body ≤ max_body
  pub untouched : pos 0 ≤ℤ result → fault ≡ old_fault

-- a body that is longer than any
abbrev pub IsTooLong : List ℕ → ProtocolFault → Type 0
IsTooLong body fault = (max_body < length body) × (fault ≡ BodyTooLong (length body))

-- a body that is longer than any, or has a fault
abbrev pub IsBodyFault : (List ℕ → ProtocolFault → Type 0) → List ℕ → ProtocolFault → Type 0
IsBodyFault IsFault body fault = IsTooLong body fault ⊎ ((length body ≤ max_body) × IsFault body fault)

-- a result below 0 refuses the body, for its fault
abbrev pub RefusesBody : {V : Type 0} → Format V → List ℕ → PgmsgFault → PgmsgFault → ℤ → Type 0
RefusesBody g body old new result = RefusesFor (IsBodyFault (IsFaultOf g) body) old new result

-- what is read of a body: a value that it means, or its fault
abbrev pub ReadsBody : {A V : Type 0} → Format V → (A → V) → List ℕ → Result A ProtocolFault → Type 0
ReadsBody g shown body (Ok value) = (length body ≤ max_body) × Means g body (shown value)
ReadsBody g shown body (Err fault) = IsBodyFault (IsFaultOf g) body fault

-- the places give each item for which there is room, in order, and those after them are as they were
pub record AreGiven {X P : Type 0} (item_at : P → Option X) (items : List X) (old new : List P) : Type 0 where
  pub room : length new ≡ length old
  pub given : map item_at (take (length items) new) ≡ map Some (take (length new) items)
  pub rest : drop (length items) new ≡ drop (length items) old

-- the place says which item it is, in whatever body the item stands there
abbrev pub SaysItem : {X P : Type 0} → Format X → (List ℕ → P → Option X) → ℕ → X → ℕ → P → Type 0
SaysItem g item_in at item end place = (body : List ℕ) → IsReadAt g body at item end → item_in body place ≡ Some item

-- so many items are read, up to an offset, and given
pub record GivesItems {X P : Type 0} (g : Format X) (item_at : P → Option X) (body : List ℕ) (first at index : ℕ) (old new : List P) : Type 0 where
  pub items : List X
  pub read : IsReadAt (times index g) body first items at
  pub given : AreGiven item_at items old new

-- where a body is refused: nothing is given, or the items before that with the fault
abbrev pub GivesFront : {X P : Type 0} → Format X → (P → Option X) → List ℕ → ℕ → List P → List P → Type 0
GivesFront g item_at body first old new = (new ≡ old) ⊎ ((index : ℕ) × (at : ℕ) × GivesItems g item_at body first at index old new)

-- the body means items, as many as the result, and they are given
pub record ReadsItems {X P : Type 0} (format : Format (List X)) (item_at : P → Option X) (body : List ℕ) (old new : List P) (result : ℤ) : Type 0 where
  pub items : List X
  pub means : Means format body items
  pub count : result ≡ pos (length items)
  pub given : AreGiven item_at items old new
