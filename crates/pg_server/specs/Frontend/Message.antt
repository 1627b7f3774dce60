-- What a reader of a client's message answers, by the page of all messages.
use Rattle.std.specs.Prelude.{ℕ, List, drop, Result, Ok, Err}
use Rattle.pg_base.specs.declared.error.ProtocolFault.{ProtocolFault}
use Rattle.pg_format.specs.Format.{Format, Means}
use Rattle.pg_format.specs.Format.Places.{IsReadAt, BreaksAt}
use Rattle.pg_server.specs.declared.frontend.error.FrontendFault.{FrontendFault}
use Rattle.pg_server.specs.Frontend.Error.{IsOnPage}

-- what stands at an offset of a body can't be read, for this fault
abbrev pub HasFault : {A : Type 0} → Format A → List ℕ → ℕ → FrontendFault → Type 0
HasFault g body at fault = (on_page : ProtocolFault) × IsOnPage fault on_page × BreaksAt g body at on_page

-- a value from an offset on, and the offset after it; or a fault
abbrev pub GivesAt : {A V : Type 0} → Format V → (A → V) → List ℕ → ℕ → Result (A × ℕ) FrontendFault → Type 0
GivesAt g shown body at (Ok found) = IsReadAt g body at (shown found.0) found.1
GivesAt g shown body at (Err fault) = HasFault g body at fault

-- what is left of a body from an offset on means a value; or has a fault
abbrev pub ReadsRest : {A V : Type 0} → Format V → (A → V) → List ℕ → ℕ → Result A FrontendFault → Type 0
ReadsRest g shown body at (Ok value) = Means g (drop at body) (shown value)
ReadsRest g shown body at (Err fault) = HasFault g body at fault

-- the value that a whole body means; or its fault
abbrev pub ReadsBody : {A V : Type 0} → Format V → (A → V) → List ℕ → Result A FrontendFault → Type 0
ReadsBody g shown body (Ok value) = Means g body (shown value)
ReadsBody g shown body (Err fault) = HasFault g body 0 fault
