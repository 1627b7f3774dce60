-- Where a part of a client's message is.
use Rattle.std.specs.Prelude.{◌+◌, ◌*◌, ◌<◌, ◌≤◌, ℕ, List, Some, length, Result, IfOk}
use Rattle.pg_format.specs.Format.{Format}
use Rattle.pg_format.specs.Format.Places.{IsReadAt}
use Rattle.pg_server.specs.declared.frontend.error.FrontendFault.{FrontendFault}
use Rattle.pg_c.specs.Read.{GivesItems}
use Rattle.pg_c.specs.declared.place.PgmsgList.{PgmsgList}

-- a value is read from one offset to another, and this is its place
pub record Finds {P V : Type 0} (g : Format V) (Is : P → V → Type 0) (body : List ℕ) (at : ℕ) (place : P) (end : ℕ) : Type 0 where
  pub value : V
  pub read : IsReadAt g body at value end
  pub is : Is place value

-- an Ok is the place of the value that stands at an offset, and the offset after the value
abbrev pub Locates : {P V : Type 0} → Format V → (P → V → Type 0) → List ℕ → ℕ → Result (P × ℕ) FrontendFault → Type 0
Locates g Is body at result = IfOk result (λ found. Finds g Is body at found.0 found.1)

-- the body has all items of a list, each of a width
abbrev pub HasList : ℕ → List ℕ → PgmsgList → Type 0
HasList width body list = list.at + width * list.count ≤ length body

-- the list goes beyond the end of the body
abbrev pub LacksList : ℕ → List ℕ → PgmsgList → Type 0
LacksList width body list = length body < list.at + width * list.count

-- the numbers of a list, each of a width, are given
abbrev pub GivesList : Format ℕ → ℕ → List ℕ → PgmsgList → List ℕ → List ℕ → Type 0
GivesList number width body list old new =
    GivesItems number (λ (n : ℕ). Some n) body list.at (list.at + width * list.count) list.count old new
