-- The values of a message, given where they stand.
use Rattle.std.specs.Prelude.{◌≡◌, ◌+◌, ◌≤◌, ◌⊎◌, ℕ, ℤ, List, Some, Result, IfOk}
use Rattle.pg_format.specs.Format.{Format}
use Rattle.pg_format.specs.Format.Lists.{times}
use Rattle.pg_format.specs.Format.Nullable.{value}
use Rattle.pg_format.specs.Format.Parts.{be_u16}
use Rattle.pg_format.specs.Format.Places.{IsReadAt}
use Rattle.pg_server.specs.Frontend.Message.{HasFault}
use Rattle.pg_server.specs.declared.frontend.error.FrontendFault.{FrontendFault}
use Rattle.pg_c.specs.Client.Parts.{Finds}
use Rattle.pg_c.specs.Read.{GivesItems}
use Rattle.pg_c.specs.Read.Row.{cell_in, value_in}
use Rattle.pg_c.specs.declared.place.PgmsgList.{PgmsgList}
use Rattle.pg_c.specs.declared.read.row.PgmsgCell.{PgmsgCell}

-- the value at an offset has the length, -1 where it is NULL, and goes up to another offset
abbrev pub FindsValue : List ℕ → ℕ → ℤ → ℕ → Type 0
FindsValue body at len end = Finds value (λ z content. value_in body (at + 4) z ≡ Some content) body at len end

-- so many values are read, from one offset to another, and given
abbrev pub GivesFrom : List ℕ → ℕ → ℕ → ℕ → List PgmsgCell → List PgmsgCell → Type 0
GivesFrom body first end count old new = GivesItems value (cell_in body) body first end count old new

-- values after their count are read from one offset to another; the list is their place, and they are given
pub record GivesValues (body : List ℕ) (at : ℕ) (list : PgmsgList) (end : ℕ) (old new : List PgmsgCell) : Type 0 where
  pub counted : IsReadAt be_u16 body at list.count list.at
  pub gives : GivesFrom body list.at end list.count old new

-- an Ok is the place of values, which are given, and the offset after them
abbrev pub FindsValues : List ℕ → ℕ → List PgmsgCell → List PgmsgCell → Result (PgmsgList × ℕ) FrontendFault → Type 0
FindsValues body at old new result = IfOk result (λ found. GivesValues body at found.0 found.1 old new)

-- some of so many values, the first of which is at an offset, are read and given
pub record GivesSome (body : List ℕ) (first count : ℕ) (old new : List PgmsgCell) : Type 0 where
  pub index : ℕ
  pub end : ℕ
  pub few : index ≤ count
  pub gives : GivesFrom body first end index old new

-- the same of those whose count is at an offset; or nothing is given
abbrev pub GivesCounted : List ℕ → ℕ → List PgmsgCell → List PgmsgCell → Type 0
GivesCounted body at old new = (new ≡ old) ⊎ ((count : ℕ) × (first : ℕ) × IsReadAt be_u16 body at count first × GivesSome body first count old new)

-- where a message is refused: nothing is given, or, of the values after this front, those before that with the fault
abbrev pub GivesFrontAfter : {F : Type 0} → Format F → List ℕ → List PgmsgCell → List PgmsgCell → Type 0
GivesFrontAfter {F} front body old new = (new ≡ old) ⊎ ((read : F) × (at : ℕ) × IsReadAt front body 0 read at × GivesCounted body at old new)

-- wherever the first of so many values is, and whatever stood in the places before they were given: this holds of both
abbrev pub AfterValues : List ℕ → ℕ → ℕ → List PgmsgCell → (ℕ → List PgmsgCell → Type 0) → Type 0
AfterValues body at index now Holds = (first : ℕ) (before : List PgmsgCell) → GivesFrom body first at index before now → Holds first before

-- then so many in all are given, up to an offset
abbrev pub AllAfter : List ℕ → ℕ → ℕ → ℕ → List PgmsgCell → List PgmsgCell → ℕ → Type 0
AllAfter body at index count now new end = AfterValues body at index now (λ first before. GivesFrom body first end count before new)

-- then some of so many are given
abbrev pub SomeAfter : List ℕ → ℕ → ℕ → ℕ → List PgmsgCell → List PgmsgCell → Type 0
SomeAfter body at index count now new = AfterValues body at index now (λ first before. GivesSome body first count before new)

-- then one of so many has this fault
abbrev pub FaultAfter : List ℕ → ℕ → ℕ → ℕ → List PgmsgCell → FrontendFault → Type 0
FaultAfter body at index count now fault = AfterValues body at index now (λ first _. HasFault (times count value) body first fault)
