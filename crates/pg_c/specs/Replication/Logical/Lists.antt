-- What the places of the values of a row and of the columns of a table say of a message, and how their lists are read.
use Rattle.std.specs.Prelude.{◌≡◌, ◌+◌, ◌==◌, ◌≤◌, ◌⊎◌, ℕ, ℤ, pos, List, length, Option, Some, None, option_map, Result, IfOk, if◌then◌else◌}
use Rattle.pg_base.specs.Error.{IsShort}
use Rattle.pg_base.specs.declared.error.ProtocolFault.{ProtocolFault}
use Rattle.pg_format.specs.Format.{Format}
use Rattle.pg_format.specs.Format.Lists.{times}
use Rattle.pg_format.specs.Format.Places.{BreaksAt, IsReadAt}
use Rattle.pg_format.specs.Logical as page
use Rattle.pg_format.specs.Logical.{Datum, datum, column, null, unchanged, text, binary}
use Rattle.pg_format.specs.Received.{max_body}
use Rattle.pg_c.specs.Place.{part}
use Rattle.pg_c.specs.Read.{AreGiven, GivesFront, GivesItems, IsBodyFault, SaysItem}
use Rattle.pg_c.specs.Refusal.{RefusesFor}
use Rattle.pg_c.specs.Replication.Logical.{ListStands}
use Rattle.pg_c.specs.declared.place.PgmsgList.{PgmsgList}
use Rattle.pg_c.specs.declared.place.PgmsgSpan.{PgmsgSpan}
use Rattle.pg_c.specs.declared.refusal.PgmsgFault.{PgmsgFault}
use Rattle.pg_c.specs.declared.replication.logical.lists.PgmsgDatum.{PgmsgDatum}
use Rattle.pg_c.specs.declared.replication.logical.read.PgmsgLogical.{PgmsgLogical}
use Rattle.pg_c.specs.declared.replication.logical.lists.PgmsgTableColumn.{PgmsgTableColumn}

-- a value that isn't sent has the place of nothing
abbrev pub without_value : PgmsgSpan → Datum → Option Datum
without_value place value = if place.at + place.len == 0 then Some value else None

abbrev pub datum_in : List ℕ → PgmsgDatum → Option Datum
datum_in bytes d =
    if d.kind == 110 then without_value d.value null
    else if d.kind == 117 then without_value d.value unchanged
    else if d.kind == 116 then option_map text (part bytes d.value)
    else if d.kind == 98 then option_map binary (part bytes d.value)
    else None

-- the column of a name
abbrev pub column_named : PgmsgTableColumn → List ℕ → page.Column
column_named c name = record { flags = c.flags; name = name; type_id = c.type_id; type_modifier = c.type_modifier }

abbrev pub column_in : List ℕ → PgmsgTableColumn → Option page.Column
column_in bytes c = option_map (column_named c) (part bytes c.name)

-- the place says which item it is, in whatever bytes the item stands there
abbrev pub IsPlaceOf : {X P : Type 0} → Format X → (List ℕ → P → Option X) → ℕ → X → P → Type 0
IsPlaceOf g item_in at item place = (end : ℕ) → SaysItem g item_in at item end place

-- an Ok is the place of an item that stands at an offset, and the offset after the item
pub record Finds {X P : Type 0} (g : Format X) (item_in : List ℕ → P → Option X) (bytes : List ℕ) (at : ℕ) (place : P) (end : ℕ) : Type 0 where
  pub item : X
  pub read : IsReadAt g bytes at item end
  pub is : item_in bytes place ≡ Some item

abbrev pub PlacesAt : {X P : Type 0} → Format X → (List ℕ → P → Option X) → List ℕ → ℕ → Result (P × ℕ) ProtocolFault → Type 0
PlacesAt g item_in bytes at result = IfOk result (λ found. Finds g item_in bytes at found.0 found.1)

-- so many items of a list are given, which go up to an offset
abbrev pub GivesUpTo : {X P : Type 0} → Format X → (List ℕ → P → Option X) → List ℕ → PgmsgList → ℕ → ℕ → List P → List P → Type 0
GivesUpTo g item_in bytes list at index old new = GivesItems g (item_in bytes) bytes list.at at index old new

-- all of them
abbrev pub GivesAll : {X P : Type 0} → Format X → (List ℕ → P → Option X) → List ℕ → PgmsgList → List P → List P → ℕ → Type 0
GivesAll g item_in bytes list old new end = GivesUpTo g item_in bytes list end list.count old new

-- some of them
pub record GivesSomeOf {X P : Type 0} (g : Format X) (item_in : List ℕ → P → Option X) (bytes : List ℕ) (list : PgmsgList) (old new : List P) : Type 0 where
  pub index : ℕ
  pub end : ℕ
  pub few : index ≤ list.count
  pub gives : GivesUpTo g item_in bytes list end index old new

-- whatever stood in the places before so many items were given: this holds of it
abbrev pub AfterItems : {X P : Type 0} → Format X → (List ℕ → P → Option X) → List ℕ → PgmsgList → ℕ → ℕ → List P → (List P → Type 0) → Type 0
AfterItems {P = P} g item_in bytes list at index now Holds = (before : List P) → GivesUpTo g item_in bytes list at index before now → Holds before

-- then all are given; or some, and one has this fault
abbrev pub AllAfter : {X P : Type 0} → Format X → (List ℕ → P → Option X) → List ℕ → PgmsgList → ℕ → ℕ → List P → List P → ℕ → Type 0
AllAfter g item_in bytes list at index now new end = AfterItems g item_in bytes list at index now (λ before. GivesAll g item_in bytes list before new end)

abbrev pub FewAfter : {X P : Type 0} → Format X → (List ℕ → P → Option X) → List ℕ → PgmsgList → ℕ → ℕ → List P → List P → Type 0
FewAfter g item_in bytes list at index now new = AfterItems g item_in bytes list at index now (λ before. GivesSomeOf g item_in bytes list before new)

abbrev pub FaultAfter : {X P : Type 0} → Format X → (List ℕ → P → Option X) → List ℕ → PgmsgList → ℕ → ℕ → List P → ProtocolFault → Type 0
FaultAfter g item_in bytes list at index now fault = AfterItems g item_in bytes list at index now (λ _. BreaksAt (times list.count g) bytes list.at fault)

-- the items of a list are there, as many as the result, and they are given
pub record ReadsList {X P : Type 0} (g : Format X) (item_in : List ℕ → P → Option X) (bytes : List ℕ) (list : PgmsgList) (old new : List P) (result : ℤ) : Type 0 where
  pub items : List X
  pub stand : ListStands g bytes list items
  pub count : result ≡ pos list.count
  pub given : AreGiven (item_in bytes) items old new

-- the same by the count of the list
abbrev pub CountsList : {X P : Type 0} → Format X → (List ℕ → P → Option X) → List ℕ → PgmsgList → List P → List P → Type 0
CountsList g item_in bytes list old new = ReadsList g item_in bytes list old new (pos list.count)

-- the values of a row, those of a message's new row, and the columns of a table, as many as the result
abbrev pub ReadsDatums : List ℕ → PgmsgList → List PgmsgDatum → List PgmsgDatum → ℤ → Type 0
ReadsDatums bytes list old new result = ReadsList datum datum_in bytes list old new result

abbrev pub ReadsNewRow : List ℕ → PgmsgLogical → List PgmsgDatum → List PgmsgDatum → ℤ → Type 0
ReadsNewRow bytes given old new result = ReadsDatums bytes given.new_row old new result

abbrev pub ReadsTableColumns : List ℕ → PgmsgList → List PgmsgTableColumn → List PgmsgTableColumn → ℤ → Type 0
ReadsTableColumns bytes list old new result = ReadsList column column_in bytes list old new result

-- where the list is refused: nothing is given, or the items before that with the fault
abbrev pub GivesFrontOf : {X P : Type 0} → Format X → (List ℕ → P → Option X) → List ℕ → PgmsgList → List P → List P → Type 0
GivesFrontOf g item_in bytes list old new = GivesFront g (item_in bytes) bytes list.at old new

abbrev pub GivesDatums : List ℕ → PgmsgList → List PgmsgDatum → List PgmsgDatum → Type 0
GivesDatums bytes list old new = GivesFrontOf datum datum_in bytes list old new

abbrev pub GivesTableColumns : List ℕ → PgmsgList → List PgmsgTableColumn → List PgmsgTableColumn → Type 0
GivesTableColumns bytes list old new = GivesFrontOf column column_in bytes list old new

-- the bytes end before so many items of a byte at least
abbrev pub LacksList : PgmsgList → List ℕ → ProtocolFault → Type 0
LacksList list bytes fault = IsShort bytes list.at list.count fault

-- so many items, of a byte at least, have no room there, or one of them can't be read
abbrev pub BreaksList : {X : Type 0} → Format X → PgmsgList → List ℕ → ProtocolFault → Type 0
BreaksList g list bytes fault = LacksList list bytes fault ⊎ BreaksAt (times list.count g) bytes list.at fault

-- a result below 0 refuses the list, for its fault
abbrev pub RefusesList : {X : Type 0} → Format X → PgmsgList → List ℕ → PgmsgFault → PgmsgFault → ℤ → Type 0
RefusesList g list bytes old new result = RefusesFor (IsBodyFault (BreaksList g list) bytes) old new result

-- no items of a list stand there
pub record IsNotThere {X : Type 0} (g : Format X) (list : PgmsgList) (bytes : List ℕ) : Type 0 where
  pub none : length bytes ≤ max_body → (items : List X) → ListStands g bytes list items → ⊥
