-- A message whose new row follows the number of its table, by the bytes in front of the row's values.
use Rattle.std.specs.Prelude.{◌≡◌, ℕ, ◌+◌, ◌≤◌, ◌⊎◌, Bool, true, false, List, Option, length, drop, get_or}
use Rattle.pg_format.specs.Format.Parts.{be_u16, be_u32}
use Rattle.pg_format.specs.Logical.{datum, transaction}
use Rattle.pg_format.specs.Received.{max_body}
use Rattle.pg_c.specs.Replication.Logical.{begun}
use Rattle.pg_c.specs.Replication.Logical.Lists.{datum_in, GivesSomeOf}
use Rattle.pg_c.specs.declared.place.PgmsgList.{PgmsgList}
use Rattle.pg_c.specs.declared.replication.logical.lists.PgmsgDatum.{PgmsgDatum}
use Rattle.pg_c.specs.declared.replication.logical.read.PgmsgLogical.{PgmsgLogical}

-- where the number of the table is, after the letter and the number of a transaction that is streamed
abbrev pub table_at : Bool → ℕ
table_at true = 5
table_at false = 1

-- the values of a new row stand at the list: after the letter I or U, the number of a table at this offset, the letter N and
-- their count
pub record RowAfter (bytes : List ℕ) (table : ℕ) (list : PgmsgList) : Type 0 where
  pub short : length bytes ≤ max_body
  pub place : list.at ≡ table + 7
  pub within : list.at ≤ length bytes
  pub kind : (get_or bytes 0 0 ≡ 73) ⊎ (get_or bytes 0 0 ≡ 85)
  pub new : get_or bytes (table + 4) 0 ≡ 78
  pub count : be_u16.Reads (drop (table + 5) bytes) list.count (drop list.at bytes)
  pub small : list.count ≤ 65535

abbrev pub IsNewRow : Bool → List ℕ → PgmsgList → Type 0
IsNewRow streamed bytes list = RowAfter bytes (table_at streamed) list

-- the number of a transaction that is streamed, and that of a table, stand after the letter
pub record HeadStands (streamed : Bool) (bytes : List ℕ) (number : Option ℕ) (relation : ℕ) : Type 0 where
  pub first : (transaction streamed).Reads (drop 1 bytes) number (drop (table_at streamed) bytes)
  pub second : be_u32.Reads (drop (table_at streamed) bytes) relation (drop (table_at streamed + 4) bytes)

-- the message has the letter and these numbers, and its new row at the list
pub record GivesRow (streamed : Bool) (bytes : List ℕ) (list : PgmsgList) (given : PgmsgLogical) : Type 0 where
  pub number : Option ℕ
  pub relation : ℕ
  pub head : HeadStands streamed bytes number relation
  pub is : given ≡ record (begun (get_or bytes 0 0) number) { relation = relation; new_row = list }

-- where a message is refused: nothing is given, or, of the values of a new row, those before that with the fault
abbrev pub GivesNewFront : Bool → List ℕ → List PgmsgDatum → List PgmsgDatum → Type 0
GivesNewFront streamed bytes old new = (new ≡ old) ⊎ ((list : PgmsgList) × IsNewRow streamed bytes list × GivesSomeOf datum datum_in bytes list old new)
