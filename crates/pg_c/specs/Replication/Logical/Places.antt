-- Where the parts of a message of logical replication are.
use Rattle.std.specs.Prelude.{◌≡◌, ◌+◌, ◌≤◌, ℕ, Bool, List, length, drop, Option, Some, None}
use Rattle.pg_format.specs.Format.{Means}
use Rattle.pg_format.specs.Format.Tests.{unless}
use Rattle.pg_format.specs.Logical as page
use Rattle.pg_format.specs.Logical.{Datum, tuple, old_tuple}
use Rattle.pg_replication.specs.Logical.{shown_update}
use Rattle.pg_replication.specs.Logical.TableColumns.{columns_shown}
use Rattle.pg_replication.specs.Logical.Old.{shown_old}
use Rattle.pg_replication.specs.Logical.Relations.{relation_ids}
use Rattle.pg_replication.specs.Logical.Tuple.{datums}
use Rattle.pg_replication.specs.declared.logical.change.Insert.{Insert}
use Rattle.pg_replication.specs.declared.logical.change.Update.{Update}
use Rattle.pg_replication.specs.declared.logical.change.Delete.{Delete}
use Rattle.pg_replication.specs.declared.logical.change.Truncate.{Truncate}
use Rattle.pg_replication.specs.declared.logical.relation.Relation.{Relation}
use Rattle.pg_replication.specs.declared.logical.relation.TypeName.{TypeName}
use Rattle.pg_replication.specs.declared.logical.transaction.Message.{Message}
use Rattle.pg_c.specs.Place.{span_of}
use Rattle.pg_c.specs.Replication.Logical.{given_message, given_relation, given_type_name, given_insert, given_delete, given_truncate, old_values, OldStands}
use Rattle.pg_c.specs.declared.place.PgmsgList.{PgmsgList}
use Rattle.pg_c.specs.declared.place.PgmsgSpan.{PgmsgSpan}
use Rattle.pg_c.specs.declared.replication.logical.read.PgmsgLogical.{PgmsgLogical}

-- the place of a list whose first item is at an offset
abbrev pub list_of : {A : Type 0} → ℕ → List A → PgmsgList
list_of at items = record { at = at; count = length items }

-- where the fields begin, after the number of a transaction that is streamed
abbrev pub fields_after : Option ℕ → ℕ
fields_after (Some transaction) = 5
fields_after None = 1

-- after flags and a position
abbrev pub prefix_place : Message → PgmsgSpan
prefix_place m = span_of (fields_after m.transaction + 9) m.prefix.now

-- after a NUL and a length
abbrev pub content_place : Message → PgmsgSpan
content_place m = span_of (fields_after m.transaction + 9 + length m.prefix.now + 5) m.content.now

-- after the number of a table or a type, and after a NUL
abbrev pub schema_place : Option ℕ → List ℕ → PgmsgSpan
schema_place transaction schema = span_of (fields_after transaction + 4) schema

abbrev pub name_place : Option ℕ → List ℕ → List ℕ → PgmsgSpan
name_place transaction schema name = span_of (fields_after transaction + 4 + length schema + 1) name

-- after a NUL, the letter of the replica identity and a count
abbrev pub columns_place : Relation → PgmsgList
columns_place r = list_of (fields_after r.transaction + 4 + length r.schema.now + 1 + length r.name.now + 4) (columns_shown r.columns)

-- where the letter of the first row is, after the number of a table
abbrev pub row_letter_at : Option ℕ → ℕ
row_letter_at transaction = fields_after transaction + 4

-- the place of the values of a row whose letter is at an offset: after the letter and a count
abbrev pub row_place : ℕ → List Datum → PgmsgList
row_place at values = list_of (at + 3) values

-- after a count and the options
abbrev pub relations_place : Truncate → PgmsgList
relations_place t = list_of (fields_after t.transaction + 5) (relation_ids t.relations)

-- ---- the messages with their places

abbrev pub placed_message : Message → PgmsgLogical
placed_message m = given_message m (prefix_place m) (content_place m)

abbrev pub placed_relation : Relation → PgmsgLogical
placed_relation r = given_relation r (schema_place r.transaction r.schema.now) (name_place r.transaction r.schema.now r.name.now) (columns_place r)

abbrev pub placed_type_name : TypeName → PgmsgLogical
placed_type_name t = given_type_name t (schema_place t.transaction t.schema.now) (name_place t.transaction t.schema.now t.name.now)

abbrev pub placed_insert : Insert → PgmsgLogical
placed_insert i = given_insert i (row_place (row_letter_at i.transaction) (datums i.new))

abbrev pub placed_delete : Delete → PgmsgLogical
placed_delete d = given_delete d (row_place (row_letter_at d.transaction) (old_values (shown_old d.old)))

abbrev pub placed_truncate : Truncate → PgmsgLogical
placed_truncate t = given_truncate t (relations_place t)

-- ---- the rows of an Update

-- this is an Update, streamed or not
pub record MeansUpdate (bytes : List ℕ) (u : Update) : Type 0 where
  pub streamed : Bool
  pub means : Means (page.update streamed) (drop 1 bytes) (shown_update u)

-- bytes up to the end stand at an offset
pub record Behind (bytes : List ℕ) (at : ℕ) (rest : List ℕ) : Type 0 where
  pub within : at ≤ length bytes
  pub is : drop at bytes ≡ rest

-- a row, whose count is at an offset, is there; and wherever one is, this is the offset after it
abbrev pub RowReads : List ℕ → ℕ → Type 0
RowReads bytes at = (values : List Datum) × (rest : List ℕ) × tuple.Reads (drop at bytes) values rest

abbrev pub RowEnds : List ℕ → ℕ → ℕ → Type 0
RowEnds bytes at end = (values : List Datum) (rest : List ℕ) → tuple.Reads (drop at bytes) values rest → Behind bytes end rest

-- this was sent at an offset of a row before its change, or nothing; and wherever it was, this is its place, and the offset
-- after it
abbrev pub OldReads : List ℕ → ℕ → Option page.Old → Type 0
OldReads bytes at old = (rest : List ℕ) × (unless 78 old_tuple).Reads (drop at bytes) old rest

abbrev pub OldIsGiven : List ℕ → ℕ → Option page.Old → PgmsgList × ℕ → Type 0
OldIsGiven bytes at old found =
    (rest : List ℕ) → (unless 78 old_tuple).Reads (drop at bytes) old rest → OldStands bytes found.0 old × Behind bytes found.1 rest
