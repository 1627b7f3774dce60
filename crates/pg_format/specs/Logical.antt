-- What a server streams of the changes of its tables, in the order of the documentation's "Logical Replication Message
-- Formats", of the versions 1 to 3 of the protocol. A message begins with a letter, which says its kind; a format here is
-- of what follows the letter. `streamed` says that it stands between a Stream Start and a Stream Stop. Positions (LSN)
-- count the bytes of the log, clocks microseconds since the beginning of the year 2000.
use Rattle.std.specs.Prelude.{◌≢◌, ℕ, ◌==◌, ℤ, Bool, true, false, List, length, Option, Some, None}
use Rattle.pg_base.specs.declared.error.ProtocolFault.TheVariants.{UnknownLetter}
use Rattle.pg_format.specs.declared.logical.LogicalKind.{LogicalKind}
use Rattle.pg_format.specs.declared.logical.LogicalKind.TheVariants as logical
use Rattle.pg_format.specs.Format.{Format}
use Rattle.pg_format.specs.Format.Parts.{until_nul, be_u8, be_u32, be_u64, be_i32, be_i64, bytes_of, success, fail}
use Rattle.pg_format.specs.Format.Sequences.{dep_pair, ◌⨾◌, record_of, mapped, case_of, choose}
use Rattle.pg_format.specs.Format.Lists.{times, counted}
use Rattle.pg_format.specs.Format.Ends.{exactly}
use Rattle.pg_format.specs.Format.Tests.{unless}
use Rattle.pg_format.specs.Messages.{Meaning, means}
use Rattle.pg_format.specs.Replication.{flag, letter}

-- the number of the transaction, which a message has where its transaction is streamed
abbrev pub itself : Option ℕ → Option ℕ
itself number = number

abbrev pub transaction : Bool → Format (Option ℕ)
transaction true = case_of Some itself be_u32
transaction false = success None

-- Int32 and Byten: a length, and as many bytes
abbrev pub with_length : List ℕ → ℕ × List ℕ
with_length bytes = (length bytes, bytes)

abbrev pub sized : Format (List ℕ)
sized = mapped (λ v. v.1) with_length (dep_pair be_u32 bytes_of)

-- ---- TupleData

-- the value of a column: NULL, one that wasn't changed and isn't sent, or one as text or binary
pub data Datum : Type 0 where
  null : Datum
  unchanged : Datum
  text : List ℕ → Datum
  binary : List ℕ → Datum

abbrev pub datum_letter : Datum → ℕ
datum_letter null = 110
datum_letter unchanged = 117
datum_letter (text value) = 116
datum_letter (binary value) = 98

abbrev pub text_of : Datum → Option (List ℕ)
text_of (text value) = Some value
text_of other = None

abbrev pub binary_of : Datum → Option (List ℕ)
binary_of (binary value) = Some value
binary_of other = None

-- what follows the letter
abbrev pub datum_by : ℕ → Format Datum
datum_by byte =
    choose (byte == 110) (success null)
    (choose (byte == 117) (success unchanged)
    (choose (byte == 116) (case_of text text_of sized)
    (choose (byte == 98) (case_of binary binary_of sized)
    (fail (UnknownLetter byte)))))

abbrev pub with_datum_letter : Datum → ℕ × Datum
with_datum_letter datum = (datum_letter datum, datum)

abbrev pub datum : Format Datum
datum = mapped (λ v. v.1) with_datum_letter (dep_pair be_u8 datum_by)

abbrev pub tuple : Format (List Datum)
tuple = counted datum

-- after the letter N: the new tuple
abbrev pub new_tuple : Format (Unit {0} × List Datum)
new_tuple = letter 78 ⨾ tuple

-- what is known of a row before its change: the columns of its key, after the letter K, or all of it, after O
pub data Old : Type 0 where
  key : List Datum → Old
  whole : List Datum → Old

abbrev pub old_letter : Old → ℕ
old_letter (key columns) = 75
old_letter (whole columns) = 79

abbrev pub key_of : Old → Option (List Datum)
key_of (key columns) = Some columns
key_of (whole columns) = None

abbrev pub whole_of : Old → Option (List Datum)
whole_of (key columns) = None
whole_of (whole columns) = Some columns

abbrev pub old_by : ℕ → Format Old
old_by byte = choose (byte == 75) (case_of key key_of tuple) (choose (byte == 79) (case_of whole whole_of tuple) (fail (UnknownLetter byte)))

abbrev pub with_old_letter : Old → ℕ × Old
with_old_letter old = (old_letter old, old)

abbrev pub old_tuple : Format Old
old_tuple = mapped (λ v. v.1) with_old_letter (dep_pair be_u8 old_by)

-- ---- the messages

-- Begin: the position of the commit, its time, and the transaction
pub record Begin : Type 0 where
  pub final_lsn : ℕ
  pub clock : ℤ
  pub transaction : ℕ

abbrev pub begin : Format Begin
begin = record_of (λ b. (b.final_lsn, (b.clock, b.transaction))) (exactly (be_u64 ⨾ be_i64 ⨾ be_u32))

-- Message: flags, of which 1 says that it is part of its transaction, its position, its prefix and its content
pub record Message : Type 0 where
  pub transaction : Option ℕ
  pub flags : ℕ
  pub lsn : ℕ
  pub prefix : List ℕ
  pub content : List ℕ

abbrev pub message : Bool → Format Message
message streamed = record_of (λ m. (m.transaction, (m.flags, (m.lsn, (m.prefix, m.content))))) (exactly (transaction streamed ⨾ be_u8 ⨾ be_u64 ⨾ until_nul ⨾ sized))

-- Commit: flags without a meaning yet, the position of the commit, the end of the transaction, and the time
pub record Commit : Type 0 where
  pub flags : ℕ
  pub lsn : ℕ
  pub end_lsn : ℕ
  pub clock : ℤ

abbrev pub commit : Format Commit
commit = record_of (λ c. (c.flags, (c.lsn, (c.end_lsn, c.clock)))) (exactly (be_u8 ⨾ be_u64 ⨾ be_u64 ⨾ be_i64))

-- Origin: the position of the commit on the server that the transaction came from, and the name of that origin
pub record Origin : Type 0 where
  pub lsn : ℕ
  pub name : List ℕ

abbrev pub origin : Format Origin
origin = record_of (λ o. (o.lsn, o.name)) (exactly (be_u64 ⨾ until_nul))

-- a column of a Relation: flags, of which 1 says that it is part of the key, its name, its type, and the type's modifier
pub record Column : Type 0 where
  pub flags : ℕ
  pub name : List ℕ
  pub type_id : ℕ
  pub type_modifier : ℤ

abbrev pub column : Format Column
column = record_of (λ c. (c.flags, (c.name, (c.type_id, c.type_modifier)))) (be_u8 ⨾ until_nul ⨾ be_u32 ⨾ be_i32)

-- Relation: a table's number, its schema, empty for pg_catalog, its name, the letter of its replica identity, its columns
pub record Relation : Type 0 where
  pub transaction : Option ℕ
  pub relation : ℕ
  pub schema : List ℕ
  pub name : List ℕ
  pub replica_identity : ℕ
  pub columns : List Column

abbrev pub relation : Bool → Format Relation
relation streamed =
    record_of (λ r. (r.transaction, (r.relation, (r.schema, (r.name, (r.replica_identity, r.columns))))))
    (exactly (transaction streamed ⨾ be_u32 ⨾ until_nul ⨾ until_nul ⨾ be_u8 ⨾ counted column))

-- Type: a type's number, its schema, empty for pg_catalog, and its name
pub record TypeName : Type 0 where
  pub transaction : Option ℕ
  pub type_id : ℕ
  pub schema : List ℕ
  pub name : List ℕ

abbrev pub type_name : Bool → Format TypeName
type_name streamed = record_of (λ t. (t.transaction, (t.type_id, (t.schema, t.name)))) (exactly (transaction streamed ⨾ be_u32 ⨾ until_nul ⨾ until_nul))

-- Insert: the table's number, and the new row
pub record Insert : Type 0 where
  pub transaction : Option ℕ
  pub relation : ℕ
  pub new : List Datum

abbrev pub insert : Bool → Format Insert
insert streamed = record_of (λ i. (i.transaction, (i.relation, (tt, i.new)))) (exactly (transaction streamed ⨾ be_u32 ⨾ new_tuple))

-- Update: the table's number, the old row or its key where one of the two is sent, and the new row
pub record Update : Type 0 where
  pub transaction : Option ℕ
  pub relation : ℕ
  pub old : Option Old
  pub new : List Datum

abbrev pub update : Bool → Format Update
update streamed = record_of (λ u. (u.transaction, (u.relation, (u.old, (tt, u.new))))) (exactly (transaction streamed ⨾ be_u32 ⨾ unless 78 old_tuple ⨾ new_tuple))

-- Delete: the table's number, and the old row or its key
pub record Delete : Type 0 where
  pub transaction : Option ℕ
  pub relation : ℕ
  pub old : Old

abbrev pub delete : Bool → Format Delete
delete streamed = record_of (λ d. (d.transaction, (d.relation, d.old))) (exactly (transaction streamed ⨾ be_u32 ⨾ old_tuple))

-- Truncate: how many tables, the options, 1 for CASCADE and 2 for RESTART IDENTITY, and the tables' numbers
abbrev pub with_count : ℕ × List ℕ → ℕ × (ℕ × List ℕ)
with_count v = (length v.1, v)

abbrev pub truncated : Format (ℕ × List ℕ)
truncated = mapped (λ v. v.1) with_count (dep_pair be_u32 (λ n. be_u8 ⨾ times n be_u32))

pub record Truncate : Type 0 where
  pub transaction : Option ℕ
  pub options : ℕ
  pub relations : List ℕ

abbrev pub truncate : Bool → Format Truncate
truncate streamed = record_of (λ t. (t.transaction, (t.options, t.relations))) (exactly (transaction streamed ⨾ truncated))

-- Stream Start: the transaction of the messages up to the Stream Stop, and whether they are the first of it
pub record StreamStart : Type 0 where
  pub transaction : ℕ
  pub is_first : Bool

abbrev pub stream_start : Format StreamStart
stream_start = record_of (λ s. (s.transaction, s.is_first)) (exactly (be_u32 ⨾ flag))

-- Stream Stop
abbrev pub stream_stop : Format (Unit {0})
stream_stop = exactly (success tt)

-- Stream Commit: the transaction, and what a Commit has
pub record StreamCommit : Type 0 where
  pub transaction : ℕ
  pub flags : ℕ
  pub lsn : ℕ
  pub end_lsn : ℕ
  pub clock : ℤ

abbrev pub stream_commit : Format StreamCommit
stream_commit = record_of (λ c. (c.transaction, (c.flags, (c.lsn, (c.end_lsn, c.clock))))) (exactly (be_u32 ⨾ be_u8 ⨾ be_u64 ⨾ be_u64 ⨾ be_i64))

-- Stream Abort: the transaction, and the one within it that is undone, which is the same where all is
pub record StreamAbort : Type 0 where
  pub transaction : ℕ
  pub subtransaction : ℕ

abbrev pub stream_abort : Format StreamAbort
stream_abort = record_of (λ a. (a.transaction, a.subtransaction)) (exactly (be_u32 ⨾ be_u32))

-- Begin Prepare: the position of the prepare, the end of the transaction, the time, the transaction, and its name (GID)
pub record BeginPrepare : Type 0 where
  pub lsn : ℕ
  pub end_lsn : ℕ
  pub clock : ℤ
  pub transaction : ℕ
  pub gid : List ℕ

abbrev pub begin_prepare : Format BeginPrepare
begin_prepare = record_of (λ p. (p.lsn, (p.end_lsn, (p.clock, (p.transaction, p.gid))))) (exactly (be_u64 ⨾ be_u64 ⨾ be_i64 ⨾ be_u32 ⨾ until_nul))

-- Prepare, Commit Prepared and Stream Prepare: flags without a meaning yet, the position of the prepare or of the
-- commit, the end of the transaction or of its commit, the time, the transaction, and its name (GID)
pub record Prepared : Type 0 where
  pub flags : ℕ
  pub lsn : ℕ
  pub end_lsn : ℕ
  pub clock : ℤ
  pub transaction : ℕ
  pub gid : List ℕ

abbrev pub prepared : Format Prepared
prepared = record_of (λ p. (p.flags, (p.lsn, (p.end_lsn, (p.clock, (p.transaction, p.gid)))))) (exactly (be_u8 ⨾ be_u64 ⨾ be_u64 ⨾ be_i64 ⨾ be_u32 ⨾ until_nul))

-- Rollback Prepared: flags without a meaning yet, the end of the transaction, the end of its rollback, the times of the
-- prepare and of the rollback, the transaction, and its name (GID)
pub record RollbackPrepared : Type 0 where
  pub flags : ℕ
  pub prepare_end_lsn : ℕ
  pub rollback_end_lsn : ℕ
  pub prepare_clock : ℤ
  pub rollback_clock : ℤ
  pub transaction : ℕ
  pub gid : List ℕ

abbrev pub rollback_prepared : Format RollbackPrepared
rollback_prepared =
    record_of (λ r. (r.flags, (r.prepare_end_lsn, (r.rollback_end_lsn, (r.prepare_clock, (r.rollback_clock, (r.transaction, r.gid)))))))
    (exactly (be_u8 ⨾ be_u64 ⨾ be_u64 ⨾ be_i64 ⨾ be_i64 ⨾ be_u32 ⨾ until_nul))

-- ---- by the kind of message

-- what follows the letter of a kind
abbrev pub in_change_stream : Bool → LogicalKind → Meaning
in_change_stream streamed logical.Begin = means begin
in_change_stream streamed logical.Message = means (message streamed)
in_change_stream streamed logical.Commit = means commit
in_change_stream streamed logical.Origin = means origin
in_change_stream streamed logical.Relation = means (relation streamed)
in_change_stream streamed logical.TypeName = means (type_name streamed)
in_change_stream streamed logical.Insert = means (insert streamed)
in_change_stream streamed logical.Update = means (update streamed)
in_change_stream streamed logical.Delete = means (delete streamed)
in_change_stream streamed logical.Truncate = means (truncate streamed)
in_change_stream streamed logical.StreamStart = means stream_start
in_change_stream streamed logical.StreamStop = means stream_stop
in_change_stream streamed logical.StreamCommit = means stream_commit
in_change_stream streamed logical.StreamAbort = means stream_abort
in_change_stream streamed logical.BeginPrepare = means begin_prepare
in_change_stream streamed logical.Prepare = means prepared
in_change_stream streamed logical.CommitPrepared = means prepared
in_change_stream streamed logical.RollbackPrepared = means rollback_prepared
in_change_stream streamed logical.StreamPrepare = means prepared

-- the same as a format
abbrev pub change : (streamed : Bool) (kind : LogicalKind) → Format (in_change_stream streamed kind).Value
change streamed kind = (in_change_stream streamed kind).format

-- the letter of a kind
abbrev pub logical_letter : LogicalKind → ℕ
logical_letter logical.Begin = 66
logical_letter logical.Message = 77
logical_letter logical.Commit = 67
logical_letter logical.Origin = 79
logical_letter logical.Relation = 82
logical_letter logical.TypeName = 89
logical_letter logical.Insert = 73
logical_letter logical.Update = 85
logical_letter logical.Delete = 68
logical_letter logical.Truncate = 84
logical_letter logical.StreamStart = 83
logical_letter logical.StreamStop = 69
logical_letter logical.StreamCommit = 99
logical_letter logical.StreamAbort = 65
logical_letter logical.BeginPrepare = 98
logical_letter logical.Prepare = 80
logical_letter logical.CommitPrepared = 75
logical_letter logical.RollbackPrepared = 114
logical_letter logical.StreamPrepare = 112

-- no kind has the letter
abbrev pub IsNoLogicalLetter : ℕ → Type 0
IsNoLogicalLetter byte = (kind : LogicalKind) → logical_letter kind ≢ byte
