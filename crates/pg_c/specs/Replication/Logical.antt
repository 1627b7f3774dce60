-- The messages of logical replication as a C program reads them: one record has what all of the kinds have.
pub mod Lists
pub mod NewRow
pub mod Places
pub mod Put
use Rattle.std.specs.Prelude.{◌≡◌, ◌≤◌, ℕ, Bool, true, false, ℤ, pos, List, length, Option, Some, None, option_map, Ok, Err}
use Rattle.pg_base.specs.declared.error.ProtocolFault.{ProtocolFault}
use Rattle.pg_format.specs.Format.{Format}
use Rattle.pg_format.specs.Format.Parts.{be_u32}
use Rattle.pg_format.specs.Logical as page
use Rattle.pg_format.specs.Logical.{Datum, datum, column, key, whole, old_letter}
use Rattle.pg_format.specs.Received.{max_body}
use Rattle.pg_replication.specs.Logical.{LogicalAnswer, ReadsLogical, streamed_after}
use Rattle.pg_replication.specs.Logical.TableColumns.{columns_shown}
use Rattle.pg_replication.specs.Logical.Old.{shown_old}
use Rattle.pg_replication.specs.Logical.Relations.{relation_ids}
use Rattle.pg_replication.specs.Logical.Tuple.{datums}
use Rattle.pg_replication.specs.declared.logical.change.Insert.{Insert}
use Rattle.pg_replication.specs.declared.logical.change.Update.{Update}
use Rattle.pg_replication.specs.declared.logical.change.Delete.{Delete}
use Rattle.pg_replication.specs.declared.logical.change.Truncate.{Truncate}
use Rattle.pg_replication.specs.declared.logical.relation.Relation.{Relation}
use Rattle.pg_replication.specs.declared.logical.relation.TypeName.{TypeName}
use Rattle.pg_replication.specs.declared.logical.logical_message.LogicalMessage.{LogicalMessage}
use Rattle.pg_replication.specs.declared.logical.logical_message.LogicalMessage.TheVariants as messages
use Rattle.pg_replication.specs.declared.logical.transaction.Begin.{Begin}
use Rattle.pg_replication.specs.declared.logical.transaction.Message.{Message}
use Rattle.pg_replication.specs.declared.logical.transaction.Commit.{Commit}
use Rattle.pg_replication.specs.declared.logical.transaction.Origin.{Origin}
use Rattle.pg_replication.specs.declared.logical.stream.StreamStart.{StreamStart}
use Rattle.pg_replication.specs.declared.logical.stream.StreamCommit.{StreamCommit}
use Rattle.pg_replication.specs.declared.logical.stream.StreamAbort.{StreamAbort}
use Rattle.pg_replication.specs.declared.logical.prepared.BeginPrepare.{BeginPrepare}
use Rattle.pg_replication.specs.declared.logical.prepared.Prepared.{Prepared}
use Rattle.pg_replication.specs.declared.logical.prepared.RollbackPrepared.{RollbackPrepared}
use Rattle.pg_c.specs.Place.{StandAt, StandsIn, nowhere}
use Rattle.pg_c.specs.Read.{IsBodyFault}
use Rattle.pg_c.specs.Refusal.{RefusesFor}
use Rattle.pg_c.specs.declared.place.PgmsgList.{PgmsgList}
use Rattle.pg_c.specs.declared.place.PgmsgSpan.{PgmsgSpan}
use Rattle.pg_c.specs.declared.refusal.PgmsgFault.{PgmsgFault}
use Rattle.pg_c.specs.declared.replication.logical.read.PgmsgLogical.{PgmsgLogical}

-- the place of a list that a message hasn't
abbrev pub no_list : PgmsgList
no_list = record { at = 0; count = 0 }

abbrev pub nothing : PgmsgLogical
nothing = record {
  letter = 0;
  has_transaction = false;
  transaction = 0;
  subtransaction = 0;
  flags = 0;
  is_first = false;
  lsn = 0;
  end_lsn = 0;
  rollback_end_lsn = 0;
  clock = pos 0;
  rollback_clock = pos 0;
  relation = 0;
  type_id = 0;
  replica_identity = 0;
  schema = nowhere;
  name = nowhere;
  content = nowhere;
  columns = no_list;
  relations = no_list;
  old_letter = 0;
  old_row = no_list;
  new_row = no_list;
}

-- a message of a letter, and of a transaction where it names one, without other fields
abbrev pub begun : ℕ → Option ℕ → PgmsgLogical
begun letter (Some transaction) = record nothing { letter = letter; has_transaction = true; transaction = transaction }
begun letter None = record nothing { letter = letter }

-- ---- the messages, by where their texts and lists are

abbrev pub given_begin : Begin → PgmsgLogical
given_begin b = record (begun 66 (Some b.transaction)) { lsn = b.final_lsn; clock = b.clock }

abbrev pub given_message : Message → PgmsgSpan → PgmsgSpan → PgmsgLogical
given_message m prefix content = record (begun 77 m.transaction) { flags = m.flags; lsn = m.lsn; name = prefix; content = content }

abbrev pub given_commit : Commit → PgmsgLogical
given_commit c = record (begun 67 None) { flags = c.flags; lsn = c.lsn; end_lsn = c.end_lsn; clock = c.clock }

abbrev pub given_origin : Origin → PgmsgSpan → PgmsgLogical
given_origin o name = record (begun 79 None) { lsn = o.lsn; name = name }

abbrev pub given_relation : Relation → PgmsgSpan → PgmsgSpan → PgmsgList → PgmsgLogical
given_relation r schema name columns =
    record (begun 82 r.transaction) { relation = r.relation; schema = schema; name = name; replica_identity = r.replica_identity; columns = columns }

abbrev pub given_type_name : TypeName → PgmsgSpan → PgmsgSpan → PgmsgLogical
given_type_name t schema name = record (begun 89 t.transaction) { type_id = t.type_id; schema = schema; name = name }

abbrev pub given_insert : Insert → PgmsgList → PgmsgLogical
given_insert i row = record (begun 73 i.transaction) { relation = i.relation; new_row = row }

-- the letter of what was sent of a row before its change, 0 where nothing was
abbrev pub letter_of : Option page.Old → ℕ
letter_of (Some old) = old_letter old
letter_of None = 0

abbrev pub given_update : Update → PgmsgList → PgmsgList → PgmsgLogical
given_update u old_row new_row =
    record (begun 85 u.transaction) { relation = u.relation; old_letter = letter_of (option_map shown_old u.old); old_row = old_row; new_row = new_row }

abbrev pub given_delete : Delete → PgmsgList → PgmsgLogical
given_delete d row = record (begun 68 d.transaction) { relation = d.relation; old_letter = old_letter (shown_old d.old); old_row = row }

abbrev pub given_truncate : Truncate → PgmsgList → PgmsgLogical
given_truncate t relations = record (begun 84 t.transaction) { flags = t.options; relations = relations }

abbrev pub given_stream_start : StreamStart → PgmsgLogical
given_stream_start s = record (begun 83 (Some s.transaction)) { is_first = s.is_first }

abbrev pub given_stream_commit : StreamCommit → PgmsgLogical
given_stream_commit c = record (begun 99 (Some c.transaction)) { flags = c.flags; lsn = c.lsn; end_lsn = c.end_lsn; clock = c.clock }

abbrev pub given_stream_abort : StreamAbort → PgmsgLogical
given_stream_abort a = record (begun 65 (Some a.transaction)) { subtransaction = a.subtransaction }

abbrev pub given_begin_prepare : BeginPrepare → PgmsgSpan → PgmsgLogical
given_begin_prepare p gid = record (begun 98 (Some p.transaction)) { lsn = p.lsn; end_lsn = p.end_lsn; clock = p.clock; name = gid }

-- Prepare, Commit Prepared and Stream Prepare, each by its letter
abbrev pub given_prepared : ℕ → Prepared → PgmsgSpan → PgmsgLogical
given_prepared letter p gid =
    record (begun letter (Some p.transaction)) { flags = p.flags; lsn = p.lsn; end_lsn = p.end_lsn; clock = p.clock; name = gid }

abbrev pub given_rollback_prepared : RollbackPrepared → PgmsgSpan → PgmsgLogical
given_rollback_prepared r gid = record (begun 114 (Some r.transaction)) {
  flags = r.flags;
  end_lsn = r.prepare_end_lsn;
  rollback_end_lsn = r.rollback_end_lsn;
  clock = r.prepare_clock;
  rollback_clock = r.rollback_clock;
  name = gid;
}

-- ---- any message

-- these items, of a list that begins in the bytes, stand there
pub record ListStands {X : Type 0} (g : Format X) (bytes : List ℕ) (list : PgmsgList) (items : List X) : Type 0 where
  pub within : list.at ≤ length bytes
  pub stand : StandAt g bytes list items

-- the values of what was sent of a row before its change
abbrev pub old_values : page.Old → List Datum
old_values (key values) = values
old_values (whole values) = values

-- they stand there; or nothing was sent, and there is no list
abbrev pub OldStands : List ℕ → PgmsgList → Option page.Old → Type 0
OldStands bytes list (Some old) = ListStands datum bytes list (old_values old)
OldStands bytes list None = list ≡ no_list

abbrev pub IsUpdate : List ℕ → Update → PgmsgLogical → Type 0
IsUpdate bytes u given =
    OldStands bytes given.old_row (option_map shown_old u.old) × ListStands datum bytes given.new_row (datums u.new) × (given ≡ given_update u given.old_row given.new_row)

-- a message whose only place is a text's
abbrev pub IsNamed : List ℕ → List ℕ → (PgmsgSpan → PgmsgLogical) → PgmsgLogical → Type 0
IsNamed bytes text by given = StandsIn bytes given.name text × (given ≡ by given.name)

-- the message by its letter; what is of other kinds is 0 and empty
abbrev pub IsGivenAs : List ℕ → LogicalMessage → PgmsgLogical → Type 0
IsGivenAs bytes (messages.Begin b) given = given ≡ given_begin b
IsGivenAs bytes (messages.Message m) given =
    StandsIn bytes given.name m.prefix.now × StandsIn bytes given.content m.content.now × (given ≡ given_message m given.name given.content)
IsGivenAs bytes (messages.Commit c) given = given ≡ given_commit c
IsGivenAs bytes (messages.Origin o) given = IsNamed bytes o.name.now (given_origin o) given
IsGivenAs bytes (messages.Relation r) given =
    StandsIn bytes given.schema r.schema.now × StandsIn bytes given.name r.name.now × ListStands column bytes given.columns (columns_shown r.columns)
    × (given ≡ given_relation r given.schema given.name given.columns)
IsGivenAs bytes (messages.TypeName t) given =
    StandsIn bytes given.schema t.schema.now × StandsIn bytes given.name t.name.now × (given ≡ given_type_name t given.schema given.name)
IsGivenAs bytes (messages.Insert i) given = ListStands datum bytes given.new_row (datums i.new) × (given ≡ given_insert i given.new_row)
IsGivenAs bytes (messages.Update u) given = IsUpdate bytes u given
IsGivenAs bytes (messages.Delete d) given = ListStands datum bytes given.old_row (old_values (shown_old d.old)) × (given ≡ given_delete d given.old_row)
IsGivenAs bytes (messages.Truncate t) given = ListStands be_u32 bytes given.relations (relation_ids t.relations) × (given ≡ given_truncate t given.relations)
IsGivenAs bytes (messages.StreamStart s) given = given ≡ given_stream_start s
IsGivenAs bytes (messages.StreamStop s) given = given ≡ begun 69 None
IsGivenAs bytes (messages.StreamCommit c) given = given ≡ given_stream_commit c
IsGivenAs bytes (messages.StreamAbort a) given = given ≡ given_stream_abort a
IsGivenAs bytes (messages.BeginPrepare p) given = IsNamed bytes p.gid.now (given_begin_prepare p) given
IsGivenAs bytes (messages.Prepare p) given = IsNamed bytes p.gid.now (given_prepared 80 p) given
IsGivenAs bytes (messages.CommitPrepared p) given = IsNamed bytes p.gid.now (given_prepared 75 p) given
IsGivenAs bytes (messages.RollbackPrepared r) given = IsNamed bytes r.gid.now (given_rollback_prepared r) given
IsGivenAs bytes (messages.StreamPrepare p) given = IsNamed bytes p.gid.now (given_prepared 112 p) given

-- the bytes mean a message, this is it, and whether the next stands within a streamed transaction
pub record ReadsChange (bytes : List ℕ) (streamed next : Bool) (given : PgmsgLogical) : Type 0 where
  pub message : LogicalMessage
  pub reads : ReadsLogical streamed bytes (Ok message)
  pub is : IsGivenAs bytes message given
  pub after : next ≡ streamed_after streamed (Ok message)

-- the bytes mean no message, for this fault
abbrev pub BreaksLogical : Bool → List ℕ → ProtocolFault → Type 0
BreaksLogical streamed bytes fault = ReadsLogical streamed bytes (Err fault)

-- what is read of the bytes: a message, or their fault
abbrev pub ReadsLogicalContent : Bool → List ℕ → LogicalAnswer → Type 0
ReadsLogicalContent streamed bytes (Ok message) = (length bytes ≤ max_body) × ReadsLogical streamed bytes (Ok message)
ReadsLogicalContent streamed bytes (Err fault) = IsBodyFault (BreaksLogical streamed) bytes fault

-- a result below 0 refuses the bytes, for their fault
abbrev pub RefusesLogical : Bool → List ℕ → PgmsgFault → PgmsgFault → ℤ → Type 0
RefusesLogical streamed bytes old new result = RefusesFor (IsBodyFault (BreaksLogical streamed) bytes) old new result
