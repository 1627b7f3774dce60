-- What the messages of logical replication say, as the page has it.
pub mod Encode
pub mod Fields
pub mod Listed
pub mod Old
pub mod Relations
pub mod TableColumns
pub mod Tuple
pub mod XLogMessage
use Rattle.std.specs.Prelude.{ℕ, Bool, true, false, List, Result, Ok, option_map}
use Rattle.pg_base.specs.declared.error.ProtocolFault.{ProtocolFault}
use Rattle.pg_format.specs.Logical as page
use Rattle.pg_format.specs.Logical.{logical_letter}
use Rattle.pg_format.specs.declared.logical.LogicalKind.{LogicalKind}
use Rattle.pg_format.specs.declared.logical.LogicalKind.TheVariants as kinds
use Rattle.pg_replication.specs.Lettered.{Reads, ReadsLettered}
use Rattle.pg_replication.specs.Logical.TableColumns.{columns_shown}
use Rattle.pg_replication.specs.Logical.Old.{shown_old}
use Rattle.pg_replication.specs.Logical.Relations.{relation_ids}
use Rattle.pg_replication.specs.Logical.Tuple.{datums}
use Rattle.pg_replication.specs.declared.logical.change.Insert.{Insert}
use Rattle.pg_replication.specs.declared.logical.change.Update.{Update}
use Rattle.pg_replication.specs.declared.logical.change.Delete.{Delete}
use Rattle.pg_replication.specs.declared.logical.change.Truncate.{Truncate}
use Rattle.pg_replication.specs.declared.logical.relation.Relation.{Relation}
use Rattle.pg_replication.specs.declared.logical.relation.TypeName.{TypeName}
use Rattle.pg_replication.specs.declared.logical.logical_message.LogicalMessage.{LogicalMessage}
use Rattle.pg_replication.specs.declared.logical.logical_message.LogicalMessage.TheVariants as messages
use Rattle.pg_replication.specs.declared.logical.transaction.Begin.{Begin}
use Rattle.pg_replication.specs.declared.logical.transaction.Message.{Message}
use Rattle.pg_replication.specs.declared.logical.transaction.Commit.{Commit}
use Rattle.pg_replication.specs.declared.logical.transaction.Origin.{Origin}
use Rattle.pg_replication.specs.declared.logical.stream.StreamStart.{StreamStart}
use Rattle.pg_replication.specs.declared.logical.stream.StreamStop.{StreamStop}
use Rattle.pg_replication.specs.declared.logical.stream.StreamCommit.{StreamCommit}
use Rattle.pg_replication.specs.declared.logical.stream.StreamAbort.{StreamAbort}
use Rattle.pg_replication.specs.declared.logical.prepared.BeginPrepare.{BeginPrepare}
use Rattle.pg_replication.specs.declared.logical.prepared.Prepared.{Prepared}
use Rattle.pg_replication.specs.declared.logical.prepared.RollbackPrepared.{RollbackPrepared}

abbrev pub shown_begin : Begin → page.Begin
shown_begin it = record { final_lsn = it.final_lsn; clock = it.clock; transaction = it.transaction }

abbrev pub shown_message : Message → page.Message
shown_message it = record { transaction = it.transaction; flags = it.flags; lsn = it.lsn; prefix = it.prefix.now; content = it.content.now }

abbrev pub shown_commit : Commit → page.Commit
shown_commit it = record { flags = it.flags; lsn = it.lsn; end_lsn = it.end_lsn; clock = it.clock }

abbrev pub shown_origin : Origin → page.Origin
shown_origin it = record { lsn = it.lsn; name = it.name.now }

abbrev pub shown_stream_start : StreamStart → page.StreamStart
shown_stream_start it = record { transaction = it.transaction; is_first = it.is_first }

abbrev pub shown_stream_stop : StreamStop → Unit {0}
shown_stream_stop it = tt

abbrev pub shown_stream_commit : StreamCommit → page.StreamCommit
shown_stream_commit it = record { transaction = it.transaction; flags = it.flags; lsn = it.lsn; end_lsn = it.end_lsn; clock = it.clock }

abbrev pub shown_stream_abort : StreamAbort → page.StreamAbort
shown_stream_abort it = record { transaction = it.transaction; subtransaction = it.subtransaction }

abbrev pub shown_begin_prepare : BeginPrepare → page.BeginPrepare
shown_begin_prepare it = record { lsn = it.lsn; end_lsn = it.end_lsn; clock = it.clock; transaction = it.transaction; gid = it.gid.now }

abbrev pub shown_prepared : Prepared → page.Prepared
shown_prepared it = record { flags = it.flags; lsn = it.lsn; end_lsn = it.end_lsn; clock = it.clock; transaction = it.transaction; gid = it.gid.now }

abbrev pub shown_rollback_prepared : RollbackPrepared → page.RollbackPrepared
shown_rollback_prepared it = record { flags = it.flags; prepare_end_lsn = it.prepare_end_lsn; rollback_end_lsn = it.rollback_end_lsn; prepare_clock = it.prepare_clock; rollback_clock = it.rollback_clock; transaction = it.transaction; gid = it.gid.now }

abbrev pub shown_relation : Relation → page.Relation
shown_relation it = record { transaction = it.transaction; relation = it.relation; schema = it.schema.now; name = it.name.now; replica_identity = it.replica_identity; columns = columns_shown it.columns }

abbrev pub shown_type_name : TypeName → page.TypeName
shown_type_name it = record { transaction = it.transaction; type_id = it.type_id; schema = it.schema.now; name = it.name.now }

abbrev pub shown_insert : Insert → page.Insert
shown_insert it = record { transaction = it.transaction; relation = it.relation; new = datums it.new }

abbrev pub shown_update : Update → page.Update
shown_update it = record { transaction = it.transaction; relation = it.relation; old = option_map shown_old it.old; new = datums it.new }

abbrev pub shown_delete : Delete → page.Delete
shown_delete it = record { transaction = it.transaction; relation = it.relation; old = shown_old it.old }

abbrev pub shown_truncate : Truncate → page.Truncate
shown_truncate it = record { transaction = it.transaction; options = it.options; relations = relation_ids it.relations }

-- ---- reading

abbrev pub LogicalAnswer : Type 0
LogicalAnswer = Result LogicalMessage ProtocolFault

-- what follows the letter of a kind is read to its case, or has a fault
abbrev pub ReadsLogicalKind : Bool → LogicalKind → List ℕ → LogicalAnswer → Type 0
ReadsLogicalKind streamed kinds.Begin message result = Reads messages.Begin page.begin shown_begin message result
ReadsLogicalKind streamed kinds.Message message result = Reads messages.Message (page.message streamed) shown_message message result
ReadsLogicalKind streamed kinds.Commit message result = Reads messages.Commit page.commit shown_commit message result
ReadsLogicalKind streamed kinds.Origin message result = Reads messages.Origin page.origin shown_origin message result
ReadsLogicalKind streamed kinds.Relation message result = Reads messages.Relation (page.relation streamed) shown_relation message result
ReadsLogicalKind streamed kinds.TypeName message result = Reads messages.TypeName (page.type_name streamed) shown_type_name message result
ReadsLogicalKind streamed kinds.Insert message result = Reads messages.Insert (page.insert streamed) shown_insert message result
ReadsLogicalKind streamed kinds.Update message result = Reads messages.Update (page.update streamed) shown_update message result
ReadsLogicalKind streamed kinds.Delete message result = Reads messages.Delete (page.delete streamed) shown_delete message result
ReadsLogicalKind streamed kinds.Truncate message result = Reads messages.Truncate (page.truncate streamed) shown_truncate message result
ReadsLogicalKind streamed kinds.StreamStart message result = Reads messages.StreamStart page.stream_start shown_stream_start message result
ReadsLogicalKind streamed kinds.StreamStop message result = Reads messages.StreamStop page.stream_stop shown_stream_stop message result
ReadsLogicalKind streamed kinds.StreamCommit message result = Reads messages.StreamCommit page.stream_commit shown_stream_commit message result
ReadsLogicalKind streamed kinds.StreamAbort message result = Reads messages.StreamAbort page.stream_abort shown_stream_abort message result
ReadsLogicalKind streamed kinds.BeginPrepare message result = Reads messages.BeginPrepare page.begin_prepare shown_begin_prepare message result
ReadsLogicalKind streamed kinds.Prepare message result = Reads messages.Prepare page.prepared shown_prepared message result
ReadsLogicalKind streamed kinds.CommitPrepared message result = Reads messages.CommitPrepared page.prepared shown_prepared message result
ReadsLogicalKind streamed kinds.RollbackPrepared message result = Reads messages.RollbackPrepared page.rollback_prepared shown_rollback_prepared message result
ReadsLogicalKind streamed kinds.StreamPrepare message result = Reads messages.StreamPrepare page.prepared shown_prepared message result

abbrev pub ReadsLogical : Bool → List ℕ → LogicalAnswer → Type 0
ReadsLogical streamed message result = ReadsLettered logical_letter (ReadsLogicalKind streamed) message result

-- whether a message after this one stands within a streamed transaction
abbrev pub streamed_after : Bool → LogicalAnswer → Bool
streamed_after streamed (Ok (messages.StreamStart start)) = true
streamed_after streamed (Ok (messages.StreamStop stop)) = false
streamed_after streamed other = streamed
