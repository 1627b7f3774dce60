-- The messages of logical replication where they are written: the bytes of their lines, what is wrong with those that
-- can't be written, and what is read of those that are.
use Rattle.std.specs.Prelude.{◌≡◌, ℕ, ◌^◌, ◌<◌, Bool, true, List, length, All, Option, Some, None, is_some, IfSome, Result, Ok, Err, Vec}
use Rattle.std.specs.declared.alloc.Global.{Global}
use Rattle.std.specs.List.{list_any}
use Rattle.std.specs.Option.{option_or}
use Rattle.pg_base.specs.Encode.{Encodes}
use Rattle.pg_base.specs.Part.{PartLaw, both, byte}
use Rattle.pg_base.specs.Sink.{IsGiven}
use Rattle.pg_base.specs.Tagged.{fault_of}
use Rattle.pg_base.specs.declared.error.Error.{Error}
use Rattle.pg_base.specs.declared.error.ProtocolFault.{ProtocolFault}
use Rattle.pg_format.specs.Format.{Format}
use Rattle.pg_format.specs.Format.Lists.{counted}
use Rattle.pg_format.specs.Format.Parts.{FitsSigned}
use Rattle.pg_format.specs.Format.Tests.{unless}
use Rattle.pg_format.specs.Logical as page
use Rattle.pg_format.specs.Logical.{in_change_stream, logical_letter}
use Rattle.pg_format.specs.declared.logical.LogicalKind.{LogicalKind}
use Rattle.pg_format.specs.declared.logical.LogicalKind.TheVariants as kinds
use Rattle.pg_server.specs.Backend.OutboundItem.{too_many, max_unsigned, holds_nul, nul_fault, text_fault}
use Rattle.pg_replication.specs.Logical as shown
use Rattle.pg_replication.specs.Logical.{LogicalAnswer, ReadsLogical}
use Rattle.pg_replication.specs.declared.logical.change.Insert.{Insert}
use Rattle.pg_replication.specs.declared.logical.change.Update.{Update}
use Rattle.pg_replication.specs.declared.logical.change.Delete.{Delete}
use Rattle.pg_replication.specs.declared.logical.change.Truncate.{Truncate}
use Rattle.pg_replication.specs.declared.logical.relation.Relation.{Relation}
use Rattle.pg_replication.specs.declared.logical.relation.TypeName.{TypeName}
use Rattle.pg_replication.specs.declared.logical.logical_message.LogicalMessage.{LogicalMessage}
use Rattle.pg_replication.specs.declared.logical.logical_message.LogicalMessage.TheVariants as messages
use Rattle.pg_replication.specs.declared.logical.transaction.Begin.{Begin}
use Rattle.pg_replication.specs.declared.logical.transaction.Message.{Message}
use Rattle.pg_replication.specs.declared.logical.transaction.Commit.{Commit}
use Rattle.pg_replication.specs.declared.logical.transaction.Origin.{Origin}
use Rattle.pg_replication.specs.declared.logical.stream.StreamStart.{StreamStart}
use Rattle.pg_replication.specs.declared.logical.stream.StreamStop.{StreamStop}
use Rattle.pg_replication.specs.declared.logical.stream.StreamCommit.{StreamCommit}
use Rattle.pg_replication.specs.declared.logical.stream.StreamAbort.{StreamAbort}
use Rattle.pg_replication.specs.declared.logical.prepared.BeginPrepare.{BeginPrepare}
use Rattle.pg_replication.specs.declared.logical.prepared.Prepared.{Prepared}
use Rattle.pg_replication.specs.declared.logical.prepared.RollbackPrepared.{RollbackPrepared}

-- ---- parts: the line that is written, its value, the first fault, and that its numbers are in range

abbrev pub by_page : {V : Type 0} → Format V → V → Option ProtocolFault → Type 0 → PartLaw
by_page line value fault IsInRange = record { text = line.Writes value; fault = fault; IsInRange = IsInRange }

abbrev pub IsNumberInRange : Option ℕ → Type 0
IsNumberInRange number = IfSome number (λ n. n < 2 ^ 32)

-- the number of a transaction, which is there where the transaction is streamed
abbrev pub transaction_part : Option ℕ → PartLaw
transaction_part number = by_page (page.transaction (is_some number)) number None (IsNumberInRange number)

abbrev pub tuple_fault : List page.Datum → Option ProtocolFault
tuple_fault values = too_many max_unsigned (length values)

abbrev pub tuple_part : List page.Datum → PartLaw
tuple_part values = by_page page.tuple values (tuple_fault values) (Unit {0})

abbrev pub values_of : page.Old → List page.Datum
values_of (page.key values) = values
values_of (page.whole values) = values

abbrev pub old_part : page.Old → PartLaw
old_part old = by_page page.old_tuple old (tuple_fault (values_of old)) (Unit {0})

abbrev pub old_fault : Option page.Old → Option ProtocolFault
old_fault None = None
old_fault (Some old) = tuple_fault (values_of old)

abbrev pub old_or_none_part : Option page.Old → PartLaw
old_or_none_part old = by_page (unless 78 page.old_tuple) old (old_fault old) (Unit {0})

abbrev pub has_nul : page.Column → Bool
has_nul column = holds_nul column.name

pub record IsColumnInRange (column : page.Column) : Type 0 where
  pub flags : column.flags < 2 ^ 8
  pub type_id : column.type_id < 2 ^ 32
  pub type_modifier : FitsSigned 4 column.type_modifier

abbrev pub columns_fault : List page.Column → Option ProtocolFault
columns_fault columns = option_or (too_many max_unsigned (length columns)) (nul_fault (list_any has_nul columns))

abbrev pub columns_part : List page.Column → PartLaw
columns_part columns = by_page (counted page.column) columns (columns_fault columns) (All IsColumnInRange columns)

abbrev pub AreIds : List ℕ → Type 0
AreIds ids = All (λ n. n < 2 ^ 32) ids

abbrev pub truncated_part : ℕ × List ℕ → PartLaw
truncated_part it = by_page page.truncated it None ((it.0 < 2 ^ 8) × AreIds it.1)

-- ---- the fields of each message

abbrev pub begin_part : Begin → PartLaw
begin_part it = by_page page.begin (shown.shown_begin it) None ((it.final_lsn < 2 ^ 64) × FitsSigned 8 it.clock × (it.transaction < 2 ^ 32))

abbrev pub message_part : Message → PartLaw
message_part it =
    by_page (page.message (is_some it.transaction)) (shown.shown_message it) (text_fault it.prefix.now)
    (IsNumberInRange it.transaction × (it.flags < 2 ^ 8) × (it.lsn < 2 ^ 64))

abbrev pub commit_part : Commit → PartLaw
commit_part it = by_page page.commit (shown.shown_commit it) None ((it.flags < 2 ^ 8) × (it.lsn < 2 ^ 64) × (it.end_lsn < 2 ^ 64) × FitsSigned 8 it.clock)

abbrev pub origin_part : Origin → PartLaw
origin_part it = by_page page.origin (shown.shown_origin it) (text_fault it.name.now) (it.lsn < 2 ^ 64)

abbrev pub relation_part : Relation → PartLaw
relation_part it =
    let columns = (shown.shown_relation it).columns in
    by_page (page.relation (is_some it.transaction)) (shown.shown_relation it)
    (option_or (text_fault it.schema.now) (option_or (text_fault it.name.now) (columns_fault columns)))
    (IsNumberInRange it.transaction × (it.relation < 2 ^ 32) × (it.replica_identity < 2 ^ 8) × All IsColumnInRange columns)

abbrev pub type_name_part : TypeName → PartLaw
type_name_part it =
    by_page (page.type_name (is_some it.transaction)) (shown.shown_type_name it) (option_or (text_fault it.schema.now) (text_fault it.name.now))
    (IsNumberInRange it.transaction × (it.type_id < 2 ^ 32))

abbrev pub insert_part : Insert → PartLaw
insert_part it =
    by_page (page.insert (is_some it.transaction)) (shown.shown_insert it) (tuple_fault (shown.shown_insert it).new)
    (IsNumberInRange it.transaction × (it.relation < 2 ^ 32))

abbrev pub update_part : Update → PartLaw
update_part it =
    by_page (page.update (is_some it.transaction)) (shown.shown_update it) (option_or (old_fault (shown.shown_update it).old) (tuple_fault (shown.shown_update it).new))
    (IsNumberInRange it.transaction × (it.relation < 2 ^ 32))

abbrev pub delete_part : Delete → PartLaw
delete_part it =
    by_page (page.delete (is_some it.transaction)) (shown.shown_delete it) (tuple_fault (values_of (shown.shown_delete it).old))
    (IsNumberInRange it.transaction × (it.relation < 2 ^ 32))

abbrev pub truncate_part : Truncate → PartLaw
truncate_part it =
    by_page (page.truncate (is_some it.transaction)) (shown.shown_truncate it) None
    (IsNumberInRange it.transaction × (it.options < 2 ^ 8) × AreIds (shown.shown_truncate it).relations)

abbrev pub stream_start_part : StreamStart → PartLaw
stream_start_part it = by_page page.stream_start (shown.shown_stream_start it) None (it.transaction < 2 ^ 32)

abbrev pub stream_stop_part : StreamStop → PartLaw
stream_stop_part it = by_page page.stream_stop (shown.shown_stream_stop it) None (Unit {0})

abbrev pub stream_commit_part : StreamCommit → PartLaw
stream_commit_part it =
    by_page page.stream_commit (shown.shown_stream_commit it) None
    ((it.transaction < 2 ^ 32) × (it.flags < 2 ^ 8) × (it.lsn < 2 ^ 64) × (it.end_lsn < 2 ^ 64) × FitsSigned 8 it.clock)

abbrev pub stream_abort_part : StreamAbort → PartLaw
stream_abort_part it = by_page page.stream_abort (shown.shown_stream_abort it) None ((it.transaction < 2 ^ 32) × (it.subtransaction < 2 ^ 32))

abbrev pub begin_prepare_part : BeginPrepare → PartLaw
begin_prepare_part it =
    by_page page.begin_prepare (shown.shown_begin_prepare it) (text_fault it.gid.now)
    ((it.lsn < 2 ^ 64) × (it.end_lsn < 2 ^ 64) × FitsSigned 8 it.clock × (it.transaction < 2 ^ 32))

abbrev pub prepared_part : Prepared → PartLaw
prepared_part it =
    by_page page.prepared (shown.shown_prepared it) (text_fault it.gid.now)
    ((it.flags < 2 ^ 8) × (it.lsn < 2 ^ 64) × (it.end_lsn < 2 ^ 64) × FitsSigned 8 it.clock × (it.transaction < 2 ^ 32))

abbrev pub rollback_prepared_part : RollbackPrepared → PartLaw
rollback_prepared_part it =
    by_page page.rollback_prepared (shown.shown_rollback_prepared it) (text_fault it.gid.now)
    ((it.flags < 2 ^ 8) × (it.prepare_end_lsn < 2 ^ 64) × (it.rollback_end_lsn < 2 ^ 64) × FitsSigned 8 it.prepare_clock × FitsSigned 8 it.rollback_clock × (it.transaction < 2 ^ 32))

-- ---- any message

-- its kind, and what it says
abbrev pub says : LogicalMessage → (kind : LogicalKind) × (in_change_stream true kind).Value
says (messages.Begin it) = (kinds.Begin, shown.shown_begin it)
says (messages.Message it) = (kinds.Message, shown.shown_message it)
says (messages.Commit it) = (kinds.Commit, shown.shown_commit it)
says (messages.Origin it) = (kinds.Origin, shown.shown_origin it)
says (messages.Relation it) = (kinds.Relation, shown.shown_relation it)
says (messages.TypeName it) = (kinds.TypeName, shown.shown_type_name it)
says (messages.Insert it) = (kinds.Insert, shown.shown_insert it)
says (messages.Update it) = (kinds.Update, shown.shown_update it)
says (messages.Delete it) = (kinds.Delete, shown.shown_delete it)
says (messages.Truncate it) = (kinds.Truncate, shown.shown_truncate it)
says (messages.StreamStart it) = (kinds.StreamStart, shown.shown_stream_start it)
says (messages.StreamStop it) = (kinds.StreamStop, shown.shown_stream_stop it)
says (messages.StreamCommit it) = (kinds.StreamCommit, shown.shown_stream_commit it)
says (messages.StreamAbort it) = (kinds.StreamAbort, shown.shown_stream_abort it)
says (messages.BeginPrepare it) = (kinds.BeginPrepare, shown.shown_begin_prepare it)
says (messages.Prepare it) = (kinds.Prepare, shown.shown_prepared it)
says (messages.CommitPrepared it) = (kinds.CommitPrepared, shown.shown_prepared it)
says (messages.RollbackPrepared it) = (kinds.RollbackPrepared, shown.shown_rollback_prepared it)
says (messages.StreamPrepare it) = (kinds.StreamPrepare, shown.shown_prepared it)

-- what follows its letter
abbrev pub fields_part : LogicalMessage → PartLaw
fields_part (messages.Begin it) = begin_part it
fields_part (messages.Message it) = message_part it
fields_part (messages.Commit it) = commit_part it
fields_part (messages.Origin it) = origin_part it
fields_part (messages.Relation it) = relation_part it
fields_part (messages.TypeName it) = type_name_part it
fields_part (messages.Insert it) = insert_part it
fields_part (messages.Update it) = update_part it
fields_part (messages.Delete it) = delete_part it
fields_part (messages.Truncate it) = truncate_part it
fields_part (messages.StreamStart it) = stream_start_part it
fields_part (messages.StreamStop it) = stream_stop_part it
fields_part (messages.StreamCommit it) = stream_commit_part it
fields_part (messages.StreamAbort it) = stream_abort_part it
fields_part (messages.BeginPrepare it) = begin_prepare_part it
fields_part (messages.Prepare it) = prepared_part it
fields_part (messages.CommitPrepared it) = prepared_part it
fields_part (messages.RollbackPrepared it) = rollback_prepared_part it
fields_part (messages.StreamPrepare it) = prepared_part it

-- all of it, as the content of an XLogData
abbrev pub content_part : LogicalMessage → PartLaw
content_part m = both (byte (logical_letter (says m).0)) (fields_part m)

abbrev pub content : LogicalMessage → List ℕ
content m = (content_part m).text

abbrev pub content_fault : LogicalMessage → Option ProtocolFault
content_fault m = fault_of (content_part m)

-- ---- calls

abbrev pub EncodesContent : LogicalMessage → Vec ℕ Global → Vec ℕ Global → Result (Unit {0}) Error → Type 0
EncodesContent m old new result = Encodes (content m) (content_fault m) (length (content m)) old new result

-- The length of the content, which is at the front of the bytes where they are that long; or the fault that it has,
-- and the bytes are as they were.
abbrev pub IsContentWritten : LogicalMessage → List ℕ → List ℕ → Result ℕ ProtocolFault → Type 0
IsContentWritten m old new (Ok len) = (content_fault m ≡ None) × (len ≡ length (content m)) × IsGiven (content m) old new
IsContentWritten m old new (Err fault) = (content_fault m ≡ Some fault) × (new ≡ old)

-- ---- reading

-- it has the number of its transaction where it can have one and is streamed, and not else
abbrev pub IsNumbered : Bool → LogicalMessage → Type 0
IsNumbered streamed (messages.Message it) = is_some it.transaction ≡ streamed
IsNumbered streamed (messages.Relation it) = is_some it.transaction ≡ streamed
IsNumbered streamed (messages.TypeName it) = is_some it.transaction ≡ streamed
IsNumbered streamed (messages.Insert it) = is_some it.transaction ≡ streamed
IsNumbered streamed (messages.Update it) = is_some it.transaction ≡ streamed
IsNumbered streamed (messages.Delete it) = is_some it.transaction ≡ streamed
IsNumbered streamed (messages.Truncate it) = is_some it.transaction ≡ streamed
IsNumbered streamed other = Unit {0}

-- the answer is a message that says what another does
abbrev pub IsSaid : LogicalMessage → LogicalAnswer → Type 0
IsSaid m (Ok read) = says read ≡ says m
IsSaid m (Err fault) = ⊥

-- what is written of it is read as it
abbrev pub IsReadBack : LogicalMessage → Type 0
IsReadBack m = (streamed : Bool) (answer : LogicalAnswer) → IsNumbered streamed m → ReadsLogical streamed (content m) answer → IsSaid m answer
