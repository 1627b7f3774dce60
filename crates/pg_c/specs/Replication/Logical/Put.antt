-- The messages of logical replication as a C program passes them: what each says, by its letter.
use Rattle.std.specs.Prelude.{◌≡◌, ◌⊎◌, ℕ, ◌==◌, ℤ, true, List, map, Option, Some, None, Result, Ok, Err, if◌then◌else◌}
use Rattle.std.specs.Option.{option_or}
use Rattle.std.specs.Borrow.{Bor}
use Rattle.pg_base.specs.declared.error.ProtocolFault.{ProtocolFault}
use Rattle.pg_base.specs.declared.error.ProtocolFault.TheVariants.{UnknownMessageType, UnknownLetter}
use Rattle.pg_format.specs.Logical as page
use Rattle.pg_format.specs.Logical.{in_change_stream, logical_letter, IsNoLogicalLetter}
use Rattle.pg_format.specs.declared.logical.LogicalKind.{LogicalKind}
use Rattle.pg_format.specs.declared.logical.LogicalKind.TheVariants as kinds
use Rattle.pg_replication.specs.Logical.{LogicalAnswer}
use Rattle.pg_replication.specs.Logical.TableColumns.{shown_column}
use Rattle.pg_replication.specs.Logical.Encode.{says, IsContentWritten}
use Rattle.pg_replication.specs.Logical.Tuple.{kinds_fault, shown_text, IsMade}
use Rattle.pg_replication.specs.declared.logical.datum.OutboundDatum.{OutboundDatum}
use Rattle.pg_c.specs.Server.{number_of_answer}
use Rattle.pg_c.specs.declared.replication.logical.put.PgmsgLogicalText.{PgmsgLogicalText}

-- ---- what each says

-- the number of the transaction, which a change has where it is streamed
abbrev pub transaction_of : PgmsgLogicalText → Option ℕ
transaction_of t = if t.has_transaction then Some t.transaction else None

abbrev pub begin_of : PgmsgLogicalText → page.Begin
begin_of t = record { final_lsn = t.lsn; clock = t.clock; transaction = t.transaction }

abbrev pub emitted_of : PgmsgLogicalText → page.Message
emitted_of t = record { transaction = transaction_of t; flags = t.flags; lsn = t.lsn; prefix = t.name.now; content = t.content.now }

abbrev pub commit_of : PgmsgLogicalText → page.Commit
commit_of t = record { flags = t.flags; lsn = t.lsn; end_lsn = t.end_lsn; clock = t.clock }

abbrev pub origin_of : PgmsgLogicalText → page.Origin
origin_of t = record { lsn = t.lsn; name = t.name.now }

abbrev pub relation_of : PgmsgLogicalText → page.Relation
relation_of t = record {
  transaction = transaction_of t;
  relation = t.relation;
  schema = t.schema.now;
  name = t.name.now;
  replica_identity = t.replica_identity;
  columns = map shown_column t.columns.now;
}

abbrev pub type_name_of : PgmsgLogicalText → page.TypeName
type_name_of t = record { transaction = transaction_of t; type_id = t.type_id; schema = t.schema.now; name = t.name.now }

abbrev pub row_of : Bor (List OutboundDatum) → List page.Datum
row_of values = map shown_text values.now

abbrev pub insert_of : PgmsgLogicalText → page.Insert
insert_of t = record { transaction = transaction_of t; relation = t.relation; new = row_of t.values }

-- the row before a change, after K the columns of its key and after O all of them
abbrev pub old_of : PgmsgLogicalText → page.Old
old_of t = if t.old_letter == 75 then page.key (row_of t.old_values) else page.whole (row_of t.old_values)

-- and after 0 nothing
abbrev pub sent_of : PgmsgLogicalText → Option page.Old
sent_of t = if t.old_letter == 0 then None else Some (old_of t)

abbrev pub update_of : PgmsgLogicalText → page.Update
update_of t = record { transaction = transaction_of t; relation = t.relation; old = sent_of t; new = row_of t.values }

abbrev pub delete_of : PgmsgLogicalText → page.Delete
delete_of t = record { transaction = transaction_of t; relation = t.relation; old = old_of t }

abbrev pub truncate_of : PgmsgLogicalText → page.Truncate
truncate_of t = record { transaction = transaction_of t; options = t.flags; relations = t.relations.now }

abbrev pub start_of : PgmsgLogicalText → page.StreamStart
start_of t = record { transaction = t.transaction; is_first = t.is_first }

abbrev pub stream_commit_of : PgmsgLogicalText → page.StreamCommit
stream_commit_of t = record { transaction = t.transaction; flags = t.flags; lsn = t.lsn; end_lsn = t.end_lsn; clock = t.clock }

abbrev pub abort_of : PgmsgLogicalText → page.StreamAbort
abort_of t = record { transaction = t.transaction; subtransaction = t.subtransaction }

abbrev pub begin_prepare_of : PgmsgLogicalText → page.BeginPrepare
begin_prepare_of t = record { lsn = t.lsn; end_lsn = t.end_lsn; clock = t.clock; transaction = t.transaction; gid = t.name.now }

abbrev pub prepared_of : PgmsgLogicalText → page.Prepared
prepared_of t = record { flags = t.flags; lsn = t.lsn; end_lsn = t.end_lsn; clock = t.clock; transaction = t.transaction; gid = t.name.now }

abbrev pub undone_of : PgmsgLogicalText → page.RollbackPrepared
undone_of t = record {
  flags = t.flags;
  prepare_end_lsn = t.end_lsn;
  rollback_end_lsn = t.rollback_end_lsn;
  prepare_clock = t.clock;
  rollback_clock = t.rollback_clock;
  transaction = t.transaction;
  gid = t.name.now;
}

-- by the kind
abbrev pub said_of : PgmsgLogicalText → LogicalKind → (kind : LogicalKind) × (in_change_stream true kind).Value
said_of t kinds.Begin = (kinds.Begin, begin_of t)
said_of t kinds.Message = (kinds.Message, emitted_of t)
said_of t kinds.Commit = (kinds.Commit, commit_of t)
said_of t kinds.Origin = (kinds.Origin, origin_of t)
said_of t kinds.Relation = (kinds.Relation, relation_of t)
said_of t kinds.TypeName = (kinds.TypeName, type_name_of t)
said_of t kinds.Insert = (kinds.Insert, insert_of t)
said_of t kinds.Update = (kinds.Update, update_of t)
said_of t kinds.Delete = (kinds.Delete, delete_of t)
said_of t kinds.Truncate = (kinds.Truncate, truncate_of t)
said_of t kinds.StreamStart = (kinds.StreamStart, start_of t)
said_of t kinds.StreamStop = (kinds.StreamStop, tt)
said_of t kinds.StreamCommit = (kinds.StreamCommit, stream_commit_of t)
said_of t kinds.StreamAbort = (kinds.StreamAbort, abort_of t)
said_of t kinds.BeginPrepare = (kinds.BeginPrepare, begin_prepare_of t)
said_of t kinds.Prepare = (kinds.Prepare, prepared_of t)
said_of t kinds.CommitPrepared = (kinds.CommitPrepared, prepared_of t)
said_of t kinds.RollbackPrepared = (kinds.RollbackPrepared, undone_of t)
said_of t kinds.StreamPrepare = (kinds.StreamPrepare, prepared_of t)

-- ---- letters that say nothing

-- of the row before a change: its own, then one of its values
abbrev pub old_fault : PgmsgLogicalText → Option ProtocolFault
old_fault t =
    if t.old_letter == 75 then kinds_fault t.old_values.now else (
    if t.old_letter == 79 then kinds_fault t.old_values.now else
    Some (UnknownLetter t.old_letter))

abbrev pub sent_fault : PgmsgLogicalText → Option ProtocolFault
sent_fault t = if t.old_letter == 0 then None else old_fault t

abbrev pub update_fault : PgmsgLogicalText → Option ProtocolFault
update_fault t = option_or (sent_fault t) (kinds_fault t.values.now)

-- by the kind
abbrev pub letters_fault : PgmsgLogicalText → LogicalKind → Option ProtocolFault
letters_fault t kinds.Insert = kinds_fault t.values.now
letters_fault t kinds.Update = update_fault t
letters_fault t kinds.Delete = old_fault t
letters_fault t other = None

-- ---- the message

-- of a letter of this kind
pub record IsOfKind (t : PgmsgLogicalText) (message : LogicalAnswer) : Type 0 where
  pub kind : LogicalKind
  pub lettered : logical_letter kind ≡ t.letter
  pub is : IsMade says (letters_fault t kind) (said_of t kind) message

-- it says what the struct has of it; or the letter is of no kind, or one in the rows is
abbrev pub IsMessageOf : PgmsgLogicalText → LogicalAnswer → Type 0
IsMessageOf t message = IsOfKind t message ⊎ (IsNoLogicalLetter t.letter × (message ≡ Err (UnknownMessageType t.letter)))

-- it is written where there is one; else the bytes are as they were
abbrev pub IsAnswerWritten : LogicalAnswer → List ℕ → List ℕ → Result ℕ ProtocolFault → Type 0
IsAnswerWritten (Ok message) old new answer = IsContentWritten message old new answer
IsAnswerWritten (Err fault) old new answer = (answer ≡ Err fault) × (new ≡ old)

pub record IsWrittenOf (t : PgmsgLogicalText) (old new : List ℕ) (answer : Result ℕ ProtocolFault) : Type 0 where
  pub message : LogicalAnswer
  pub is : IsMessageOf t message
  pub written : IsAnswerWritten message old new answer

-- the message is put, or refused for its letters or its first fault
pub record PutsLogical (t : PgmsgLogicalText) (old new : List ℕ) (result : ℤ) : Type 0 where
  pub answer : Result ℕ ProtocolFault
  pub is : IsWrittenOf t old new answer
  pub number : result ≡ number_of_answer answer
