-- The messages of replication as a C program reads and passes them: one record has what all of the kinds have.
pub mod Logical
use Rattle.std.specs.Prelude.{◌≡◌, ◌≤◌, ℕ, List, length, Bool, false, ℤ, pos, Result, Ok, Err}
use Rattle.pg_base.specs.declared.error.ProtocolFault.{ProtocolFault}
use Rattle.pg_format.specs.Received.{max_body}
use Rattle.pg_format.specs.Replication.{replication_letter}
use Rattle.pg_format.specs.declared.replication.ReplicationKind.{ReplicationKind}
use Rattle.pg_format.specs.declared.replication.ReplicationKind.TheVariants as kinds
use Rattle.pg_server.specs.Backend.Message.{Message, Replication}
use Rattle.pg_replication.specs.ReplicationMessage.{ReadsReplication, shown_xlog_data, shown_keepalive, shown_status_update, shown_feedback}
use Rattle.pg_replication.specs.declared.replication_message.ReplicationMessage.{ReplicationMessage}
use Rattle.pg_replication.specs.declared.replication_message.ReplicationMessage.TheVariants as messages
use Rattle.pg_replication.specs.declared.streaming.XLogData.{XLogData}
use Rattle.pg_replication.specs.declared.streaming.PrimaryKeepalive.{PrimaryKeepalive}
use Rattle.pg_replication.specs.declared.streaming.StandbyStatusUpdate.{StandbyStatusUpdate}
use Rattle.pg_replication.specs.declared.streaming.HotStandbyFeedback.{HotStandbyFeedback}
use Rattle.pg_c.specs.Place.{StandsIn, nowhere}
use Rattle.pg_c.specs.Read.{IsBodyFault}
use Rattle.pg_c.specs.Server.{PutsByTag}
use Rattle.pg_c.specs.declared.place.PgmsgSpan.{PgmsgSpan}
use Rattle.pg_c.specs.declared.replication.put.PgmsgReplicationText.{PgmsgReplicationText}
use Rattle.pg_c.specs.declared.replication.read.PgmsgReplication.{PgmsgReplication}

-- ---- reading

-- the struct, by its letter, where a piece of the log begins and the log ends, how far a client has come, how many bytes
-- were processed, a clock, a flag, the oldest transactions with their epochs, and places
abbrev pub filled : ℕ → (ℕ × ℕ) → (ℕ × ℕ × ℕ) → ℕ → ℤ → Bool → (ℕ × ℕ × ℕ × ℕ) → PgmsgSpan → PgmsgSpan → PgmsgSpan → PgmsgReplication
filled letter piece reached processed clock wants_reply oldest name location content = record {
  letter = letter;
  start = piece.0;
  end = piece.1;
  written = reached.0;
  flushed = reached.1;
  applied = reached.2;
  processed = processed;
  clock = clock;
  wants_reply = wants_reply;
  xmin = oldest.0;
  xmin_epoch = oldest.1;
  catalog_xmin = oldest.2;
  catalog_xmin_epoch = oldest.3;
  name = name;
  location = location;
  content = content;
}

-- of a message that doesn't say how far a client has come, and of one that names no transactions
abbrev pub unreached : ℕ × ℕ × ℕ
unreached = (0, 0, 0)

abbrev pub no_oldest : ℕ × ℕ × ℕ × ℕ
no_oldest = (0, 0, 0, 0)

-- a piece of the log, whose bytes are at a place
abbrev pub given_log : XLogData → PgmsgSpan → PgmsgReplication
given_log x place = filled 119 (x.start, x.end) unreached 0 x.clock false no_oldest nowhere nowhere place

abbrev pub given_keepalive : PrimaryKeepalive → PgmsgReplication
given_keepalive k = filled 107 (0, k.end) unreached 0 k.clock k.wants_reply no_oldest nowhere nowhere nowhere

abbrev pub given_status : StandbyStatusUpdate → PgmsgReplication
given_status s = filled 114 (0, 0) (s.written, s.flushed, s.applied) 0 s.clock s.wants_reply no_oldest nowhere nowhere nowhere

abbrev pub given_feedback : HotStandbyFeedback → PgmsgReplication
given_feedback h = filled 104 (0, 0) unreached 0 h.clock false (h.xmin, h.xmin_epoch, h.catalog_xmin, h.catalog_xmin_epoch) nowhere nowhere nowhere

-- a message of a backup, with a letter, a number and places
abbrev pub given_backup : ℕ → ℕ → PgmsgSpan → PgmsgSpan → PgmsgSpan → PgmsgReplication
given_backup letter processed name location content = filled letter (0, 0) unreached processed (pos 0) false no_oldest name location content

-- the message by its letter; what is of other kinds is 0 and empty
abbrev pub IsGivenAs : List ℕ → ReplicationMessage → PgmsgReplication → Type 0
IsGivenAs bytes (messages.XLogData x) given = StandsIn bytes given.content x.content.now × (given ≡ given_log x given.content)
IsGivenAs bytes (messages.PrimaryKeepalive k) given = given ≡ given_keepalive k
IsGivenAs bytes (messages.StandbyStatusUpdate s) given = given ≡ given_status s
IsGivenAs bytes (messages.HotStandbyFeedback h) given = given ≡ given_feedback h
IsGivenAs bytes (messages.NewArchive n) given =
    StandsIn bytes given.name n.name.now × StandsIn bytes given.location n.location.now × (given ≡ given_backup 110 0 given.name given.location nowhere)
IsGivenAs bytes (messages.Manifest m) given = given ≡ given_backup 109 0 nowhere nowhere nowhere
IsGivenAs bytes (messages.BackupData d) given = StandsIn bytes given.content d.content.now × (given ≡ given_backup 100 0 nowhere nowhere given.content)
IsGivenAs bytes (messages.Progress p) given = given ≡ given_backup 112 p.processed nowhere nowhere nowhere

-- the bytes mean a message, and this is it
pub record ReadsMessage (bytes : List ℕ) (given : PgmsgReplication) : Type 0 where
  pub message : ReplicationMessage
  pub reads : ReadsReplication bytes (Ok message)
  pub is : IsGivenAs bytes message given

-- the bytes mean no message, for this fault
abbrev pub BreaksReplication : List ℕ → ProtocolFault → Type 0
BreaksReplication bytes fault = ReadsReplication bytes (Err fault)

-- what is read of the data of a CopyData: a message, or its fault
abbrev pub ReadsContent : List ℕ → Result ReplicationMessage ProtocolFault → Type 0
ReadsContent bytes (Ok message) = (length bytes ≤ max_body) × ReadsReplication bytes (Ok message)
ReadsContent bytes (Err fault) = IsBodyFault BreaksReplication bytes fault

-- ---- writing

abbrev pub log_of : PgmsgReplicationText → XLogData
log_of t = record { start = t.start; end = t.end; clock = t.clock; content = t.content }

abbrev pub keepalive_of : PgmsgReplicationText → PrimaryKeepalive
keepalive_of t = record { end = t.end; clock = t.clock; wants_reply = t.wants_reply }

abbrev pub status_of : PgmsgReplicationText → StandbyStatusUpdate
status_of t = record { written = t.written; flushed = t.flushed; applied = t.applied; clock = t.clock; wants_reply = t.wants_reply }

abbrev pub feedback_of : PgmsgReplicationText → HotStandbyFeedback
feedback_of t = record { clock = t.clock; xmin = t.xmin; xmin_epoch = t.xmin_epoch; catalog_xmin = t.catalog_xmin; catalog_xmin_epoch = t.catalog_xmin_epoch }

-- the message of a kind
abbrev pub content_of : PgmsgReplicationText → ReplicationKind → Message
content_of t kinds.XLogData = Replication kinds.XLogData (shown_xlog_data (log_of t))
content_of t kinds.PrimaryKeepalive = Replication kinds.PrimaryKeepalive (shown_keepalive (keepalive_of t))
content_of t kinds.StandbyStatusUpdate = Replication kinds.StandbyStatusUpdate (shown_status_update (status_of t))
content_of t kinds.HotStandbyFeedback = Replication kinds.HotStandbyFeedback (shown_feedback (feedback_of t))
content_of t kinds.NewArchive = Replication kinds.NewArchive (record { name = t.name.now; location = t.location.now })
content_of t kinds.Manifest = Replication kinds.Manifest tt
content_of t kinds.BackupData = Replication kinds.BackupData t.content.now
content_of t kinds.Progress = Replication kinds.Progress t.processed

-- the message is put as a whole CopyData, or refused for its letter or its first fault
abbrev pub PutsReplication : PgmsgReplicationText → List ℕ → List ℕ → ℤ → Type 0
PutsReplication message old new result = PutsByTag replication_letter (content_of message) message.letter old new result
