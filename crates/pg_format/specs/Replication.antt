-- What the data of a CopyData says while a server streams its log or a backup, in the order of the documentation's
-- "Streaming Replication Protocol": (B) is sent by the server, (F) by the client. A message begins with a letter, which
-- says its kind; a format here is of what follows the letter.
use Rattle.std.specs.Prelude.{◌≢◌, ℕ, ◌==◌, ℤ, Bool, true, false, List, Option, Some, None, if◌then◌else◌}
use Rattle.pg_base.specs.declared.error.ProtocolFault.TheVariants.{UnknownLetter}
use Rattle.pg_format.specs.declared.replication.ReplicationKind.{ReplicationKind}
use Rattle.pg_format.specs.declared.replication.ReplicationKind.TheVariants as contents
use Rattle.pg_format.specs.Format.{Format}
use Rattle.pg_format.specs.Format.Parts.{until_nul, be_u8, be_u32, be_u64, be_i64, remaining, one_of, success}
use Rattle.pg_format.specs.Format.Sequences.{◌⨾◌, record_of, mapped}
use Rattle.pg_format.specs.Format.Ends.{exactly}
use Rattle.pg_format.specs.Messages.{Meaning, means}

-- a byte that is 0 for no; it is written as 0 or 1
abbrev pub is_set : ℕ → Bool
is_set byte = if byte == 0 then false else true

abbrev pub bit : Bool → ℕ
bit set = if set then 1 else 0

abbrev pub flag : Format Bool
flag = mapped is_set bit be_u8

-- ---- in the data of a CopyData

-- XLogData (B): a piece of the log, where it begins, where the log ends, and the clock of the server. Positions count
-- bytes, clocks microseconds since the beginning of the year 2000.
pub record XLogData : Type 0 where
  pub start : ℕ
  pub end : ℕ
  pub clock : ℤ
  pub content : List ℕ

abbrev pub xlog_data : Format XLogData
xlog_data = record_of (λ x. (x.start, (x.end, (x.clock, x.content)))) (exactly (be_u64 ⨾ be_u64 ⨾ be_i64 ⨾ remaining))

-- Primary keepalive message (B): where the log ends, and whether the client is to answer at once
pub record PrimaryKeepalive : Type 0 where
  pub end : ℕ
  pub clock : ℤ
  pub wants_reply : Bool

abbrev pub primary_keepalive : Format PrimaryKeepalive
primary_keepalive = record_of (λ k. (k.end, (k.clock, k.wants_reply))) (exactly (be_u64 ⨾ be_i64 ⨾ flag))

-- Standby status update (F): the positions after the last byte that was written, flushed and applied
pub record StandbyStatusUpdate : Type 0 where
  pub written : ℕ
  pub flushed : ℕ
  pub applied : ℕ
  pub clock : ℤ
  pub wants_reply : Bool

abbrev pub standby_status_update : Format StandbyStatusUpdate
standby_status_update = record_of (λ u. (u.written, (u.flushed, (u.applied, (u.clock, u.wants_reply))))) (exactly (be_u64 ⨾ be_u64 ⨾ be_u64 ⨾ be_i64 ⨾ flag))

-- Hot standby feedback message (F): the oldest transactions that the standby needs, each with its epoch
pub record HotStandbyFeedback : Type 0 where
  pub clock : ℤ
  pub xmin : ℕ
  pub xmin_epoch : ℕ
  pub catalog_xmin : ℕ
  pub catalog_xmin_epoch : ℕ

abbrev pub hot_standby_feedback : Format HotStandbyFeedback
hot_standby_feedback = record_of (λ f. (f.clock, (f.xmin, (f.xmin_epoch, (f.catalog_xmin, f.catalog_xmin_epoch))))) (exactly (be_i64 ⨾ be_u32 ⨾ be_u32 ⨾ be_u32 ⨾ be_u32))

-- new archive (B) of a BASE_BACKUP: the name of its file, and the folder of its tablespace
pub record NewArchive : Type 0 where
  pub name : List ℕ
  pub location : List ℕ

abbrev pub new_archive : Format NewArchive
new_archive = record_of (λ a. (a.name, a.location)) (exactly (until_nul ⨾ until_nul))

-- manifest (B)
abbrev pub manifest : Format (Unit {0})
manifest = exactly (success tt)

-- archive or manifest data (B)
abbrev pub backup_data : Format (List ℕ)
backup_data = exactly remaining

-- progress report (B): how many bytes were processed
abbrev pub progress : Format ℕ
progress = exactly be_u64

-- what follows the letter of a kind
abbrev pub in_copy_data : ReplicationKind → Meaning
in_copy_data contents.XLogData = means xlog_data
in_copy_data contents.PrimaryKeepalive = means primary_keepalive
in_copy_data contents.StandbyStatusUpdate = means standby_status_update
in_copy_data contents.HotStandbyFeedback = means hot_standby_feedback
in_copy_data contents.NewArchive = means new_archive
in_copy_data contents.Manifest = means manifest
in_copy_data contents.BackupData = means backup_data
in_copy_data contents.Progress = means progress

-- the letter of a kind
abbrev pub replication_letter : ReplicationKind → ℕ
replication_letter contents.XLogData = 119
replication_letter contents.PrimaryKeepalive = 107
replication_letter contents.StandbyStatusUpdate = 114
replication_letter contents.HotStandbyFeedback = 104
replication_letter contents.NewArchive = 110
replication_letter contents.Manifest = 109
replication_letter contents.BackupData = 100
replication_letter contents.Progress = 112

-- no kind has the letter
abbrev pub IsNoLetter : ℕ → Type 0
IsNoLetter byte = (kind : ReplicationKind) → replication_letter kind ≢ byte

-- this letter
abbrev pub read_letter : ℕ → ℕ → Option (Unit {0})
read_letter own byte = if byte == own then Some tt else None

abbrev pub letter : ℕ → Format (Unit {0})
letter own = one_of (read_letter own) (λ _. own) UnknownLetter

-- the whole of the data: a letter, and what it says
abbrev pub replication : (kind : ReplicationKind) → Format (in_copy_data kind).Value
replication kind = record_of (λ value. (tt, value)) (letter (replication_letter kind) ⨾ (in_copy_data kind).format)
