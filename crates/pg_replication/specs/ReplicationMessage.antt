-- What the messages of replication say, as the page has it, and what reading one answers.
use Rattle.std.specs.Prelude.{ℕ, List, Result}
use Rattle.pg_base.specs.declared.error.ProtocolFault.{ProtocolFault}
use Rattle.pg_format.specs.Replication as page
use Rattle.pg_format.specs.Replication.{replication_letter}
use Rattle.pg_format.specs.declared.replication.ReplicationKind.{ReplicationKind}
use Rattle.pg_format.specs.declared.replication.ReplicationKind.TheVariants as kinds
use Rattle.pg_replication.specs.Lettered.{Reads, ReadsLettered}
use Rattle.pg_replication.specs.declared.streaming.XLogData.{XLogData}
use Rattle.pg_replication.specs.declared.streaming.PrimaryKeepalive.{PrimaryKeepalive}
use Rattle.pg_replication.specs.declared.streaming.StandbyStatusUpdate.{StandbyStatusUpdate}
use Rattle.pg_replication.specs.declared.streaming.HotStandbyFeedback.{HotStandbyFeedback}
use Rattle.pg_replication.specs.declared.backup.NewArchive.{NewArchive}
use Rattle.pg_replication.specs.declared.backup.Manifest.{Manifest}
use Rattle.pg_replication.specs.declared.backup.BackupData.{BackupData}
use Rattle.pg_replication.specs.declared.backup.Progress.{Progress}
use Rattle.pg_replication.specs.declared.replication_message.ReplicationMessage.{ReplicationMessage}
use Rattle.pg_replication.specs.declared.replication_message.ReplicationMessage.TheVariants as messages

abbrev pub shown_xlog_data : XLogData → page.XLogData
shown_xlog_data x = record { start = x.start; end = x.end; clock = x.clock; content = x.content.now }

abbrev pub shown_keepalive : PrimaryKeepalive → page.PrimaryKeepalive
shown_keepalive p = record { end = p.end; clock = p.clock; wants_reply = p.wants_reply }

abbrev pub shown_status_update : StandbyStatusUpdate → page.StandbyStatusUpdate
shown_status_update s = record { written = s.written; flushed = s.flushed; applied = s.applied; clock = s.clock; wants_reply = s.wants_reply }

abbrev pub shown_feedback : HotStandbyFeedback → page.HotStandbyFeedback
shown_feedback h = record { clock = h.clock; xmin = h.xmin; xmin_epoch = h.xmin_epoch; catalog_xmin = h.catalog_xmin; catalog_xmin_epoch = h.catalog_xmin_epoch }

abbrev pub shown_new_archive : NewArchive → page.NewArchive
shown_new_archive n = record { name = n.name.now; location = n.location.now }

abbrev pub shown_manifest : Manifest → Unit {0}
shown_manifest m = tt

abbrev pub shown_backup_data : BackupData → List ℕ
shown_backup_data b = b.content.now

abbrev pub shown_progress : Progress → ℕ
shown_progress p = p.processed

-- ---- reading

abbrev pub Answer : Type 0
Answer = Result ReplicationMessage ProtocolFault

abbrev pub ReadsKind : ReplicationKind → List ℕ → Answer → Type 0
ReadsKind kinds.XLogData message result = Reads messages.XLogData page.xlog_data shown_xlog_data message result
ReadsKind kinds.PrimaryKeepalive message result = Reads messages.PrimaryKeepalive page.primary_keepalive shown_keepalive message result
ReadsKind kinds.StandbyStatusUpdate message result = Reads messages.StandbyStatusUpdate page.standby_status_update shown_status_update message result
ReadsKind kinds.HotStandbyFeedback message result = Reads messages.HotStandbyFeedback page.hot_standby_feedback shown_feedback message result
ReadsKind kinds.NewArchive message result = Reads messages.NewArchive page.new_archive shown_new_archive message result
ReadsKind kinds.Manifest message result = Reads messages.Manifest page.manifest shown_manifest message result
ReadsKind kinds.BackupData message result = Reads messages.BackupData page.backup_data shown_backup_data message result
ReadsKind kinds.Progress message result = Reads messages.Progress page.progress shown_progress message result

abbrev pub ReadsReplication : List ℕ → Answer → Type 0
ReadsReplication message result = ReadsLettered replication_letter ReadsKind message result
