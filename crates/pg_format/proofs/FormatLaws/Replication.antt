-- The laws of the messages of replication: what follows the letter means one value, or has one fault.
use Rattle.std.specs.Prelude.{◌≡◌, ℕ, Some}
use Rattle.std.proofs.Common.{refl}
use Rattle.std.proofs.lemmas.Bool.{eq-eqb}
use Rattle.pg_base.specs.declared.error.ProtocolFault.TheVariants.{UnknownLetter}
use Rattle.pg_format.specs.declared.replication.ReplicationKind.{ReplicationKind}
use Rattle.pg_format.specs.declared.replication.ReplicationKind.TheVariants as contents
use Rattle.pg_format.specs.Format.{Lawful, Total}
use Rattle.pg_format.specs.Format.Parts.{be_u32, be_u64, be_i64}
use Rattle.pg_format.specs.Replication.{is_set, bit, flag, xlog_data, primary_keepalive, standby_status_update, hot_standby_feedback, new_archive, manifest, backup_data, progress, in_copy_data, replication_letter, read_letter, letter, replication}
use Rattle.pg_format.proofs.FormatLaws.Parts.{lawful_until_nul, total_until_nul, lawful_unsigned, total_unsigned, lawful_signed, total_signed, lawful_remaining, total_remaining, lawful_success, total_success, lawful_one_of, total_one_of}
use Rattle.pg_format.proofs.FormatLaws.Sequences.{◌l⨾◌, ◌t⨾◌, lawful_record_of, total_record_of, lawful_mapped, total_mapped}
use Rattle.pg_format.proofs.FormatLaws.Ends.{lawful_exactly, total_exactly}

pub u32 : Lawful be_u32
u32 = lawful_unsigned 4 tt

pub u64 : Lawful be_u64
u64 = lawful_unsigned 8 tt

pub i64 : Lawful be_i64
i64 = lawful_signed 8 tt

pub lawful_flag : Lawful flag
lawful_flag = lawful_mapped is_set bit (lawful_unsigned 1 tt)

pub total_flag : Total flag
total_flag = total_mapped is_set bit (total_unsigned 1)

pub lawful_xlog_data : Lawful xlog_data
lawful_xlog_data =
    lawful_record_of _ (λ a b e i. record { start = (e i).0; end = (e i).1.0; clock = (e i).1.1.0; content = (e i).1.1.1 }) (lawful_exactly (u64 l⨾ u64 l⨾ i64 l⨾ lawful_remaining))

total_xlog_data : Total xlog_data
total_xlog_data =
    total_record_of _ (λ a. record { start = a.0; end = a.1.0; clock = a.1.1.0; content = a.1.1.1 }) (λ a. refl) (total_exactly (total_unsigned 8 t⨾ total_unsigned 8 t⨾ total_signed 8 t⨾ total_remaining))

pub lawful_primary_keepalive : Lawful primary_keepalive
lawful_primary_keepalive =
    lawful_record_of _ (λ a b e i. record { end = (e i).0; clock = (e i).1.0; wants_reply = (e i).1.1 }) (lawful_exactly (u64 l⨾ i64 l⨾ lawful_flag))

total_primary_keepalive : Total primary_keepalive
total_primary_keepalive =
    total_record_of _ (λ a. record { end = a.0; clock = a.1.0; wants_reply = a.1.1 }) (λ a. refl) (total_exactly (total_unsigned 8 t⨾ total_signed 8 t⨾ total_flag))

pub lawful_standby_status_update : Lawful standby_status_update
lawful_standby_status_update =
    lawful_record_of _ (λ a b e i. record { written = (e i).0; flushed = (e i).1.0; applied = (e i).1.1.0; clock = (e i).1.1.1.0; wants_reply = (e i).1.1.1.1 }) (lawful_exactly (u64 l⨾ u64 l⨾ u64 l⨾ i64 l⨾ lawful_flag))

total_standby_status_update : Total standby_status_update
total_standby_status_update =
    total_record_of _ (λ a. record { written = a.0; flushed = a.1.0; applied = a.1.1.0; clock = a.1.1.1.0; wants_reply = a.1.1.1.1 }) (λ a. refl) (total_exactly (total_unsigned 8 t⨾ total_unsigned 8 t⨾ total_unsigned 8 t⨾ total_signed 8 t⨾ total_flag))

pub lawful_hot_standby_feedback : Lawful hot_standby_feedback
lawful_hot_standby_feedback =
    lawful_record_of _ (λ a b e i. record { clock = (e i).0; xmin = (e i).1.0; xmin_epoch = (e i).1.1.0; catalog_xmin = (e i).1.1.1.0; catalog_xmin_epoch = (e i).1.1.1.1 }) (lawful_exactly (i64 l⨾ u32 l⨾ u32 l⨾ u32 l⨾ u32))

total_hot_standby_feedback : Total hot_standby_feedback
total_hot_standby_feedback =
    total_record_of _ (λ a. record { clock = a.0; xmin = a.1.0; xmin_epoch = a.1.1.0; catalog_xmin = a.1.1.1.0; catalog_xmin_epoch = a.1.1.1.1 }) (λ a. refl) (total_exactly (total_signed 8 t⨾ total_unsigned 4 t⨾ total_unsigned 4 t⨾ total_unsigned 4 t⨾ total_unsigned 4))

pub lawful_new_archive : Lawful new_archive
lawful_new_archive = lawful_record_of _ (λ a b e i. record { name = (e i).0; location = (e i).1 }) (lawful_exactly (lawful_until_nul l⨾ lawful_until_nul))

total_new_archive : Total new_archive
total_new_archive = total_record_of _ (λ a. record { name = a.0; location = a.1 }) (λ a. refl) (total_exactly (total_until_nul t⨾ total_until_nul))

pub lawful_manifest : Lawful manifest
lawful_manifest = lawful_exactly (lawful_success tt)

pub lawful_backup_data : Lawful backup_data
lawful_backup_data = lawful_exactly lawful_remaining

pub lawful_progress : Lawful progress
lawful_progress = lawful_exactly u64

pub lawful_in_copy_data : (kind : ReplicationKind) → Lawful (in_copy_data kind).format
lawful_in_copy_data contents.XLogData = lawful_xlog_data
lawful_in_copy_data contents.PrimaryKeepalive = lawful_primary_keepalive
lawful_in_copy_data contents.StandbyStatusUpdate = lawful_standby_status_update
lawful_in_copy_data contents.HotStandbyFeedback = lawful_hot_standby_feedback
lawful_in_copy_data contents.NewArchive = lawful_new_archive
lawful_in_copy_data contents.Manifest = lawful_manifest
lawful_in_copy_data contents.BackupData = lawful_backup_data
lawful_in_copy_data contents.Progress = lawful_progress

pub total_in_copy_data : (kind : ReplicationKind) → Total (in_copy_data kind).format
total_in_copy_data contents.XLogData = total_xlog_data
total_in_copy_data contents.PrimaryKeepalive = total_primary_keepalive
total_in_copy_data contents.StandbyStatusUpdate = total_standby_status_update
total_in_copy_data contents.HotStandbyFeedback = total_hot_standby_feedback
total_in_copy_data contents.NewArchive = total_new_archive
total_in_copy_data contents.Manifest = total_exactly (total_success tt)
total_in_copy_data contents.BackupData = total_exactly total_remaining
total_in_copy_data contents.Progress = total_exactly (total_unsigned 8)

-- ---- with the letter

own_letter : (own : ℕ) → read_letter own own ≡ Some tt
own_letter own = rw (eq-eqb own own refl) refl

pub lawful_letter : (own : ℕ) → Lawful (letter own)
lawful_letter own = lawful_one_of (read_letter own) (λ _. own) UnknownLetter (λ _. own_letter own)

pub total_letter : (own : ℕ) → Total (letter own)
total_letter own = total_one_of (read_letter own) (λ _. own) UnknownLetter

pub lawful_replication : (kind : ReplicationKind) → Lawful (replication kind)
lawful_replication kind = lawful_record_of _ (λ a b e i. (e i).1) (lawful_letter (replication_letter kind) l⨾ lawful_in_copy_data kind)
