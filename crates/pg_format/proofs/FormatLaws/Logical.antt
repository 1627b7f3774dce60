-- The laws of the messages of logical replication: what follows the letter means one value, or has one fault.
use Rattle.std.specs.Prelude.{ℕ, ◌==◌, Bool, true, false, Some, None}
use Rattle.std.proofs.Common.{refl}
use Rattle.pg_base.specs.declared.error.ProtocolFault.TheVariants.{UnknownLetter}
use Rattle.pg_format.specs.declared.logical.LogicalKind.{LogicalKind}
use Rattle.pg_format.specs.declared.logical.LogicalKind.TheVariants as logical
use Rattle.pg_format.specs.Format.{Lawful, Total}
use Rattle.pg_format.specs.Format.Parts.{be_u8, be_u32, bytes_of}
use Rattle.pg_format.specs.Format.Lists.{times, counted}
use Rattle.pg_format.specs.Format.Sequences.{◌⨾◌}
use Rattle.pg_format.specs.Logical.{itself, transaction, with_length, sized, null, unchanged, text, binary, text_of, binary_of, datum_by, with_datum_letter, datum, tuple, new_tuple, key, whole, key_of, whole_of, old_by, with_old_letter, old_tuple, begin, message, commit, origin, column, relation, type_name, insert, update, delete, with_count, truncated, truncate, stream_start, stream_stop, stream_commit, stream_abort, begin_prepare, prepared, rollback_prepared, in_change_stream}
use Rattle.pg_format.proofs.FormatLaws.Parts.{lawful_until_nul, total_until_nul, lawful_unsigned, total_unsigned, lawful_signed, total_signed, lawful_bytes_of, total_bytes_of, lawful_success, total_success, lawful_fail_before, total_fail_before}
use Rattle.pg_format.proofs.FormatLaws.Sequences.{◌l⨾◌, ◌t⨾◌, lawful_dep_pair, total_dep_pair, lawful_record_of, total_record_of, lawful_mapped, total_mapped, lawful_case_of, total_case_of, lawful_choose, total_choose}
use Rattle.pg_format.proofs.FormatLaws.Tests.{lawful_unless, total_unless}
use Rattle.pg_format.proofs.FormatLaws.Lists.{lawful_times, total_times, lawful_counted, total_counted}
use Rattle.pg_format.proofs.FormatLaws.Ends.{lawful_exactly, total_exactly}
use Rattle.pg_format.proofs.FormatLaws.Replication.{u32, u64, i64, lawful_flag, total_flag, lawful_letter, total_letter}

u8 : Lawful be_u8
u8 = lawful_unsigned 1 tt

pub lawful_transaction : (streamed : Bool) → Lawful (transaction streamed)
lawful_transaction true = lawful_case_of Some itself u32
lawful_transaction false = lawful_success None

pub total_transaction : (streamed : Bool) → Total (transaction streamed)
total_transaction true = total_case_of Some itself (total_unsigned 4)
total_transaction false = total_success None

lawful_sized : Lawful sized
lawful_sized = lawful_mapped (λ v. v.1) with_length (lawful_dep_pair bytes_of u32 lawful_bytes_of)

total_sized : Total sized
total_sized = total_mapped (λ v. v.1) with_length (total_dep_pair bytes_of (total_unsigned 4) total_bytes_of)

-- ---- TupleData

lawful_datum_by : (byte : ℕ) → Lawful (datum_by byte)
lawful_datum_by byte =
    lawful_choose (byte == 110) (lawful_success null)
    (lawful_choose (byte == 117) (lawful_success unchanged)
    (lawful_choose (byte == 116) (lawful_case_of text text_of lawful_sized)
    (lawful_choose (byte == 98) (lawful_case_of binary binary_of lawful_sized)
    (lawful_fail_before 0 (λ _. UnknownLetter byte)))))

total_datum_by : (byte : ℕ) → Total (datum_by byte)
total_datum_by byte =
    total_choose (byte == 110) (total_success null)
    (total_choose (byte == 117) (total_success unchanged)
    (total_choose (byte == 116) (total_case_of text text_of total_sized)
    (total_choose (byte == 98) (total_case_of binary binary_of total_sized)
    (total_fail_before 0 (λ _. UnknownLetter byte)))))

pub lawful_datum : Lawful datum
lawful_datum = lawful_mapped (λ v. v.1) with_datum_letter (lawful_dep_pair datum_by u8 lawful_datum_by)

pub total_datum : Total datum
total_datum = total_mapped (λ v. v.1) with_datum_letter (total_dep_pair datum_by (total_unsigned 1) total_datum_by)

lawful_tuple : Lawful tuple
lawful_tuple = lawful_counted lawful_datum

total_tuple : Total tuple
total_tuple = total_counted total_datum

lawful_new_tuple : Lawful new_tuple
lawful_new_tuple = lawful_letter 78 l⨾ lawful_tuple

total_new_tuple : Total new_tuple
total_new_tuple = total_letter 78 t⨾ total_tuple

lawful_old_by : (byte : ℕ) → Lawful (old_by byte)
lawful_old_by byte = lawful_choose (byte == 75) (lawful_case_of key key_of lawful_tuple) (lawful_choose (byte == 79) (lawful_case_of whole whole_of lawful_tuple) (lawful_fail_before 0 (λ _. UnknownLetter byte)))

total_old_by : (byte : ℕ) → Total (old_by byte)
total_old_by byte = total_choose (byte == 75) (total_case_of key key_of total_tuple) (total_choose (byte == 79) (total_case_of whole whole_of total_tuple) (total_fail_before 0 (λ _. UnknownLetter byte)))

lawful_old_tuple : Lawful old_tuple
lawful_old_tuple = lawful_mapped (λ v. v.1) with_old_letter (lawful_dep_pair old_by u8 lawful_old_by)

total_old_tuple : Total old_tuple
total_old_tuple = total_mapped (λ v. v.1) with_old_letter (total_dep_pair old_by (total_unsigned 1) total_old_by)

-- ---- lists

pub lawful_id : Lawful be_u32
lawful_id = u32

pub total_id : Total be_u32
total_id = total_unsigned 4

pub lawful_table_column : Lawful column
lawful_table_column =
    lawful_record_of _ (λ a b e i. record { flags = (e i).0; name = (e i).1.0; type_id = (e i).1.1.0; type_modifier = (e i).1.1.1 }) (u8 l⨾ lawful_until_nul l⨾ u32 l⨾ lawful_signed 4 tt)

pub total_table_column : Total column
total_table_column =
    total_record_of _ (λ a. record { flags = a.0; name = a.1.0; type_id = a.1.1.0; type_modifier = a.1.1.1 }) (λ a. refl) (total_unsigned 1 t⨾ total_until_nul t⨾ total_unsigned 4 t⨾ total_signed 4)

lawful_columns : Lawful (counted column)
lawful_columns = lawful_counted lawful_table_column

total_columns : Total (counted column)
total_columns = total_counted total_table_column

lawful_truncated : Lawful truncated
lawful_truncated = lawful_mapped (λ v. v.1) with_count (lawful_dep_pair (λ n. be_u8 ⨾ times n be_u32) u32 (λ n. u8 l⨾ lawful_times u32 n))

total_truncated : Total truncated
total_truncated = total_mapped (λ v. v.1) with_count (total_dep_pair (λ n. be_u8 ⨾ times n be_u32) (total_unsigned 4) (λ n. total_unsigned 1 t⨾ total_times (total_unsigned 4) n))

-- ---- the messages

pub lawful_begin : Lawful begin
lawful_begin = lawful_record_of _ (λ a b e i. record { final_lsn = (e i).0; clock = (e i).1.0; transaction = (e i).1.1 }) (lawful_exactly (u64 l⨾ i64 l⨾ u32))

total_begin : Total begin
total_begin = total_record_of _ (λ a. record { final_lsn = a.0; clock = a.1.0; transaction = a.1.1 }) (λ a. refl) (total_exactly (total_unsigned 8 t⨾ total_signed 8 t⨾ total_unsigned 4))

pub lawful_message : (streamed : Bool) → Lawful (message streamed)
lawful_message streamed = lawful_record_of _ (λ a b e i. record { transaction = (e i).0; flags = (e i).1.0; lsn = (e i).1.1.0; prefix = (e i).1.1.1.0; content = (e i).1.1.1.1 }) (lawful_exactly (lawful_transaction streamed l⨾ u8 l⨾ u64 l⨾ lawful_until_nul l⨾ lawful_sized))

total_message : (streamed : Bool) → Total (message streamed)
total_message streamed = total_record_of _ (λ a. record { transaction = a.0; flags = a.1.0; lsn = a.1.1.0; prefix = a.1.1.1.0; content = a.1.1.1.1 }) (λ a. refl) (total_exactly (total_transaction streamed t⨾ total_unsigned 1 t⨾ total_unsigned 8 t⨾ total_until_nul t⨾ total_sized))

pub lawful_commit : Lawful commit
lawful_commit = lawful_record_of _ (λ a b e i. record { flags = (e i).0; lsn = (e i).1.0; end_lsn = (e i).1.1.0; clock = (e i).1.1.1 }) (lawful_exactly (u8 l⨾ u64 l⨾ u64 l⨾ i64))

total_commit : Total commit
total_commit = total_record_of _ (λ a. record { flags = a.0; lsn = a.1.0; end_lsn = a.1.1.0; clock = a.1.1.1 }) (λ a. refl) (total_exactly (total_unsigned 1 t⨾ total_unsigned 8 t⨾ total_unsigned 8 t⨾ total_signed 8))

pub lawful_origin : Lawful origin
lawful_origin = lawful_record_of _ (λ a b e i. record { lsn = (e i).0; name = (e i).1 }) (lawful_exactly (u64 l⨾ lawful_until_nul))

total_origin : Total origin
total_origin = total_record_of _ (λ a. record { lsn = a.0; name = a.1 }) (λ a. refl) (total_exactly (total_unsigned 8 t⨾ total_until_nul))

pub lawful_relation : (streamed : Bool) → Lawful (relation streamed)
lawful_relation streamed = lawful_record_of _ (λ a b e i. record { transaction = (e i).0; relation = (e i).1.0; schema = (e i).1.1.0; name = (e i).1.1.1.0; replica_identity = (e i).1.1.1.1.0; columns = (e i).1.1.1.1.1 }) (lawful_exactly (lawful_transaction streamed l⨾ u32 l⨾ lawful_until_nul l⨾ lawful_until_nul l⨾ u8 l⨾ lawful_columns))

total_relation : (streamed : Bool) → Total (relation streamed)
total_relation streamed = total_record_of _ (λ a. record { transaction = a.0; relation = a.1.0; schema = a.1.1.0; name = a.1.1.1.0; replica_identity = a.1.1.1.1.0; columns = a.1.1.1.1.1 }) (λ a. refl) (total_exactly (total_transaction streamed t⨾ total_unsigned 4 t⨾ total_until_nul t⨾ total_until_nul t⨾ total_unsigned 1 t⨾ total_columns))

pub lawful_type_name : (streamed : Bool) → Lawful (type_name streamed)
lawful_type_name streamed = lawful_record_of _ (λ a b e i. record { transaction = (e i).0; type_id = (e i).1.0; schema = (e i).1.1.0; name = (e i).1.1.1 }) (lawful_exactly (lawful_transaction streamed l⨾ u32 l⨾ lawful_until_nul l⨾ lawful_until_nul))

total_type_name : (streamed : Bool) → Total (type_name streamed)
total_type_name streamed = total_record_of _ (λ a. record { transaction = a.0; type_id = a.1.0; schema = a.1.1.0; name = a.1.1.1 }) (λ a. refl) (total_exactly (total_transaction streamed t⨾ total_unsigned 4 t⨾ total_until_nul t⨾ total_until_nul))

pub lawful_insert : (streamed : Bool) → Lawful (insert streamed)
lawful_insert streamed = lawful_record_of _ (λ a b e i. record { transaction = (e i).0; relation = (e i).1.0; new = (e i).1.1.1 }) (lawful_exactly (lawful_transaction streamed l⨾ u32 l⨾ lawful_new_tuple))

total_insert : (streamed : Bool) → Total (insert streamed)
total_insert streamed = total_record_of _ (λ a. record { transaction = a.0; relation = a.1.0; new = a.1.1.1 }) (λ a. refl) (total_exactly (total_transaction streamed t⨾ total_unsigned 4 t⨾ total_new_tuple))

pub lawful_update : (streamed : Bool) → Lawful (update streamed)
lawful_update streamed = lawful_record_of _ (λ a b e i. record { transaction = (e i).0; relation = (e i).1.0; old = (e i).1.1.0; new = (e i).1.1.1.1 }) (lawful_exactly (lawful_transaction streamed l⨾ u32 l⨾ lawful_unless 78 lawful_old_tuple l⨾ lawful_new_tuple))

total_update : (streamed : Bool) → Total (update streamed)
total_update streamed = total_record_of _ (λ a. record { transaction = a.0; relation = a.1.0; old = a.1.1.0; new = a.1.1.1.1 }) (λ a. refl) (total_exactly (total_transaction streamed t⨾ total_unsigned 4 t⨾ total_unless 78 total_old_tuple t⨾ total_new_tuple))

pub lawful_delete : (streamed : Bool) → Lawful (delete streamed)
lawful_delete streamed = lawful_record_of _ (λ a b e i. record { transaction = (e i).0; relation = (e i).1.0; old = (e i).1.1 }) (lawful_exactly (lawful_transaction streamed l⨾ u32 l⨾ lawful_old_tuple))

total_delete : (streamed : Bool) → Total (delete streamed)
total_delete streamed = total_record_of _ (λ a. record { transaction = a.0; relation = a.1.0; old = a.1.1 }) (λ a. refl) (total_exactly (total_transaction streamed t⨾ total_unsigned 4 t⨾ total_old_tuple))

pub lawful_truncate : (streamed : Bool) → Lawful (truncate streamed)
lawful_truncate streamed = lawful_record_of _ (λ a b e i. record { transaction = (e i).0; options = (e i).1.0; relations = (e i).1.1 }) (lawful_exactly (lawful_transaction streamed l⨾ lawful_truncated))

total_truncate : (streamed : Bool) → Total (truncate streamed)
total_truncate streamed = total_record_of _ (λ a. record { transaction = a.0; options = a.1.0; relations = a.1.1 }) (λ a. refl) (total_exactly (total_transaction streamed t⨾ total_truncated))

pub lawful_stream_start : Lawful stream_start
lawful_stream_start = lawful_record_of _ (λ a b e i. record { transaction = (e i).0; is_first = (e i).1 }) (lawful_exactly (u32 l⨾ lawful_flag))

total_stream_start : Total stream_start
total_stream_start = total_record_of _ (λ a. record { transaction = a.0; is_first = a.1 }) (λ a. refl) (total_exactly (total_unsigned 4 t⨾ total_flag))

pub lawful_stream_commit : Lawful stream_commit
lawful_stream_commit = lawful_record_of _ (λ a b e i. record { transaction = (e i).0; flags = (e i).1.0; lsn = (e i).1.1.0; end_lsn = (e i).1.1.1.0; clock = (e i).1.1.1.1 }) (lawful_exactly (u32 l⨾ u8 l⨾ u64 l⨾ u64 l⨾ i64))

total_stream_commit : Total stream_commit
total_stream_commit = total_record_of _ (λ a. record { transaction = a.0; flags = a.1.0; lsn = a.1.1.0; end_lsn = a.1.1.1.0; clock = a.1.1.1.1 }) (λ a. refl) (total_exactly (total_unsigned 4 t⨾ total_unsigned 1 t⨾ total_unsigned 8 t⨾ total_unsigned 8 t⨾ total_signed 8))

pub lawful_stream_abort : Lawful stream_abort
lawful_stream_abort = lawful_record_of _ (λ a b e i. record { transaction = (e i).0; subtransaction = (e i).1 }) (lawful_exactly (u32 l⨾ u32))

total_stream_abort : Total stream_abort
total_stream_abort = total_record_of _ (λ a. record { transaction = a.0; subtransaction = a.1 }) (λ a. refl) (total_exactly (total_unsigned 4 t⨾ total_unsigned 4))

pub lawful_begin_prepare : Lawful begin_prepare
lawful_begin_prepare = lawful_record_of _ (λ a b e i. record { lsn = (e i).0; end_lsn = (e i).1.0; clock = (e i).1.1.0; transaction = (e i).1.1.1.0; gid = (e i).1.1.1.1 }) (lawful_exactly (u64 l⨾ u64 l⨾ i64 l⨾ u32 l⨾ lawful_until_nul))

total_begin_prepare : Total begin_prepare
total_begin_prepare = total_record_of _ (λ a. record { lsn = a.0; end_lsn = a.1.0; clock = a.1.1.0; transaction = a.1.1.1.0; gid = a.1.1.1.1 }) (λ a. refl) (total_exactly (total_unsigned 8 t⨾ total_unsigned 8 t⨾ total_signed 8 t⨾ total_unsigned 4 t⨾ total_until_nul))

pub lawful_prepared : Lawful prepared
lawful_prepared = lawful_record_of _ (λ a b e i. record { flags = (e i).0; lsn = (e i).1.0; end_lsn = (e i).1.1.0; clock = (e i).1.1.1.0; transaction = (e i).1.1.1.1.0; gid = (e i).1.1.1.1.1 }) (lawful_exactly (u8 l⨾ u64 l⨾ u64 l⨾ i64 l⨾ u32 l⨾ lawful_until_nul))

total_prepared : Total prepared
total_prepared = total_record_of _ (λ a. record { flags = a.0; lsn = a.1.0; end_lsn = a.1.1.0; clock = a.1.1.1.0; transaction = a.1.1.1.1.0; gid = a.1.1.1.1.1 }) (λ a. refl) (total_exactly (total_unsigned 1 t⨾ total_unsigned 8 t⨾ total_unsigned 8 t⨾ total_signed 8 t⨾ total_unsigned 4 t⨾ total_until_nul))

pub lawful_rollback_prepared : Lawful rollback_prepared
lawful_rollback_prepared = lawful_record_of _ (λ a b e i. record { flags = (e i).0; prepare_end_lsn = (e i).1.0; rollback_end_lsn = (e i).1.1.0; prepare_clock = (e i).1.1.1.0; rollback_clock = (e i).1.1.1.1.0; transaction = (e i).1.1.1.1.1.0; gid = (e i).1.1.1.1.1.1 }) (lawful_exactly (u8 l⨾ u64 l⨾ u64 l⨾ i64 l⨾ i64 l⨾ u32 l⨾ lawful_until_nul))

total_rollback_prepared : Total rollback_prepared
total_rollback_prepared = total_record_of _ (λ a. record { flags = a.0; prepare_end_lsn = a.1.0; rollback_end_lsn = a.1.1.0; prepare_clock = a.1.1.1.0; rollback_clock = a.1.1.1.1.0; transaction = a.1.1.1.1.1.0; gid = a.1.1.1.1.1.1 }) (λ a. refl) (total_exactly (total_unsigned 1 t⨾ total_unsigned 8 t⨾ total_unsigned 8 t⨾ total_signed 8 t⨾ total_signed 8 t⨾ total_unsigned 4 t⨾ total_until_nul))

pub lawful_stream_stop : Lawful stream_stop
lawful_stream_stop = lawful_exactly (lawful_success tt)

total_stream_stop : Total stream_stop
total_stream_stop = total_exactly (total_success tt)

-- ---- by the kind of message

pub lawful_in_change_stream : (streamed : Bool) (kind : LogicalKind) → Lawful (in_change_stream streamed kind).format
lawful_in_change_stream streamed logical.Begin = lawful_begin
lawful_in_change_stream streamed logical.Message = lawful_message streamed
lawful_in_change_stream streamed logical.Commit = lawful_commit
lawful_in_change_stream streamed logical.Origin = lawful_origin
lawful_in_change_stream streamed logical.Relation = lawful_relation streamed
lawful_in_change_stream streamed logical.TypeName = lawful_type_name streamed
lawful_in_change_stream streamed logical.Insert = lawful_insert streamed
lawful_in_change_stream streamed logical.Update = lawful_update streamed
lawful_in_change_stream streamed logical.Delete = lawful_delete streamed
lawful_in_change_stream streamed logical.Truncate = lawful_truncate streamed
lawful_in_change_stream streamed logical.StreamStart = lawful_stream_start
lawful_in_change_stream streamed logical.StreamStop = lawful_stream_stop
lawful_in_change_stream streamed logical.StreamCommit = lawful_stream_commit
lawful_in_change_stream streamed logical.StreamAbort = lawful_stream_abort
lawful_in_change_stream streamed logical.BeginPrepare = lawful_begin_prepare
lawful_in_change_stream streamed logical.Prepare = lawful_prepared
lawful_in_change_stream streamed logical.CommitPrepared = lawful_prepared
lawful_in_change_stream streamed logical.RollbackPrepared = lawful_rollback_prepared
lawful_in_change_stream streamed logical.StreamPrepare = lawful_prepared

pub total_in_change_stream : (streamed : Bool) (kind : LogicalKind) → Total (in_change_stream streamed kind).format
total_in_change_stream streamed logical.Begin = total_begin
total_in_change_stream streamed logical.Message = total_message streamed
total_in_change_stream streamed logical.Commit = total_commit
total_in_change_stream streamed logical.Origin = total_origin
total_in_change_stream streamed logical.Relation = total_relation streamed
total_in_change_stream streamed logical.TypeName = total_type_name streamed
total_in_change_stream streamed logical.Insert = total_insert streamed
total_in_change_stream streamed logical.Update = total_update streamed
total_in_change_stream streamed logical.Delete = total_delete streamed
total_in_change_stream streamed logical.Truncate = total_truncate streamed
total_in_change_stream streamed logical.StreamStart = total_stream_start
total_in_change_stream streamed logical.StreamStop = total_stream_stop
total_in_change_stream streamed logical.StreamCommit = total_stream_commit
total_in_change_stream streamed logical.StreamAbort = total_stream_abort
total_in_change_stream streamed logical.BeginPrepare = total_begin_prepare
total_in_change_stream streamed logical.Prepare = total_prepared
total_in_change_stream streamed logical.CommitPrepared = total_prepared
total_in_change_stream streamed logical.RollbackPrepared = total_rollback_prepared
total_in_change_stream streamed logical.StreamPrepare = total_prepared
