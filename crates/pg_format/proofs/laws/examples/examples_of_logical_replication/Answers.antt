use Rattle.std.specs.Prelude.{◌≡◌, ◌≢◌, ℕ, true, false, [], ◌∷◌, codes, None}
use Rattle.std.proofs.Common.{refl, arith, inl, inr}
use Rattle.pg_format.specs.Examples.{begin_739, message_to_ab, commit_of_begin, origin_far, table_of_a_column, type_mood, insert_of_four_values, update_of_a_key, update_without_the_old, delete_of_a_row, truncate_of_two, stream_of_739, stream_commit_739, stream_abort_740, begin_of_g, prepare_of_g, rollback_of_g, delete_of_a_new_row}
use Rattle.pg_format.proofs.ExamplesLemmas.{clean}
use Rattle.pg_format.proofs.FormatLaws.Parts.{lawful_unsigned}
use Rattle.pg_format.proofs.FormatLaws.Logical.{lawful_begin, lawful_begin_prepare, lawful_commit, lawful_delete, lawful_insert, lawful_message, lawful_origin, lawful_prepared, lawful_relation, lawful_rollback_prepared, lawful_stream_abort, lawful_stream_commit, lawful_stream_start, lawful_truncate, lawful_type_name, lawful_update}
use Rattle.pg_format.proofs.laws.examples.examples_of_logical_replication.Goals as goal

not_new : (a : ℕ) → a ≡ 75 → a ≢ 78
not_new a e f = omega (arith, e, f)

pub returns-clause-begin_739 : goal.returns-clause-begin_739
returns-clause-begin_739 c = lawful_begin.written begin_739.value [] ((omega arith, (omega arith, omega arith)), refl)

pub returns-clause-message_to_ab : goal.returns-clause-message_to_ab
returns-clause-message_to_ab c = (lawful_message true).written message_to_ab.value [] (((omega arith, refl), (omega arith, (omega arith, (clean (codes "ab") refl, ((omega arith, refl), refl))))), refl)

pub returns-clause-commit_of_begin : goal.returns-clause-commit_of_begin
returns-clause-commit_of_begin c = lawful_commit.written commit_of_begin.value [] ((omega arith, (omega arith, (omega arith, omega arith))), refl)

pub returns-clause-origin_far : goal.returns-clause-origin_far
returns-clause-origin_far c = lawful_origin.written origin_far.value [] ((omega arith, clean (codes "far") refl), refl)

pub returns-clause-table_of_a_column : goal.returns-clause-table_of_a_column
returns-clause-table_of_a_column c = (lawful_relation false).written table_of_a_column.value [] ((refl, (omega arith, (clean (codes "s") refl, (clean (codes "t") refl, (omega arith, ((omega arith, (refl, ((omega arith, (clean (codes "id") refl, (omega arith, omega arith))), tt))), refl)))))), refl)

pub returns-clause-type_mood : goal.returns-clause-type_mood
returns-clause-type_mood c = (lawful_type_name false).written type_mood.value [] ((refl, (omega arith, (clean (codes "s") refl, clean (codes "mood") refl))), refl)

pub returns-clause-insert_of_four_values : goal.returns-clause-insert_of_four_values
returns-clause-insert_of_four_values c = (lawful_insert false).written insert_of_four_values.value [] ((refl, (omega arith, (tt, ((omega arith, (refl, (((omega arith, refl), refl), (((omega arith, refl), refl), (((omega arith, (((omega arith, refl), refl), refl)), refl), (((omega arith, (((omega arith, refl), refl), refl)), refl), tt)))))), refl)))), refl)

pub returns-clause-update_of_a_key : goal.returns-clause-update_of_a_key
returns-clause-update_of_a_key c = (lawful_update true).written update_of_a_key.value [] (((omega arith, refl), (omega arith, ((not_new 75 refl, ((omega arith, (((omega arith, (refl, (((omega arith, refl), refl), tt))), refl), refl)), refl)), (tt, ((omega arith, (refl, (((omega arith, refl), refl), tt))), refl))))), refl)

pub returns-clause-update_without_the_old : goal.returns-clause-update_without_the_old
returns-clause-update_without_the_old c = (lawful_update false).written update_without_the_old.value [] ((refl, (omega arith, (refl, (tt, ((omega arith, (refl, tt)), refl))))), refl)

pub returns-clause-delete_of_a_row : goal.returns-clause-delete_of_a_row
returns-clause-delete_of_a_row c = (lawful_delete false).written delete_of_a_row.value [] ((refl, (omega arith, ((omega arith, (((omega arith, (refl, (((omega arith, refl), refl), tt))), refl), refl)), refl))), refl)

pub returns-clause-truncate_of_two : goal.returns-clause-truncate_of_two
returns-clause-truncate_of_two c = (lawful_truncate false).written truncate_of_two.value [] ((refl, ((omega arith, (omega arith, (refl, (omega arith, (omega arith, tt))))), refl)), refl)

pub returns-clause-stream_of_739 : goal.returns-clause-stream_of_739
returns-clause-stream_of_739 c = lawful_stream_start.written stream_of_739.value [] ((omega arith, (omega arith, refl)), refl)

pub returns-clause-stream_commit_739 : goal.returns-clause-stream_commit_739
returns-clause-stream_commit_739 c = lawful_stream_commit.written stream_commit_739.value [] ((omega arith, (omega arith, (omega arith, (omega arith, omega arith)))), refl)

pub returns-clause-stream_abort_740 : goal.returns-clause-stream_abort_740
returns-clause-stream_abort_740 c = lawful_stream_abort.written stream_abort_740.value [] ((omega arith, omega arith), refl)

pub returns-clause-begin_of_g : goal.returns-clause-begin_of_g
returns-clause-begin_of_g c = lawful_begin_prepare.written begin_of_g.value [] ((omega arith, (omega arith, (omega arith, (omega arith, clean (codes "g") refl)))), refl)

pub returns-clause-prepare_of_g : goal.returns-clause-prepare_of_g
returns-clause-prepare_of_g c = lawful_prepared.written prepare_of_g.value [] ((omega arith, (omega arith, (omega arith, (omega arith, (omega arith, clean (codes "g") refl))))), refl)

pub returns-clause-rollback_of_g : goal.returns-clause-rollback_of_g
returns-clause-rollback_of_g c = lawful_rollback_prepared.written rollback_of_g.value [] ((omega arith, (omega arith, (omega arith, (omega arith, (omega arith, (omega arith, clean (codes "g") refl)))))), refl)

pub returns-clause-commit_prepared : goal.returns-clause-commit_prepared
returns-clause-commit_prepared c = lawful_prepared.written prepare_of_g.value [] ((omega arith, (omega arith, (omega arith, (omega arith, (omega arith, clean (codes "g") refl))))), refl)

pub returns-clause-stream_prepare : goal.returns-clause-stream_prepare
returns-clause-stream_prepare c = lawful_prepared.written prepare_of_g.value [] ((omega arith, (omega arith, (omega arith, (omega arith, (omega arith, clean (codes "g") refl))))), refl)

pub returns-clause-delete_of_a_new_row : goal.returns-clause-delete_of_a_new_row
returns-clause-delete_of_a_new_row c =
    inl (inr (record {
      value = None;
      mid = delete_of_a_new_row.bytes;
      reads = (refl, refl);
      breaks = inr (record {
        value = 16389;
        mid = 78 ∷ 0 ∷ 0 ∷ [];
        reads = (lawful_unsigned 4 tt).written 16389 (78 ∷ 0 ∷ 0 ∷ []) (omega arith);
        breaks = inr (record { value = 78; mid = 0 ∷ 0 ∷ []; reads = (lawful_unsigned 1 tt).written 78 (0 ∷ 0 ∷ []) (omega arith); breaks = refl });
      });
    }))
