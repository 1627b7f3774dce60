use Rattle.std.specs.Prelude.{[], ◌∷◌, codes}
use Rattle.std.proofs.Common.{refl, arith, inr}
use Rattle.pg_format.specs.Examples.{piece_of_a_log, keepalive_that_asks, update_of_three_positions, feedback_of_two_transactions, archive_of_a_tablespace, progress_of_258_bytes}
use Rattle.pg_format.proofs.ExamplesLemmas.{clean}
use Rattle.pg_format.proofs.FormatLaws.Parts.{lawful_unsigned}
use Rattle.pg_format.proofs.FormatLaws.Replication.{lawful_xlog_data, lawful_primary_keepalive, lawful_standby_status_update, lawful_hot_standby_feedback, lawful_new_archive, lawful_progress}
use Rattle.pg_format.proofs.laws.examples.examples_of_replication.Goals as goal

pub returns-clause-xlog_data : goal.returns-clause-xlog_data
returns-clause-xlog_data c = lawful_xlog_data.written piece_of_a_log.value [] ((omega arith, (omega arith, (omega arith, refl))), refl)

pub returns-clause-keepalive : goal.returns-clause-keepalive
returns-clause-keepalive c = lawful_primary_keepalive.written keepalive_that_asks.value [] ((omega arith, (omega arith, (omega arith, refl))), refl)

pub returns-clause-status_update : goal.returns-clause-status_update
returns-clause-status_update c =
    lawful_standby_status_update.written update_of_three_positions.value [] ((omega arith, (omega arith, (omega arith, (omega arith, (omega arith, refl))))), refl)

pub returns-clause-feedback : goal.returns-clause-feedback
returns-clause-feedback c =
    lawful_hot_standby_feedback.written feedback_of_two_transactions.value [] ((omega arith, (omega arith, (omega arith, (omega arith, omega arith)))), refl)

pub returns-clause-new_archive : goal.returns-clause-new_archive
returns-clause-new_archive c = lawful_new_archive.written archive_of_a_tablespace.value [] ((clean (codes "16385.tar") refl, clean (codes "/ts") refl), refl)

pub returns-clause-progress : goal.returns-clause-progress
returns-clause-progress c = lawful_progress.written progress_of_258_bytes.value [] (omega arith, refl)

pub returns-clause-progress_and_more : goal.returns-clause-progress_and_more
returns-clause-progress_and_more c =
    inr (record { value = 258; mid = 7 ∷ []; reads = (lawful_unsigned 8 tt).written 258 (7 ∷ []) (omega arith); breaks = record { some = omega arith; is = refl } })
