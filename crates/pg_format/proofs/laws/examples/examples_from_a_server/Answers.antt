use Rattle.std.specs.Prelude.{[], codes}
use Rattle.std.proofs.Common.{refl, arith}
use Rattle.pg_format.specs.Examples.{key_of_four_bytes, tag_of_an_insert, three_bytes, error_of_three_fields, notice_of_three_fields, news_of_jobs, two_types, setting_of_the_time_zone}
use Rattle.pg_format.specs.Notices.{text_fault, read_part, notice_fault}
use Rattle.pg_format.proofs.ExamplesLemmas.{clean, field_clean, three_clean}
use Rattle.pg_format.proofs.FormatLaws.FromServer.{lawful_backend_key_data, lawful_no_body, lawful_notice, lawful_notification, lawful_parameter_description, lawful_parameter_status}
use Rattle.pg_format.proofs.FormatLaws.Parts.{lawful_remaining}
use Rattle.pg_format.proofs.laws.examples.examples_from_a_server.Goals as goal

pub returns-clause-backend_key_data : goal.returns-clause-backend_key_data
returns-clause-backend_key_data c = lawful_backend_key_data.written key_of_four_bytes.value [] ((omega arith, omega arith), refl)

pub returns-clause-bind_complete : goal.returns-clause-bind_complete
returns-clause-bind_complete c = lawful_no_body.written tt [] (refl, refl)

pub returns-clause-close_complete : goal.returns-clause-close_complete
returns-clause-close_complete c = lawful_no_body.written tt [] (refl, refl)

pub returns-clause-command_complete : goal.returns-clause-command_complete
returns-clause-command_complete c = lawful_remaining.written tag_of_an_insert.value [] refl

pub returns-clause-copy_data : goal.returns-clause-copy_data
returns-clause-copy_data c = lawful_remaining.written three_bytes.value [] refl

pub returns-clause-copy_done : goal.returns-clause-copy_done
returns-clause-copy_done c = lawful_no_body.written tt [] (refl, refl)

pub returns-clause-empty_query_response : goal.returns-clause-empty_query_response
returns-clause-empty_query_response c = lawful_no_body.written tt [] (refl, refl)

pub returns-clause-error_response : goal.returns-clause-error_response
unfolding read_part notice_fault lib.Utf8.encode
returns-clause-error_response c = lawful_notice.written error_of_three_fields.value [] (((((omega arith, (clean (codes "ERROR") refl)), (λ e. omega (arith, e))), (((omega arith, (clean (codes "42P01") refl)), (λ e. omega (arith, e))), (((omega arith, (clean (codes "no table") refl)), (λ e. omega (arith, e))), tt))), refl), three_clean (text_fault (codes "ERROR")) (text_fault (codes "42P01")) (text_fault (codes "no table")) (field_clean (codes "ERROR") (codes "ERROR", (refl, refl))) (field_clean (codes "42P01") (codes "42P01", (refl, refl))) (field_clean (codes "no table") (codes "no table", (refl, refl))))

pub returns-clause-no_data : goal.returns-clause-no_data
returns-clause-no_data c = lawful_no_body.written tt [] (refl, refl)

pub returns-clause-notice_response : goal.returns-clause-notice_response
unfolding read_part notice_fault lib.Utf8.encode
returns-clause-notice_response c = lawful_notice.written notice_of_three_fields.value [] (((((omega arith, (clean (codes "INFO") refl)), (λ e. omega (arith, e))), (((omega arith, (clean (codes "00000") refl)), (λ e. omega (arith, e))), (((omega arith, (clean (codes "done") refl)), (λ e. omega (arith, e))), tt))), refl), three_clean (text_fault (codes "INFO")) (text_fault (codes "00000")) (text_fault (codes "done")) (field_clean (codes "INFO") (codes "INFO", (refl, refl))) (field_clean (codes "00000") (codes "00000", (refl, refl))) (field_clean (codes "done") (codes "done", (refl, refl))))

pub returns-clause-notification_response : goal.returns-clause-notification_response
returns-clause-notification_response c = lawful_notification.written news_of_jobs.value [] ((omega arith, ((clean (codes "jobs") refl), (clean (codes "a") refl))), refl)

pub returns-clause-parameter_description : goal.returns-clause-parameter_description
returns-clause-parameter_description c = lawful_parameter_description.written two_types.value [] (((omega arith, (refl, (omega arith, (omega arith, tt)))), refl), refl)

pub returns-clause-parameter_status : goal.returns-clause-parameter_status
unfolding lib.Utf8.encode
returns-clause-parameter_status c = lawful_parameter_status.written setting_of_the_time_zone.value [] ((((clean (codes "TimeZone") refl), (codes "TimeZone", (refl, refl))), ((clean (codes "UTC") refl), (codes "UTC", (refl, refl)))), refl)

pub returns-clause-parse_complete : goal.returns-clause-parse_complete
returns-clause-parse_complete c = lawful_no_body.written tt [] (refl, refl)

pub returns-clause-portal_suspended : goal.returns-clause-portal_suspended
returns-clause-portal_suspended c = lawful_no_body.written tt [] (refl, refl)
