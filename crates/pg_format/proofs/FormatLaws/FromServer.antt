-- The laws of the messages of a server: a body means one value, or has one fault.
use Rattle.std.specs.Prelude.{◌≡◌, ◌≢◌, ℕ, ◌*◌, ◌==◌, ℤ, List, [], ◌∷◌, length, Some, ◌⊎◌, IsUtf8}
use Rattle.std.proofs.Common.{refl, arith, inl, inr}
use Rattle.std.proofs.lemmas.Bool.{cases_eq}
use Rattle.pg_base.specs.declared.error.ProtocolFault.TheVariants.{UnknownStatus, UnknownAuthentication, NotUtf8}
use Rattle.pg_base.specs.declared.format.BackendMessageFormat.{BackendMessageFormat}
use Rattle.pg_base.specs.declared.format.BackendMessageFormat.TheVariants as backend
use Rattle.pg_format.specs.Format.{Lawful, Total}
use Rattle.pg_format.specs.Format.Parts.{until_nul, be_u8, be_u32, be_i16}
use Rattle.pg_format.specs.Format.Sequences.{◌⨾◌}
use Rattle.pg_format.specs.Format.Tests.{only}
use Rattle.pg_format.specs.Format.Lists.{many}
use Rattle.pg_format.specs.Notices.{Field, notice_fault}
use Rattle.pg_format.specs.Sasl.{first_message_fault, final_message_fault}
use Rattle.pg_format.specs.Messages.{ok, cleartext_password, md5_password, sasl, sasl_continue, sasl_final, salt_of, mechanisms_of, continued, finished, mechanism_names, asked_by, with_method, authentication, known_method, kerberos_v5, scm_credential, gss, gss_continue, sspi, other_method, known_of, gss_continued, content_of, is_asked_by, asked_by_any, with_any_method, any_authentication, key_fault, backend_key_data, backend_key, no_body, columns_of, column_codes, copy_response, data_row, field, function_call_response, version, negotiate_protocol_version, notice, notification, parameter_description, parameter_status, from_server, Status, idle, transaction, error, status_of, status_letter, ready_for_query, table, table_number, attribute, attribute_number, numbers, column, row_description}
use Rattle.pg_format.proofs.FormatLaws.Parts.{lawful_until_nul, total_until_nul, lawful_unsigned, total_unsigned, lawful_signed, total_signed, lawful_bytes_of, total_bytes_of, lawful_remaining, total_remaining, lawful_one_of, total_one_of, lawful_success, total_success, lawful_fail_before, total_fail_before}
use Rattle.pg_format.proofs.FormatLaws.Sequences.{◌l⨾◌, ◌t⨾◌, lawful_dep_pair, total_dep_pair, lawful_record_of, total_record_of, lawful_mapped, total_mapped, lawful_case_of, total_case_of, lawful_choose, total_choose}
use Rattle.pg_format.proofs.FormatLaws.Tests.{lawful_utf8, total_utf8, utf8_or_not, lawful_checked, total_checked, lawful_only, lawful_with_room, total_with_room, Takes}
use Rattle.pg_format.proofs.FormatLaws.Ends.{lawful_loosely, total_loosely}
use Rattle.pg_format.proofs.FormatLaws.Lists.{lawful_times, total_times, times_take, lawful_counted_least, total_counted_least, lawful_counted_long, total_counted_long, lawful_many, decided_only, total_many}
use Rattle.pg_format.proofs.FormatLaws.Nullable.{lawful_cell, total_cell}
use Rattle.pg_format.proofs.FormatLaws.Takes.{takes_until_nul, takes_unsigned, takes_signed, takes_pair, takes_record_of, takes_mapped, takes_verify, takes_only, takes_with_room, takes_cell}
pub use Rattle.pg_format.specs.Lawful.{lawful_no_body}

pub u32 : Lawful be_u32
u32 = lawful_unsigned 4 tt

pub i16 : Lawful be_i16
i16 = lawful_signed 2 tt

-- ---- from a server

-- at the byte 0 no name begins
no_name : (name rest : List ℕ) → ¬ ((only (λ n. (n ≢ []) × IsUtf8 n) until_nul).Reads (0 ∷ []) name rest)
no_name [] rest p = p.1.0 refl
no_name (b ∷ bs) rest p = absurd (p.0.clean.0 (let e : b ≡ 0 = cc (p.0.parts) in e))

is_name_or_not : (name : List ℕ) → ((name ≢ []) × IsUtf8 name) ⊎ ¬ ((name ≢ []) × IsUtf8 name)
is_name_or_not [] = inr (λ p. p.0 refl)
is_name_or_not (b ∷ bs) =
    elim (utf8_or_not (b ∷ bs)) [
      | inl is ↦ inl ((λ e. absurd (cc e)), is)
      | inr not ↦ inr (λ p. not p.1)
    ]

pub lawful_names : Lawful mechanism_names
lawful_names = lawful_many (0 ∷ []) (lawful_only (λ n. (n ≢ []) × IsUtf8 n) lawful_until_nul) no_name

total_names : Total mechanism_names
total_names = total_many (0 ∷ []) (takes_only 1 (λ n. (n ≢ []) × IsUtf8 n) takes_until_nul) (decided_only (λ n. (n ≢ []) × IsUtf8 n) is_name_or_not lawful_until_nul total_until_nul)

lawful_asked_by : (method : ℕ) → Lawful (asked_by method)
lawful_asked_by method =
    lawful_choose (method == 0) (lawful_success ok)
    (lawful_choose (method == 3) (lawful_success cleartext_password)
    (lawful_choose (method == 5) (lawful_case_of md5_password salt_of (lawful_bytes_of 4))
    (lawful_choose (method == 10) (lawful_case_of sasl mechanisms_of lawful_names)
    (lawful_choose (method == 11) (lawful_case_of sasl_continue continued (lawful_checked first_message_fault lawful_remaining))
    (lawful_choose (method == 12) (lawful_case_of sasl_final finished (lawful_checked final_message_fault lawful_remaining))
    (lawful_fail_before 0 (λ _. UnknownAuthentication method)))))))

total_asked_by : (method : ℕ) → Total (asked_by method)
total_asked_by method =
    total_choose (method == 0) (total_success ok)
    (total_choose (method == 3) (total_success cleartext_password)
    (total_choose (method == 5) (total_case_of md5_password salt_of (total_bytes_of 4))
    (total_choose (method == 10) (total_case_of sasl mechanisms_of total_names)
    (total_choose (method == 11) (total_case_of sasl_continue continued (total_checked first_message_fault total_remaining))
    (total_choose (method == 12) (total_case_of sasl_final finished (total_checked final_message_fault total_remaining))
    (total_fail_before 0 (λ _. UnknownAuthentication method)))))))

pub lawful_authentication : Lawful authentication
lawful_authentication = lawful_loosely (lawful_mapped (λ v. v.1) with_method (lawful_dep_pair asked_by u32 lawful_asked_by))

pub total_authentication : Total authentication
total_authentication = total_loosely (total_mapped (λ v. v.1) with_method (total_dep_pair asked_by (total_unsigned 4) total_asked_by))

lawful_asked_by_any : (method : ℕ) → Lawful (asked_by_any method)
lawful_asked_by_any method =
    lawful_choose (method == 2) (lawful_success kerberos_v5)
    (lawful_choose (method == 6) (lawful_success scm_credential)
    (lawful_choose (method == 7) (lawful_success gss)
    (lawful_choose (method == 8) (lawful_case_of gss_continue gss_continued lawful_remaining)
    (lawful_choose (method == 9) (lawful_success sspi)
    (lawful_choose (is_asked_by method) (lawful_case_of known_method known_of (lawful_asked_by method))
    (lawful_case_of (other_method method) content_of lawful_remaining))))))

total_asked_by_any : (method : ℕ) → Total (asked_by_any method)
total_asked_by_any method =
    total_choose (method == 2) (total_success kerberos_v5)
    (total_choose (method == 6) (total_success scm_credential)
    (total_choose (method == 7) (total_success gss)
    (total_choose (method == 8) (total_case_of gss_continue gss_continued total_remaining)
    (total_choose (method == 9) (total_success sspi)
    (total_choose (is_asked_by method) (total_case_of known_method known_of (total_asked_by method))
    (total_case_of (other_method method) content_of total_remaining))))))

pub lawful_any_authentication : Lawful any_authentication
lawful_any_authentication = lawful_loosely (lawful_mapped (λ v. v.1) with_any_method (lawful_dep_pair asked_by_any u32 lawful_asked_by_any))

pub total_any_authentication : Total any_authentication
total_any_authentication = total_loosely (total_mapped (λ v. v.1) with_any_method (total_dep_pair asked_by_any (total_unsigned 4) total_asked_by_any))

pub lawful_backend_key_data : Lawful backend_key_data
lawful_backend_key_data = lawful_loosely (lawful_record_of _ (λ a b e i. record { process_id = (e i).0; secret_key = (e i).1 }) (u32 l⨾ u32))

pub total_backend_key_data : Total backend_key_data
total_backend_key_data = total_loosely (total_record_of _ (λ a. record { process_id = a.0; secret_key = a.1 }) (λ a. refl) (total_unsigned 4 t⨾ total_unsigned 4))

pub lawful_backend_key : Lawful backend_key
lawful_backend_key = lawful_record_of _ (λ a b e i. record { process_id = (e i).0; secret_key = (e i).1 }) (u32 l⨾ lawful_checked (λ key. key_fault (length key)) lawful_remaining)

pub total_backend_key : Total backend_key
total_backend_key = total_record_of _ (λ a. record { process_id = a.0; secret_key = a.1 }) (λ a. refl) (total_unsigned 4 t⨾ total_checked (λ key. key_fault (length key)) total_remaining)

pub total_no_body : Total no_body
total_no_body = total_loosely (total_success tt)

lawful_column_codes : (count : ℤ) → Lawful (column_codes count)
lawful_column_codes count = lawful_with_room (2 * columns_of count) (times_take 2 (takes_signed 2) (columns_of count)) (lawful_times i16 (columns_of count))

pub lawful_copy_response : Lawful copy_response
lawful_copy_response =
    lawful_loosely (lawful_record_of _ (λ a b e i. record { format = (e i).0; num_columns = (e i).1.0; format_codes = (e i).1.1 }) (lawful_signed 1 tt l⨾ lawful_dep_pair column_codes i16 lawful_column_codes))

pub total_copy_response : Total copy_response
total_copy_response =
    total_loosely (total_record_of _ (λ a. record { format = a.0; num_columns = a.1.0; format_codes = a.1.1 }) (λ a. refl) (total_signed 1 t⨾ total_dep_pair column_codes (total_signed 2) (λ count. total_with_room (2 * columns_of count) (total_times (total_signed 2) (columns_of count)))))

pub lawful_data_row : Lawful data_row
lawful_data_row = lawful_loosely (lawful_counted_least 4 takes_cell lawful_cell)

pub total_data_row : Total data_row
total_data_row = total_loosely (total_counted_least total_cell 4)

pub lawful_function_call_response : Lawful function_call_response
lawful_function_call_response = lawful_loosely lawful_cell

pub total_function_call_response : Total function_call_response
total_function_call_response = total_loosely total_cell

lawful_version : Lawful version
lawful_version = lawful_with_room 4 (takes_pair 2 2 (takes_unsigned 2) (takes_unsigned 2)) (lawful_unsigned 2 tt l⨾ lawful_unsigned 2 tt)

pub lawful_negotiation : Lawful negotiate_protocol_version
lawful_negotiation =
    lawful_loosely (lawful_record_of _ (λ a b e i. record { major = (e i).0.0; minor = (e i).0.1; options = (e i).1 }) (lawful_version l⨾ lawful_counted_long lawful_until_nul))

pub total_negotiation : Total negotiate_protocol_version
total_negotiation =
    total_loosely (total_record_of _ (λ a. record { major = a.0.0; minor = a.0.1; options = a.1 }) (λ a. refl)
    (total_with_room 4 (total_unsigned 2 t⨾ total_unsigned 2) t⨾ total_counted_long total_until_nul))

-- at the byte 0 no field begins
no_field : (f : Field) (rest : List ℕ) → ¬ (field.Reads (0 ∷ []) f rest)
no_field f rest p = omega (arith, (takes_pair 1 1 (takes_unsigned 1) takes_until_nul).takes (0 ∷ []) rest f p.0)

letter_or_none : (f : Field) → (f.0 ≢ 0) ⊎ ¬ (f.0 ≢ 0)
letter_or_none f =
    elim (cases_eq f.0 0) [
      | inl e ↦ inr (λ not. not e)
      | inr not ↦ inl not
    ]

pub lawful_fields : Lawful (many (0 ∷ []) field)
lawful_fields = lawful_many (0 ∷ []) (lawful_only (λ f. f.0 ≢ 0) (lawful_unsigned 1 tt l⨾ lawful_until_nul)) no_field

pub lawful_notice : Lawful notice
lawful_notice = lawful_checked notice_fault lawful_fields

field_takes : Takes 1 (be_u8 ⨾ until_nul)
field_takes = record { takes = λ bytes rest f p. omega (arith, (takes_pair 1 1 (takes_unsigned 1) takes_until_nul).takes bytes rest f p) }

pub total_notice : Total notice
total_notice =
    total_checked notice_fault (total_many (0 ∷ []) (takes_only 1 (λ f. f.0 ≢ 0) field_takes) (decided_only (λ f. f.0 ≢ 0) letter_or_none (lawful_unsigned 1 tt l⨾ lawful_until_nul) (total_unsigned 1 t⨾ total_until_nul)))

pub lawful_notification : Lawful notification
lawful_notification =
    lawful_loosely (lawful_record_of _ (λ a b e i. record { process_id = (e i).0; channel = (e i).1.0; payload = (e i).1.1 }) (u32 l⨾ lawful_until_nul l⨾ lawful_until_nul))

pub total_notification : Total notification
total_notification =
    total_loosely (total_record_of _ (λ a. record { process_id = a.0; channel = a.1.0; payload = a.1.1 }) (λ a. refl) (total_unsigned 4 t⨾ total_until_nul t⨾ total_until_nul))

pub lawful_parameter_description : Lawful parameter_description
lawful_parameter_description = lawful_loosely (lawful_counted_least 4 (takes_unsigned 4) u32)

pub total_parameter_description : Total parameter_description
total_parameter_description = total_loosely (total_counted_least (total_unsigned 4) 4)

pub lawful_parameter_status : Lawful parameter_status
lawful_parameter_status = lawful_loosely (lawful_record_of _ (λ a b e i. record { name = (e i).0; value = (e i).1 }) (lawful_utf8 l⨾ lawful_utf8))

pub total_parameter_status : Total parameter_status
total_parameter_status = total_loosely (total_record_of _ (λ a. record { name = a.0; value = a.1 }) (λ a. refl) (total_utf8 t⨾ total_utf8))

status_again : (s : Status) → status_of (status_letter s) ≡ Some s
status_again idle = refl
status_again transaction = refl
status_again error = refl

pub lawful_ready_for_query : Lawful ready_for_query
lawful_ready_for_query = lawful_loosely (lawful_one_of status_of status_letter UnknownStatus status_again)

pub total_ready_for_query : Total ready_for_query
total_ready_for_query = total_loosely (total_one_of status_of status_letter UnknownStatus)

pub numbers_take : Takes 18 numbers
numbers_take =
    takes_pair 4 14 (takes_mapped 4 table table_number (takes_unsigned 4))
    (takes_pair 2 12 (takes_mapped 2 attribute attribute_number (takes_signed 2))
    (takes_pair 4 8 (takes_unsigned 4) (takes_pair 2 6 (takes_signed 2) (takes_pair 4 2 (takes_signed 4) (takes_signed 2)))))

pub lawful_column : Lawful column
lawful_column =
    lawful_record_of _ (λ a b e i. record {
      name = (e i).0;
      relation_id = (e i).1.0;
      relation_attribute_no = (e i).1.1.0;
      data_type_id = (e i).1.1.1.0;
      data_type_size = (e i).1.1.1.1.0;
      type_modifier = (e i).1.1.1.1.1.0;
      format = (e i).1.1.1.1.1.1;
    })
    (lawful_utf8
    l⨾ lawful_with_room 18 numbers_take (lawful_mapped table table_number u32 l⨾ lawful_mapped attribute attribute_number i16 l⨾ u32 l⨾ i16 l⨾ lawful_signed 4 tt l⨾ i16))

total_column : Total column
total_column =
    total_record_of _ (λ a. record {
      name = a.0;
      relation_id = a.1.0;
      relation_attribute_no = a.1.1.0;
      data_type_id = a.1.1.1.0;
      data_type_size = a.1.1.1.1.0;
      type_modifier = a.1.1.1.1.1.0;
      format = a.1.1.1.1.1.1;
    })
    (λ a. refl)
    (total_utf8
    t⨾ total_with_room 18 (total_mapped table table_number (total_unsigned 4) t⨾ total_mapped attribute attribute_number (total_signed 2) t⨾ total_unsigned 4 t⨾ total_signed 2 t⨾ total_signed 4 t⨾ total_signed 2))

pub column_takes : Takes 19 column
column_takes = takes_record_of 19 _ (takes_pair 1 18 (takes_verify 1 IsUtf8 NotUtf8 takes_until_nul) (takes_with_room 18 18 numbers_take))

pub lawful_row_description : Lawful row_description
lawful_row_description = lawful_loosely (lawful_counted_least 19 column_takes lawful_column)

pub total_row_description : Total row_description
total_row_description = total_loosely (total_counted_least total_column 19)

-- ---- by the kind of message

pub lawful_server : (kind : BackendMessageFormat) → Lawful (from_server kind).format
lawful_server backend.Authentication = lawful_authentication
lawful_server backend.BackendKeyData = lawful_backend_key_data
lawful_server backend.BindComplete = lawful_no_body
lawful_server backend.CloseComplete = lawful_no_body
lawful_server backend.CommandComplete = lawful_remaining
lawful_server backend.CopyData = lawful_remaining
lawful_server backend.CopyDone = lawful_no_body
lawful_server backend.CopyInResponse = lawful_copy_response
lawful_server backend.CopyOutResponse = lawful_copy_response
lawful_server backend.DataRow = lawful_data_row
lawful_server backend.EmptyQueryResponse = lawful_no_body
lawful_server backend.ErrorResponse = lawful_notice
lawful_server backend.NoData = lawful_no_body
lawful_server backend.NoticeResponse = lawful_notice
lawful_server backend.NotificationResponse = lawful_notification
lawful_server backend.ParameterDescription = lawful_parameter_description
lawful_server backend.ParameterStatus = lawful_parameter_status
lawful_server backend.ParseComplete = lawful_no_body
lawful_server backend.PortalSuspended = lawful_no_body
lawful_server backend.ReadyForQuery = lawful_ready_for_query
lawful_server backend.RowDescription = lawful_row_description

pub total_server : (kind : BackendMessageFormat) → Total (from_server kind).format
total_server backend.Authentication = total_authentication
total_server backend.BackendKeyData = total_backend_key_data
total_server backend.BindComplete = total_no_body
total_server backend.CloseComplete = total_no_body
total_server backend.CommandComplete = total_remaining
total_server backend.CopyData = total_remaining
total_server backend.CopyDone = total_no_body
total_server backend.CopyInResponse = total_copy_response
total_server backend.CopyOutResponse = total_copy_response
total_server backend.DataRow = total_data_row
total_server backend.EmptyQueryResponse = total_no_body
total_server backend.ErrorResponse = total_notice
total_server backend.NoData = total_no_body
total_server backend.NoticeResponse = total_notice
total_server backend.NotificationResponse = total_notification
total_server backend.ParameterDescription = total_parameter_description
total_server backend.ParameterStatus = total_parameter_status
total_server backend.ParseComplete = total_no_body
total_server backend.PortalSuspended = total_no_body
total_server backend.ReadyForQuery = total_ready_for_query
total_server backend.RowDescription = total_row_description
