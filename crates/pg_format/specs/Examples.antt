-- Examples of messages, worked by hand after the documentation's "Message Formats": the bytes of a body beside the
-- value that they mean, or beside the fault that they have.
use Rattle.std.specs.Prelude.{◌≡◌, ℕ, pos, negsuc, true, false, List, [], ◌∷◌, ◌++◌, codes, replicate, Option, Some, None}
use Rattle.pg_base.specs.declared.error.ProtocolFault.{ProtocolFault}
use Rattle.pg_base.specs.declared.error.ProtocolFault.TheVariants.{BadKeyLength, TrailingBytes, MissingNul, UnknownLetter, UnknownSeverity, ValueLength}
use Rattle.pg_base.specs.declared.format.BackendMessageFormat.{BackendMessageFormat}
use Rattle.pg_base.specs.declared.format.FrontendMessageFormat.{FrontendMessageFormat}
use Rattle.pg_format.specs.Format.{Format, Means, IsFaultOf}
use Rattle.pg_format.specs.Logical as logical
use Rattle.pg_format.specs.Logical.{null, unchanged, text, binary, key, whole}
use Rattle.pg_format.specs.Notices.{Field}
use Rattle.pg_format.specs.Messages.{from_server, from_client, BackendKey, Bind, Cancel, Column, CopyResponse, Execute, First, FunctionCall, Negotiation, Notification, Parse, SaslInitial, Setting, Targeted, opening, cancelling}
use Rattle.pg_format.specs.Replication.{XLogData, PrimaryKeepalive, StandbyStatusUpdate, HotStandbyFeedback, NewArchive}
use Rattle.pg_format.specs.Tables.{Authentication, ok, cleartext_password, md5_password, sasl, sasl_continue, sasl_final, AnyAuthentication, known_method, gss_continue, other_method, statement, portal}

-- the bytes of a body, and the value that they mean
pub record Example (A : Type 0) : Type 0 where
  pub bytes : List ℕ
  pub value : A

-- the bytes of a body that means nothing, and the fault that they have
pub record FaultExample : Type 0 where
  pub bytes : List ℕ
  pub fault : ProtocolFault

-- by this format the bytes mean the value
abbrev pub IsExample : {A : Type 0} → Format A → Example A → Type 0
IsExample g example = Means g example.bytes example.value

-- by this format the bytes have the fault
abbrev pub IsFaultExample : {A : Type 0} → Format A → FaultExample → Type 0
IsFaultExample g example = IsFaultOf g example.bytes example.fault

-- from a server, the bytes of a message of this kind mean the value
abbrev pub IsServerExample : (kind : BackendMessageFormat) → Example (from_server kind).Value → Type 0
IsServerExample kind example = Means (from_server kind).format example.bytes example.value

-- from a client, the bytes of a message of this kind mean the value
abbrev pub IsClientExample : (kind : FrontendMessageFormat) → Example (from_client kind).Value → Type 0
IsClientExample kind example = Means (from_client kind).format example.bytes example.value

-- from a server, the value is written as the bytes of a message of this kind
abbrev pub IsWrittenExample : (kind : BackendMessageFormat) → Example (from_server kind).Value → Type 0
IsWrittenExample kind example = (from_server kind).format.Writes example.value ≡ example.bytes

-- a byte where no body is due is ignored
abbrev pub IgnoresABody : Format (Unit {0}) → Type 0
IgnoresABody g = Means g (7 ∷ []) tt

-- a byte where no body is due is a fault, at that byte
abbrev pub RefusesABody : Format (Unit {0}) → Type 0
RefusesABody g = IsFaultOf g (7 ∷ []) (TrailingBytes 0)

-- ---- requests for authentication: the number of the method, then what it needs

abbrev pub request_for_nothing : Example Authentication
request_for_nothing = record { bytes = 0 ∷ 0 ∷ 0 ∷ 0 ∷ []; value = ok }

abbrev pub request_for_a_password : Example Authentication
request_for_a_password = record { bytes = 0 ∷ 0 ∷ 0 ∷ 3 ∷ []; value = cleartext_password }

abbrev pub request_for_md5 : Example Authentication
request_for_md5 = record {
  bytes = 0 ∷ 0 ∷ 0 ∷ 5 ∷ 9 ∷ 0 ∷ 8 ∷ 7 ∷ [];
  value = md5_password (9 ∷ 0 ∷ 8 ∷ 7 ∷ []);
}

abbrev pub request_for_sasl : Example Authentication
request_for_sasl = record {
  bytes = 0 ∷ 0 ∷ 0 ∷ 10 ∷ codes "SCRAM-SHA-256" ++ 0 ∷ 0 ∷ [];
  value = sasl (codes "SCRAM-SHA-256" ∷ []);
}

abbrev pub challenge_of_sasl : Example Authentication
challenge_of_sasl = record {
  bytes = 0 ∷ 0 ∷ 0 ∷ 11 ∷ codes "r=ab,i=4096";
  value = sasl_continue (codes "r=ab,i=4096");
}

abbrev pub end_of_sasl : Example Authentication
end_of_sasl = record {
  bytes = 0 ∷ 0 ∷ 0 ∷ 12 ∷ codes "e=other";
  value = sasl_final (codes "e=other");
}

-- what follows the number of GSSContinue is its data
abbrev pub data_of_gss : Example AnyAuthentication
data_of_gss = record { bytes = 0 ∷ 0 ∷ 0 ∷ 8 ∷ 7 ∷ 0 ∷ 9 ∷ []; value = gss_continue (7 ∷ 0 ∷ 9 ∷ []) }

-- one of the six methods above, among all
abbrev pub request_for_md5_among_all : Example AnyAuthentication
request_for_md5_among_all = record {
  bytes = request_for_md5.bytes;
  value = known_method request_for_md5.value;
}

-- a method that there is not
abbrev pub request_by_method_13 : Example AnyAuthentication
request_by_method_13 = record { bytes = 0 ∷ 0 ∷ 0 ∷ 13 ∷ 7 ∷ []; value = other_method 13 (7 ∷ []) }

-- ---- columns and rows

-- the second column of the table 16385, which is an integer, in binary
abbrev pub column_of_a_table : Example (List Column)
column_of_a_table = record {
  bytes =
      0 ∷ 1 ∷ codes "id" ++ 0 ∷ 0 ∷ 0 ∷ 64 ∷ 1 ∷ 0 ∷ 2 ∷ 0 ∷ 0 ∷ 0 ∷ 23 ∷ 0 ∷ 4 ∷ 255 ∷ 255 ∷ 255 ∷ 255
      ∷ 0 ∷ 1 ∷ [];
  value = record {
    name = codes "id";
    relation_id = Some 16385;
    relation_attribute_no = Some (pos 2);
    data_type_id = 23;
    data_type_size = pos 4;
    type_modifier = negsuc 0;
    format = pos 1;
  } ∷ [];
}

-- a column of no table, which is a text of any length with a modifier, as text
abbrev pub column_of_no_table : Example (List Column)
column_of_no_table = record {
  bytes =
      0 ∷ 1 ∷ codes "now" ++ 0 ∷ 0 ∷ 0 ∷ 0 ∷ 0 ∷ 0 ∷ 0 ∷ 0 ∷ 0 ∷ 0 ∷ 25 ∷ 255 ∷ 255 ∷ 0 ∷ 0 ∷ 0 ∷ 9 ∷ 0
      ∷ 0 ∷ [];
  value = record {
    name = codes "now";
    relation_id = None;
    relation_attribute_no = None;
    data_type_id = 25;
    data_type_size = negsuc 0;
    type_modifier = pos 9;
    format = pos 0;
  } ∷ [];
}

abbrev pub copy_of_two_columns : Example CopyResponse
copy_of_two_columns = record {
  bytes = 1 ∷ 0 ∷ 2 ∷ 0 ∷ 1 ∷ 0 ∷ 0 ∷ [];
  value = record { format = pos 1; num_columns = pos 2; format_codes = pos 1 ∷ pos 0 ∷ [] };
}

-- a count below 0
abbrev pub copy_of_no_columns : Example CopyResponse
copy_of_no_columns = record {
  bytes = 0 ∷ 255 ∷ 255 ∷ [];
  value = record { format = pos 0; num_columns = negsuc 0; format_codes = [] };
}

-- a value, NULL, and an empty value
abbrev pub row_of_three_values : Example (List (Option (List ℕ)))
row_of_three_values = record {
  bytes = 0 ∷ 3 ∷ 0 ∷ 0 ∷ 0 ∷ 2 ∷ 52 ∷ 50 ∷ 255 ∷ 255 ∷ 255 ∷ 255 ∷ 0 ∷ 0 ∷ 0 ∷ 0 ∷ [];
  value = Some (codes "42") ∷ None ∷ Some [] ∷ [];
}

-- ---- other messages from a server

abbrev pub key_of_four_bytes : Example BackendKey
key_of_four_bytes = record {
  bytes = 0 ∷ 0 ∷ 4 ∷ 210 ∷ 0 ∷ 1 ∷ 0 ∷ 2 ∷ [];
  value = record { process_id = 1234; secret_key = 65538 };
}

abbrev pub key_of_five_bytes : Example Cancel
key_of_five_bytes = record {
  bytes = 0 ∷ 0 ∷ 4 ∷ 210 ∷ 7 ∷ 0 ∷ 8 ∷ 9 ∷ 255 ∷ [];
  value = record { process_id = 1234; secret_key = 7 ∷ 0 ∷ 8 ∷ 9 ∷ 255 ∷ [] };
}

abbrev pub tag_of_an_insert : Example (List ℕ)
tag_of_an_insert = record {
  bytes = codes "INSERT 0 5" ++ 0 ∷ [];
  value = codes "INSERT 0 5" ++ 0 ∷ [];
}

-- bytes that are kept as they are
abbrev pub three_bytes : Example (List ℕ)
three_bytes = record { bytes = 7 ∷ 0 ∷ 8 ∷ []; value = 7 ∷ 0 ∷ 8 ∷ [] }

abbrev pub error_of_three_fields : Example (List Field)
error_of_three_fields = record {
  bytes = 86 ∷ codes "ERROR" ++ 0 ∷ 67 ∷ codes "42P01" ++ 0 ∷ 77 ∷ codes "no table" ++ 0 ∷ 0 ∷ [];
  value = (86, codes "ERROR") ∷ (67, codes "42P01") ∷ (77, codes "no table") ∷ [];
}

abbrev pub notice_of_three_fields : Example (List Field)
notice_of_three_fields = record {
  bytes = 86 ∷ codes "INFO" ++ 0 ∷ 67 ∷ codes "00000" ++ 0 ∷ 77 ∷ codes "done" ++ 0 ∷ 0 ∷ [];
  value = (86, codes "INFO") ∷ (67, codes "00000") ∷ (77, codes "done") ∷ [];
}

-- the severity INF, which there is not
abbrev pub severity_inf : FaultExample
severity_inf = record { bytes = 86 ∷ codes "INF" ++ 0 ∷ 0 ∷ []; fault = UnknownSeverity }

-- on the channel `jobs`, of another session
abbrev pub news_of_jobs : Example Notification
news_of_jobs = record {
  bytes = 0 ∷ 0 ∷ 4 ∷ 210 ∷ codes "jobs" ++ 0 ∷ codes "a" ++ 0 ∷ [];
  value = record { process_id = 1234; channel = codes "jobs"; payload = codes "a" };
}

abbrev pub two_types : Example (List ℕ)
two_types = record {
  bytes = 0 ∷ 2 ∷ 0 ∷ 0 ∷ 0 ∷ 23 ∷ 0 ∷ 0 ∷ 1 ∷ 0 ∷ [];
  value = 23 ∷ 256 ∷ [];
}

abbrev pub setting_of_the_time_zone : Example Setting
setting_of_the_time_zone = record {
  bytes = codes "TimeZone" ++ 0 ∷ codes "UTC" ++ 0 ∷ [];
  value = record { name = codes "TimeZone"; value = codes "UTC" };
}

abbrev pub two_unknown_options : Example Negotiation
two_unknown_options = record {
  bytes = 0 ∷ 3 ∷ 0 ∷ 2 ∷ 0 ∷ 0 ∷ 0 ∷ 2 ∷ codes "_pq_.a" ++ 0 ∷ codes "_pq_.b" ++ 0 ∷ [];
  value = record { major = 3; minor = 2; options = codes "_pq_.a" ∷ codes "_pq_.b" ∷ [] };
}

-- ---- messages from a client

-- a value in binary, NULL, and an empty value; the result has a column of text and one in binary
abbrev pub bind_of_three_values : Example Bind
bind_of_three_values = record {
  bytes =
      codes "p" ++ 0 ∷ codes "s" ++ 0 ∷ 0 ∷ 1 ∷ 0 ∷ 1 ∷ 0 ∷ 3 ∷ 0 ∷ 0 ∷ 0 ∷ 1 ∷ 9 ∷ 255 ∷ 255 ∷ 255 ∷ 255
      ∷ 0 ∷ 0 ∷ 0 ∷ 0 ∷ 0 ∷ 2 ∷ 0 ∷ 0 ∷ 0 ∷ 1 ∷ [];
  value = record {
    portal = codes "p";
    statement = codes "s";
    formats = 1 ∷ [];
    values = Some (9 ∷ []) ∷ None ∷ Some [] ∷ [];
    result_formats = 0 ∷ 1 ∷ [];
  };
}

-- 83 is S, for a statement, and 80 is P, for a portal
abbrev pub statement_s : Example Targeted
statement_s = record {
  bytes = 83 ∷ codes "s" ++ 0 ∷ [];
  value = record { target = statement; name = codes "s" };
}

abbrev pub portal_p : Example Targeted
portal_p = record {
  bytes = 80 ∷ codes "p" ++ 0 ∷ [];
  value = record { target = portal; name = codes "p" };
}

abbrev pub portal_without_a_name : Example Targeted
portal_without_a_name = record { bytes = 80 ∷ 0 ∷ []; value = record { target = portal; name = [] } }

abbrev pub portal_with_a_limit : Example Execute
portal_with_a_limit = record {
  bytes = codes "p" ++ 0 ∷ 0 ∷ 0 ∷ 1 ∷ 0 ∷ [];
  value = record { portal = codes "p"; limit = 256 };
}

abbrev pub call_with_an_argument : Example FunctionCall
call_with_an_argument = record {
  bytes = 0 ∷ 0 ∷ 6 ∷ 62 ∷ 0 ∷ 1 ∷ 0 ∷ 1 ∷ 0 ∷ 1 ∷ 0 ∷ 0 ∷ 0 ∷ 1 ∷ 9 ∷ 0 ∷ 1 ∷ [];
  value = record {
    object_id = 1598;
    formats = 1 ∷ [];
    arguments = Some (9 ∷ []) ∷ [];
    result_format = 1;
  };
}

abbrev pub statement_with_a_type : Example Parse
statement_with_a_type = record {
  bytes = codes "s" ++ 0 ∷ codes "SELECT $1" ++ 0 ∷ 0 ∷ 1 ∷ 0 ∷ 0 ∷ 0 ∷ 23 ∷ [];
  value = record { statement = codes "s"; query = codes "SELECT $1"; types = 23 ∷ [] };
}

abbrev pub text_of_a_query : Example (List ℕ)
text_of_a_query = record { bytes = codes "SELECT 1" ++ 0 ∷ []; value = codes "SELECT 1" }

abbrev pub text_of_a_failure : Example (List ℕ)
text_of_a_failure = record { bytes = codes "no room" ++ 0 ∷ []; value = codes "no room" }

abbrev pub mechanism_with_data : Example SaslInitial
mechanism_with_data = record {
  bytes = codes "PLAIN" ++ 0 ∷ 0 ∷ 0 ∷ 0 ∷ 3 ∷ codes "n,,";
  value = record { mechanism = codes "PLAIN"; response = Some (codes "n,,") };
}

abbrev pub mechanism_without_data : Example SaslInitial
mechanism_without_data = record {
  bytes = codes "PLAIN" ++ 0 ∷ 255 ∷ 255 ∷ 255 ∷ 255 ∷ [];
  value = record { mechanism = codes "PLAIN"; response = None };
}

-- a length of -2
abbrev pub mechanism_with_a_bad_length : FaultExample
mechanism_with_a_bad_length = record {
  bytes = codes "PLAIN" ++ 0 ∷ 255 ∷ 255 ∷ 255 ∷ 254 ∷ [];
  fault = ValueLength 6 (negsuc 1);
}

-- ---- messages without a tag: a code, then what it needs

abbrev pub startup_of_ann : Example First
startup_of_ann = record {
  bytes = 0 ∷ 3 ∷ 0 ∷ 0 ∷ codes "user" ++ 0 ∷ codes "ann" ++ 0 ∷ 0 ∷ [];
  value = opening 0 ((codes "user", codes "ann") ∷ []);
}

abbrev pub startup_and_a_byte : FaultExample
startup_and_a_byte = record { bytes = 0 ∷ 3 ∷ 0 ∷ 0 ∷ 0 ∷ 7 ∷ []; fault = TrailingBytes 5 }

abbrev pub startup_without_a_value : FaultExample
startup_without_a_value = record {
  bytes = 0 ∷ 3 ∷ 0 ∷ 0 ∷ codes "a" ++ 0 ∷ codes "b";
  fault = MissingNul 6;
}

abbrev pub cancel_by_four_bytes : Example First
cancel_by_four_bytes = record {
  bytes = 4 ∷ 210 ∷ 22 ∷ 46 ∷ 0 ∷ 0 ∷ 1 ∷ 0 ∷ 7 ∷ 0 ∷ 8 ∷ 9 ∷ [];
  value = cancelling (record { process_id = 256; secret_key = 7 ∷ 0 ∷ 8 ∷ 9 ∷ [] });
}

abbrev pub cancel_by_256_bytes : Example First
cancel_by_256_bytes = record {
  bytes = 4 ∷ 210 ∷ 22 ∷ 46 ∷ 0 ∷ 0 ∷ 1 ∷ 0 ∷ replicate 256 7;
  value = cancelling (record { process_id = 256; secret_key = replicate 256 7 });
}

abbrev pub cancel_by_three_bytes : FaultExample
cancel_by_three_bytes = record {
  bytes = 4 ∷ 210 ∷ 22 ∷ 46 ∷ 0 ∷ 0 ∷ 1 ∷ 0 ∷ 7 ∷ 0 ∷ 8 ∷ [];
  fault = BadKeyLength 3;
}

abbrev pub cancel_by_257_bytes : FaultExample
cancel_by_257_bytes = record {
  bytes = 4 ∷ 210 ∷ 22 ∷ 46 ∷ 0 ∷ 0 ∷ 1 ∷ 0 ∷ replicate 257 7;
  fault = BadKeyLength 257;
}

-- ---- replication: what follows the letter

abbrev pub piece_of_a_log : Example XLogData
piece_of_a_log = record {
  bytes = 0 ∷ 0 ∷ 0 ∷ 0 ∷ 1 ∷ 0 ∷ 0 ∷ 40 ∷ 0 ∷ 0 ∷ 0 ∷ 0 ∷ 1 ∷ 0 ∷ 0 ∷ 96 ∷ 0 ∷ 0 ∷ 0 ∷ 0 ∷ 0 ∷ 0 ∷ 1 ∷ 2 ∷ 7 ∷ 0 ∷ 9 ∷ [];
  value = record { start = 16777256; end = 16777312; clock = pos 258; content = 7 ∷ 0 ∷ 9 ∷ [] };
}

-- a clock a microsecond before the year 2000
abbrev pub keepalive_that_asks : Example PrimaryKeepalive
keepalive_that_asks = record {
  bytes = 0 ∷ 0 ∷ 0 ∷ 0 ∷ 1 ∷ 0 ∷ 0 ∷ 96 ∷ 255 ∷ 255 ∷ 255 ∷ 255 ∷ 255 ∷ 255 ∷ 255 ∷ 255 ∷ 1 ∷ [];
  value = record { end = 16777312; clock = negsuc 0; wants_reply = true };
}

abbrev pub update_of_three_positions : Example StandbyStatusUpdate
update_of_three_positions = record {
  bytes =
      0 ∷ 0 ∷ 0 ∷ 0 ∷ 0 ∷ 0 ∷ 0 ∷ 3 ∷ 0 ∷ 0 ∷ 0 ∷ 0 ∷ 0 ∷ 0 ∷ 0 ∷ 2 ∷ 0 ∷ 0 ∷ 0 ∷ 0 ∷ 0 ∷ 0 ∷ 0 ∷ 1 ∷ 0 ∷ 0 ∷ 0 ∷ 0 ∷ 0 ∷ 0 ∷ 1
      ∷ 2 ∷ 0 ∷ [];
  value = record { written = 3; flushed = 2; applied = 1; clock = pos 258; wants_reply = false };
}

abbrev pub feedback_of_two_transactions : Example HotStandbyFeedback
feedback_of_two_transactions = record {
  bytes = 0 ∷ 0 ∷ 0 ∷ 0 ∷ 0 ∷ 0 ∷ 1 ∷ 2 ∷ 0 ∷ 0 ∷ 2 ∷ 227 ∷ 0 ∷ 0 ∷ 0 ∷ 4 ∷ 0 ∷ 0 ∷ 2 ∷ 226 ∷ 0 ∷ 0 ∷ 0 ∷ 5 ∷ [];
  value = record { clock = pos 258; xmin = 739; xmin_epoch = 4; catalog_xmin = 738; catalog_xmin_epoch = 5 };
}

abbrev pub archive_of_a_tablespace : Example NewArchive
archive_of_a_tablespace = record {
  bytes = codes "16385.tar" ++ 0 ∷ codes "/ts" ++ 0 ∷ [];
  value = record { name = codes "16385.tar"; location = codes "/ts" };
}

abbrev pub progress_of_258_bytes : Example ℕ
progress_of_258_bytes = record { bytes = 0 ∷ 0 ∷ 0 ∷ 0 ∷ 0 ∷ 0 ∷ 1 ∷ 2 ∷ []; value = 258 }

abbrev pub progress_and_a_byte : FaultExample
progress_and_a_byte = record { bytes = 0 ∷ 0 ∷ 0 ∷ 0 ∷ 0 ∷ 0 ∷ 1 ∷ 2 ∷ 7 ∷ []; fault = TrailingBytes 8 }

-- ---- logical replication: what follows the letter

abbrev pub begin_739 : Example logical.Begin
begin_739 = record {
  bytes = 0 ∷ 0 ∷ 0 ∷ 0 ∷ 1 ∷ 0 ∷ 0 ∷ 40 ∷ 0 ∷ 0 ∷ 0 ∷ 0 ∷ 0 ∷ 0 ∷ 1 ∷ 2 ∷ 0 ∷ 0 ∷ 2 ∷ 227 ∷ [];
  value = record { final_lsn = 16777256; clock = pos 258; transaction = 739 };
}

abbrev pub message_to_ab : Example logical.Message
message_to_ab = record {
  bytes = 0 ∷ 0 ∷ 2 ∷ 227 ∷ 1 ∷ 0 ∷ 0 ∷ 0 ∷ 0 ∷ 1 ∷ 0 ∷ 0 ∷ 40 ∷ codes "ab" ++ 0 ∷ 0 ∷ 0 ∷ 0 ∷ 2 ∷ 0 ∷ 9 ∷ [];
  value = record { transaction = Some 739; flags = 1; lsn = 16777256; prefix = codes "ab"; content = 0 ∷ 9 ∷ [] };
}

abbrev pub commit_of_begin : Example logical.Commit
commit_of_begin = record {
  bytes = 0 ∷ 0 ∷ 0 ∷ 0 ∷ 0 ∷ 1 ∷ 0 ∷ 0 ∷ 40 ∷ 0 ∷ 0 ∷ 0 ∷ 0 ∷ 1 ∷ 0 ∷ 0 ∷ 96 ∷ 255 ∷ 255 ∷ 255 ∷ 255 ∷ 255 ∷ 255 ∷ 255 ∷ 255 ∷ [];
  value = record { flags = 0; lsn = 16777256; end_lsn = 16777312; clock = negsuc 0 };
}

abbrev pub origin_far : Example logical.Origin
origin_far = record {
  bytes = 0 ∷ 0 ∷ 0 ∷ 0 ∷ 1 ∷ 0 ∷ 0 ∷ 40 ∷ codes "far" ++ 0 ∷ [];
  value = record { lsn = 16777256; name = codes "far" };
}

abbrev pub table_of_a_column : Example logical.Relation
table_of_a_column = record {
  bytes = 0 ∷ 0 ∷ 64 ∷ 5 ∷ codes "s" ++ 0 ∷ codes "t" ++ 0 ∷ 100 ∷ 0 ∷ 1 ∷ 1 ∷ codes "id" ++ 0 ∷ 0 ∷ 0 ∷ 0 ∷ 23 ∷ 255 ∷ 255 ∷ 255 ∷ 255 ∷ [];
  value = record {
    transaction = None;
    relation = 16389;
    schema = codes "s";
    name = codes "t";
    replica_identity = 100;
    columns = record { flags = 1; name = codes "id"; type_id = 23; type_modifier = negsuc 0 } ∷ [];
  };
}

abbrev pub type_mood : Example logical.TypeName
type_mood = record {
  bytes = 0 ∷ 0 ∷ 64 ∷ 1 ∷ codes "s" ++ 0 ∷ codes "mood" ++ 0 ∷ [];
  value = record { transaction = None; type_id = 16385; schema = codes "s"; name = codes "mood" };
}

abbrev pub insert_of_four_values : Example logical.Insert
insert_of_four_values = record {
  bytes = 0 ∷ 0 ∷ 64 ∷ 5 ∷ 78 ∷ 0 ∷ 4 ∷ 110 ∷ 117 ∷ 116 ∷ 0 ∷ 0 ∷ 0 ∷ 1 ∷ 55 ∷ 98 ∷ 0 ∷ 0 ∷ 0 ∷ 2 ∷ 0 ∷ 7 ∷ [];
  value = record { transaction = None; relation = 16389; new = null ∷ unchanged ∷ text (55 ∷ []) ∷ binary (0 ∷ 7 ∷ []) ∷ [] };
}

abbrev pub update_of_a_key : Example logical.Update
update_of_a_key = record {
  bytes = 0 ∷ 0 ∷ 2 ∷ 227 ∷ 0 ∷ 0 ∷ 64 ∷ 5 ∷ 75 ∷ 0 ∷ 1 ∷ 110 ∷ 78 ∷ 0 ∷ 1 ∷ 117 ∷ [];
  value = record { transaction = Some 739; relation = 16389; old = Some (key (null ∷ [])); new = unchanged ∷ [] };
}

abbrev pub update_without_the_old : Example logical.Update
update_without_the_old = record {
  bytes = 0 ∷ 0 ∷ 64 ∷ 5 ∷ 78 ∷ 0 ∷ 0 ∷ [];
  value = record { transaction = None; relation = 16389; old = None; new = [] };
}

abbrev pub delete_of_a_row : Example logical.Delete
delete_of_a_row = record {
  bytes = 0 ∷ 0 ∷ 64 ∷ 5 ∷ 79 ∷ 0 ∷ 1 ∷ 110 ∷ [];
  value = record { transaction = None; relation = 16389; old = whole (null ∷ []) };
}

abbrev pub truncate_of_two : Example logical.Truncate
truncate_of_two = record {
  bytes = 0 ∷ 0 ∷ 0 ∷ 2 ∷ 3 ∷ 0 ∷ 0 ∷ 64 ∷ 5 ∷ 0 ∷ 0 ∷ 64 ∷ 6 ∷ [];
  value = record { transaction = None; options = 3; relations = 16389 ∷ 16390 ∷ [] };
}

abbrev pub stream_of_739 : Example logical.StreamStart
stream_of_739 = record {
  bytes = 0 ∷ 0 ∷ 2 ∷ 227 ∷ 1 ∷ [];
  value = record { transaction = 739; is_first = true };
}

abbrev pub stream_commit_739 : Example logical.StreamCommit
stream_commit_739 = record {
  bytes = 0 ∷ 0 ∷ 2 ∷ 227 ∷ 0 ∷ 0 ∷ 0 ∷ 0 ∷ 0 ∷ 1 ∷ 0 ∷ 0 ∷ 40 ∷ 0 ∷ 0 ∷ 0 ∷ 0 ∷ 1 ∷ 0 ∷ 0 ∷ 96 ∷ 0 ∷ 0 ∷ 0 ∷ 0 ∷ 0 ∷ 0 ∷ 1 ∷ 2 ∷ [];
  value = record { transaction = 739; flags = 0; lsn = 16777256; end_lsn = 16777312; clock = pos 258 };
}

abbrev pub stream_abort_740 : Example logical.StreamAbort
stream_abort_740 = record {
  bytes = 0 ∷ 0 ∷ 2 ∷ 227 ∷ 0 ∷ 0 ∷ 2 ∷ 228 ∷ [];
  value = record { transaction = 739; subtransaction = 740 };
}

abbrev pub begin_of_g : Example logical.BeginPrepare
begin_of_g = record {
  bytes = 0 ∷ 0 ∷ 0 ∷ 0 ∷ 1 ∷ 0 ∷ 0 ∷ 40 ∷ 0 ∷ 0 ∷ 0 ∷ 0 ∷ 1 ∷ 0 ∷ 0 ∷ 96 ∷ 0 ∷ 0 ∷ 0 ∷ 0 ∷ 0 ∷ 0 ∷ 1 ∷ 2 ∷ 0 ∷ 0 ∷ 2 ∷ 227 ∷ codes "g" ++ 0 ∷ [];
  value = record { lsn = 16777256; end_lsn = 16777312; clock = pos 258; transaction = 739; gid = codes "g" };
}

abbrev pub prepare_of_g : Example logical.Prepared
prepare_of_g = record {
  bytes = 0 ∷ 0 ∷ 0 ∷ 0 ∷ 0 ∷ 1 ∷ 0 ∷ 0 ∷ 40 ∷ 0 ∷ 0 ∷ 0 ∷ 0 ∷ 1 ∷ 0 ∷ 0 ∷ 96 ∷ 0 ∷ 0 ∷ 0 ∷ 0 ∷ 0 ∷ 0 ∷ 1 ∷ 2 ∷ 0 ∷ 0 ∷ 2 ∷ 227 ∷ codes "g" ++ 0 ∷ [];
  value = record { flags = 0; lsn = 16777256; end_lsn = 16777312; clock = pos 258; transaction = 739; gid = codes "g" };
}

abbrev pub rollback_of_g : Example logical.RollbackPrepared
rollback_of_g = record {
  bytes = 0 ∷ 0 ∷ 0 ∷ 0 ∷ 0 ∷ 1 ∷ 0 ∷ 0 ∷ 40 ∷ 0 ∷ 0 ∷ 0 ∷ 0 ∷ 1 ∷ 0 ∷ 0 ∷ 96 ∷ 0 ∷ 0 ∷ 0 ∷ 0 ∷ 0 ∷ 0 ∷ 1 ∷ 2 ∷ 255 ∷ 255 ∷ 255 ∷ 255 ∷ 255 ∷ 255 ∷ 255 ∷ 255 ∷ 0 ∷ 0 ∷ 2 ∷ 227 ∷ codes "g" ++ 0 ∷ [];
  value = record {
    flags = 0;
    prepare_end_lsn = 16777256;
    rollback_end_lsn = 16777312;
    prepare_clock = pos 258;
    rollback_clock = negsuc 0;
    transaction = 739;
    gid = codes "g";
  };
}

-- the letter of the new row, where that of the old one is due
abbrev pub delete_of_a_new_row : FaultExample
delete_of_a_new_row = record { bytes = 0 ∷ 0 ∷ 64 ∷ 5 ∷ 78 ∷ 0 ∷ 0 ∷ []; fault = UnknownLetter 78 }
