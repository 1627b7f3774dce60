-- What an error or a notice says. Documentation: "Message Formats", NoticeResponse (B), and "Error
-- and Notice Message Fields".
pub mod Fields
pub mod FirstPlaces
pub mod Letters
pub mod Places
pub mod ReadPart
pub mod Severity
use Rattle.std.specs.Prelude.{◌≡◌, ℕ, List, [], Option, None, unwrap_or}
use Rattle.std.specs.Option.{option_or}
use Rattle.pg_format.specs.Format.{Format}
use Rattle.pg_format.specs.Format.Sequences.{viewed}
use Rattle.pg_format.specs.Keyed.{plain, last, first_fault_of}
use Rattle.pg_format.specs.Messages.{notice}
use Rattle.pg_format.specs.Notices.{Field, severity_letter, localized_letter, message_letter, code_letter, read_part, field_fault}
use Rattle.pg_receive.specs.declared.message.response.severity.PgSeverity.{PgSeverity}
use Rattle.pg_receive.specs.declared.message.response.severity.PgSeverity.TheVariants.{Log}
use Rattle.pg_receive.specs.Response.Fields.{fields_in}
use Rattle.pg_receive.specs.Response.Places.{Place, bytes_in}
use Rattle.pg_receive.specs.Response.Severity.{severity_of_word}

-- all fields, and what is read of them
pub record NoticeValue : Type 0 where
  pub fields : List Field
  pub severity : PgSeverity
  pub message : List ℕ
  pub code : List ℕ

-- the severity, or the localized one where that is a word, or else Log
abbrev pub severity_of : List Field → PgSeverity
severity_of part =
    unwrap_or (option_or (last severity_of_word None severity_letter part) (last severity_of_word None localized_letter part)) Log

abbrev pub notice_of : List Field → List Field → NoticeValue
notice_of fields part = record {
  fields = fields;
  severity = severity_of part;
  message = last plain [] message_letter part;
  code = last plain [] code_letter part;
}

-- the fields of a body, a severity, and the message and the code at these places
abbrev pub notice_in : List ℕ → PgSeverity → Place → Place → NoticeValue
notice_in body severity message code = record {
  fields = fields_in body;
  severity = severity;
  message = bytes_in body message;
  code = bytes_in body code;
}

-- the fields of a body, and what is read of them
abbrev pub notices : Format NoticeValue
notices = viewed (λ fields. notice_of fields (read_part fields)) notice

-- how grave it is, and nothing else
abbrev pub severities : Format PgSeverity
severities = viewed (λ fields. severity_of (read_part fields)) notice

-- these are the last of the part that is read, and it has no fault
pub record Read (fields : List Field) (message code : List ℕ) (severity localized : Option PgSeverity) : Type 0 where
  pub clean : first_fault_of field_fault (read_part fields) ≡ None
  pub messages : message ≡ last plain [] message_letter (read_part fields)
  pub codes : code ≡ last plain [] code_letter (read_part fields)
  pub severities : severity ≡ last severity_of_word None severity_letter (read_part fields)
  pub words : localized ≡ last severity_of_word None localized_letter (read_part fields)
