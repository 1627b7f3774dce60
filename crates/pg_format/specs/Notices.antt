-- What may be wrong with the fields of an error or a notice. Documentation: "Error and Notice Message Fields".
use Rattle.std.specs.Prelude.{ℕ, ◌==◌, Bool, true, false, ◌&&◌, List, [], ◌∷◌, map, find, codes, Option, Some, None, is_some, unwrap_or, if◌then◌else◌}
use Rattle.std.specs.Str.{is_utf8, bytes_eq}
use Rattle.std.specs.Option.{option_or}
use Rattle.pg_base.specs.declared.error.ProtocolFault.{ProtocolFault}
use Rattle.pg_base.specs.declared.error.ProtocolFault.TheVariants.{NoticeNotUtf8, UnknownSeverity}
use Rattle.pg_format.specs.Keyed.{plain, first_fault_of, last}

-- a letter and what it says
abbrev pub Field : Type 0
Field = ℕ × List ℕ

-- V, S, M and C
abbrev pub severity_letter : ℕ
severity_letter = 86

abbrev pub localized_letter : ℕ
localized_letter = 83

abbrev pub message_letter : ℕ
message_letter = 77

abbrev pub code_letter : ℕ
code_letter = 67

abbrev pub severities : List (List ℕ)
severities = codes "PANIC" ∷ codes "FATAL" ∷ codes "ERROR" ∷ codes "WARNING" ∷ codes "NOTICE" ∷ codes "DEBUG" ∷ codes "INFO" ∷ codes "LOG" ∷ []

abbrev pub is_nonempty : List ℕ → Bool
is_nonempty [] = false
is_nonempty (byte ∷ bytes) = true

-- the last message and the last code, here after others, aren't empty
abbrev pub is_full : List ℕ → List ℕ → List Field → Bool
is_full message code front =
    is_nonempty (last plain message message_letter front) && is_nonempty (last plain code code_letter front)

-- the fronts of a list, the shortest first
abbrev pub fronts : List Field → List (List Field)
fronts [] = [] ∷ []
fronts (field ∷ fields) = [] ∷ map (λ front. field ∷ front) (fronts fields)

-- the part that is read: the shortest front with a message and a code, or all where none has both
unfoldable pub read_part : List Field → List Field
read_part fields = unwrap_or (find (is_full [] []) (fronts fields)) fields

abbrev pub text_fault : List ℕ → Option ProtocolFault
text_fault value = if is_utf8 value then None else Some NoticeNotUtf8

abbrev pub word_fault : List ℕ → Option ProtocolFault
word_fault value = if is_some (find (λ word. bytes_eq word value) severities) then None else Some UnknownSeverity

-- the fields that are read are texts, and a severity is one of the words
abbrev pub field_fault : Field → Option ProtocolFault
field_fault field =
    if field.0 == severity_letter then option_or (text_fault field.1) (word_fault field.1)
    else (if field.0 == localized_letter then text_fault field.1
    else (if field.0 == message_letter then text_fault field.1
    else (if field.0 == code_letter then text_fault field.1 else None)))

unfoldable pub notice_fault : List Field → Option ProtocolFault
notice_fault fields = first_fault_of field_fault (read_part fields)
