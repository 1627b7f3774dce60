-- Which words are those of severities.
use Rattle.std.proofs.Common.{◌≡◌, ◌≢◌, ℕ, true, false, List, [], ◌∷◌, map, codes, Some, None, inl, inr, refl, sym}
use Rattle.std.specs.Prelude.{find, is_some, if◌then◌else◌}
use Rattle.std.proofs.lemmas.Bool.{cases_Bool, false_from_ne_true}
use Rattle.std.specs.Str.{bytes_eq, is_utf8}
use lib.Pointwise.{bytes_decides}
use Rattle.pg_base.specs.declared.error.ProtocolFault.TheVariants.{UnknownSeverity}
use Rattle.pg_format.specs.Notices.{word_fault, field_fault}
use Rattle.pg_receive.specs.declared.message.response.severity.PgSeverity.{PgSeverity}
use Rattle.pg_receive.specs.Response.Severity.{severity_name, all_severities, severity_of_word}

other_word : (name word : List ℕ) → word ≢ name → bytes_eq name word ≡ false
other_word name word h = false_from_ne_true (bytes_eq name word) (λ e. h (sym ((bytes_decides name word).0 e)))

pub no_word : (word : List ℕ) → word ≢ codes "PANIC" → word ≢ codes "FATAL" → word ≢ codes "ERROR" → word ≢ codes "WARNING" → word ≢ codes "NOTICE" → word ≢ codes "DEBUG"
    → word ≢ codes "INFO" → word ≢ codes "LOG" → severity_of_word word ≡ None
unfolding severity_of_word
no_word word a b c d e f g h =
    rw (
      other_word (codes "PANIC") word a,
      other_word (codes "FATAL") word b,
      other_word (codes "ERROR") word c,
      other_word (codes "WARNING") word d,
      other_word (codes "NOTICE") word e,
      other_word (codes "DEBUG") word f,
      other_word (codes "INFO") word g,
      other_word (codes "LOG") word h,
    ) refl

-- ---- the words of the page

found_in : (word : List ℕ) (all : List PgSeverity) → is_some (find (λ name. bytes_eq name word) (map severity_name all)) ≡ is_some (find (λ severity. bytes_eq (severity_name severity) word) all)
found_in word [] = refl
found_in word (severity ∷ all) =
    elim (cases_Bool (bytes_eq (severity_name severity) word)) [
      | inl is ↦ rw is refl
      | inr other ↦ rw other (found_in word all)
    ]

pub known_word : (word : List ℕ) → word_fault word ≡ (if is_some (severity_of_word word) then None else Some UnknownSeverity)
unfolding severity_of_word
known_word word = rw (found_in word all_severities) refl

-- a field V without a fault, and one with
pub clean_severity : (letter : ℕ) (value : List ℕ) (severity : PgSeverity) → letter ≡ 86 → is_utf8 value ≡ true → severity_of_word value ≡ Some severity → field_fault (letter, value) ≡ None
clean_severity letter value severity is utf8 word = rw (is, utf8, known_word value, word) refl

pub unknown_severity : (letter : ℕ) (value : List ℕ) → letter ≡ 86 → is_utf8 value ≡ true → severity_of_word value ≡ None → field_fault (letter, value) ≡ Some UnknownSeverity
unknown_severity letter value is utf8 word = rw (is, utf8, known_word value, word) refl
