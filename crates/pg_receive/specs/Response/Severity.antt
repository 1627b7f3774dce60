-- The words of severities. Documentation: "Error and Notice Message Fields", V.
use Rattle.std.specs.Prelude.{ℕ, Bool, true, false, List, [], ◌∷◌, Option, None, Result, find, codes}
use Rattle.std.specs.Str.{bytes_eq}
use Rattle.std.specs.Option.{ok_or}
use Rattle.pg_base.specs.declared.error.Error.{Error}
use Rattle.pg_base.specs.declared.error.Error.TheVariants.{Protocol}
use Rattle.pg_base.specs.declared.error.ProtocolFault.TheVariants.{UnknownSeverity}
use Rattle.pg_receive.specs.declared.message.response.severity.PgSeverity.{PgSeverity}
use Rattle.pg_receive.specs.declared.message.response.severity.PgSeverity.TheVariants as severities

abbrev pub severity_name : PgSeverity → List ℕ
severity_name severities.Panic = codes "PANIC"
severity_name severities.Fatal = codes "FATAL"
severity_name severities.Error = codes "ERROR"
severity_name severities.Warning = codes "WARNING"
severity_name severities.Notice = codes "NOTICE"
severity_name severities.Debug = codes "DEBUG"
severity_name severities.Info = codes "INFO"
severity_name severities.Log = codes "LOG"

-- the number of a severity by cast
abbrev pub severity_number : PgSeverity → ℕ
severity_number severities.Panic = 0
severity_number severities.Fatal = 1
severity_number severities.Error = 2
severity_number severities.Warning = 3
severity_number severities.Notice = 4
severity_number severities.Debug = 5
severity_number severities.Info = 6
severity_number severities.Log = 7

abbrev pub all_severities : List PgSeverity
all_severities =
    severities.Panic ∷ severities.Fatal ∷ severities.Error ∷ severities.Warning ∷ severities.Notice ∷ severities.Debug ∷ severities.Info ∷ severities.Log ∷ []

-- the severity that has this word
unfoldable pub severity_of_word : List ℕ → Option PgSeverity
severity_of_word word = find (λ severity. bytes_eq (severity_name severity) word) all_severities

-- the severity of a word, or why it is none's
abbrev pub severity_answer : List ℕ → Result PgSeverity Error
severity_answer word = ok_or (severity_of_word word) (Protocol None UnknownSeverity)

abbrev pub is_error : PgSeverity → Bool
is_error severities.Panic = true
is_error severities.Fatal = true
is_error severities.Error = true
is_error severities.Warning = false
is_error severities.Notice = false
is_error severities.Debug = false
is_error severities.Info = false
is_error severities.Log = false
