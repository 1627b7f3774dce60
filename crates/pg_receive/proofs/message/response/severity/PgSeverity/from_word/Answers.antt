use Rattle.std.proofs.Common.{refl}
use Rattle.pg_receive.specs.Response.Severity.{severity_of_word}
use Rattle.pg_receive.proofs.ResponseSeverityLemmas.{no_word}
use Rattle.pg_receive.proofs.message.response.severity.PgSeverity.from_word.Goals as goal

pub returns-in-PANIC : goal.returns-in-PANIC
unfolding severity_of_word
returns-in-PANIC c = rw c.in-PANIC.is refl

pub returns-in-FATAL : goal.returns-in-FATAL
unfolding severity_of_word
returns-in-FATAL c = rw c.in-FATAL.is refl

pub returns-in-ERROR : goal.returns-in-ERROR
unfolding severity_of_word
returns-in-ERROR c = rw c.in-ERROR.is refl

pub returns-in-WARNING : goal.returns-in-WARNING
unfolding severity_of_word
returns-in-WARNING c = rw c.in-WARNING.is refl

pub returns-in-NOTICE : goal.returns-in-NOTICE
unfolding severity_of_word
returns-in-NOTICE c = rw c.in-NOTICE.is refl

pub returns-in-DEBUG : goal.returns-in-DEBUG
unfolding severity_of_word
returns-in-DEBUG c = rw c.in-DEBUG.is refl

pub returns-in-INFO : goal.returns-in-INFO
unfolding severity_of_word
returns-in-INFO c = rw c.in-INFO.is refl

pub returns-in-LOG : goal.returns-in-LOG
unfolding severity_of_word
returns-in-LOG c = rw c.in-LOG.is refl

pub returns-in_default : goal.returns-in_default
returns-in_default c =
    let arm = c.in_default in
    rw (no_word c.args.word.now arm.not-PANIC arm.not-FATAL arm.not-ERROR arm.not-WARNING arm.not-NOTICE arm.not-DEBUG arm.not-INFO arm.not-LOG) refl
