use Rattle.std.proofs.Common.{◌≡◌, Some, sym, ap, ◌∙◌, refl, rules}
use Rattle.pg_receive.specs.Response.Severity.{severity_of_word}
use Rattle.pg_receive.proofs.ResponseSeverityLemmas.{clean_severity}
use Rattle.pg_receive.proofs.message.response.read.ReadPart.take.Goals as goal

pub returns-in_ok-ok_or-in-86-clause-takes : goal.returns-in_ok-ok_or-in-86-clause-takes
returns-in_ok-ok_or-in-86-clause-takes c = λ incomplete.
    let text = c.in_ok-notice_text-in-86.ensures.text in
    let severity = c.in_ok-ok_or-in-86.field-0 in
    let found : c.from_word-severity.result ≡ Some severity = search rules in
    let read : severity_of_word c.args.value.now ≡ Some severity = ap severity_of_word (sym text.0) ∙ sym c.from_word-severity.ensures ∙ found in
    record {
      clean = clean_severity c.args.letter c.args.value.now severity c.in-86.is text.1 read;
      severity = rw c.in-86.is (sym read);
      localized = rw c.in-86.is refl;
      message = rw c.in-86.is refl;
      code = rw c.in-86.is refl;
    }
