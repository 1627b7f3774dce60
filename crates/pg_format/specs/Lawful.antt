-- That two of the formats are lawful, which the types of this crate show of themselves.
use Rattle.std.specs.Prelude.{refl}
use Rattle.std.proofs.Common.{sym, ◌∙◌, append-nil}
use Rattle.pg_format.specs.Format.{Lawful}
use Rattle.pg_format.specs.Format.Parts.{remaining}
use Rattle.pg_format.specs.Messages.{no_body}

pub lawful_remaining : Lawful remaining
lawful_remaining = record {
  one_value = λ bytes x y a b p q. (p.0 ∙ sym q.0, p.1 ∙ sym q.1);
  one_fault = λ len bytes e f p q. absurd p;
  never_both = λ len bytes rest a f p q. q;
  written = λ a rest fits. (rw fits (sym (append-nil a)), fits);
}

pub lawful_no_body : Lawful no_body
lawful_no_body = record {
  one_value = λ bytes x y a b p q. (p.1.0 ∙ sym q.1.0, p.2 ∙ sym q.2);
  one_fault = λ len bytes e f p q. absurd p;
  never_both = λ len bytes rest a f p q. q;
  written = λ v rest fits. (rest, (fits.0, refl), fits.1);
}
