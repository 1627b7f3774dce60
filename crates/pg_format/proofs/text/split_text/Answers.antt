use Rattle.pg_format.proofs.TextLemmas.{nowhere_holds_no, text_before}
use Rattle.pg_format.proofs.text.split_text.Goals as goal

pub returns-in_err-end-clause-none : goal.returns-in_err-end-clause-none
returns-in_err-end-clause-none c = rw c.from_residual.ensures (nowhere_holds_no 0 c.args.bytes.now c.in_err-end.ensures)

pub returns-clause-found : goal.returns-clause-found
returns-clause-found c = let h = c.in_ok-end.ensures in text_before c.in_ok-end.end c.args.bytes.now h.0.high h.1 h.0.before
