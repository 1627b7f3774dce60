use Rattle.std.proofs.Common.{length, sym, ◌∙◌}
use Rattle.pg_base.proofs.TaggedLemmas.{len_fits, no_fault, no_part_fault, put_within}
use Rattle.pg_send.specs.FrontendMessage.{tag, hint, fault}
use Rattle.pg_send.proofs.message.frontend_message.put_if_fits.Goals as goal

pub returns-clause-encodes : goal.returns-clause-encodes
returns-clause-encodes g c =
    let law = g.F.FrontendMessage.law c.args.message.now in
    let none = no_fault (fault law) (length law.body) c.in-Ok.len (sym c.checked_len.ensures ∙ c.in-Ok.is) in
    put_within law.count_fault (tag law) (hint law) law.body c.args.buf.now c.put.new.sink (no_part_fault law.count_fault (length law.body) none) (len_fits law.count_fault (length law.body) none) c.put.ensures.written c.put.ensures.capacity
