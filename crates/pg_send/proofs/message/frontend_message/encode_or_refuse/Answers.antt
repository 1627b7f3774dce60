use Rattle.std.proofs.Common.{sym, ◌∙◌, rules}
use Rattle.pg_send.specs.FrontendMessage.{tag}
use Rattle.pg_send.proofs.FrontendMessageLemmas.{frame_is_cut}
use Rattle.pg_send.proofs.message.frontend_message.encode_or_refuse.Goals as goal

pub returns-clause-encodes : goal.returns-clause-encodes
returns-clause-encodes g c =
    let law = g.F.FrontendMessage.law c.args.message.now in
    record {
      encodes = search rules;
      cut = frame_is_cut law.count_fault (tag law) law.body c.in_ok-len.len (sym c.checked_body_len.ensures ∙ c.in_ok-len.was);
    }
