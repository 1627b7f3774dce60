use Rattle.std.proofs.Common.{sym, ◌∙◌, true≢false, rules}
use Rattle.std.proofs.lemmas.Bool.{OnTrue_at, OnTrue_from}
use Rattle.pg_send.specs.Message.{message_of}
use Rattle.pg_send.proofs.RunLemmas.{put_one}
use Rattle.pg_send.proofs.message.run.put_by_rule.Goals as goal

pub returns-then-strict-clause-put : goal.returns-then-strict-clause-put
returns-then-strict-clause-put c =
    let m = message_of c.args.message.now in
    OnTrue_from _ _
    (λ put. put_one c.args.strict m tt c.args.buf.now _ (OnTrue_at put (search rules)) (OnTrue_at put (search rules)) (λ strict. OnTrue_at put (search rules)))

pub returns-clause-put : goal.returns-clause-put
returns-clause-put c =
    let m = message_of c.args.message.now in
    let is = c.put_if_fits.ensures in
    OnTrue_from c.put_if_fits.result _
    (λ put. put_one c.args.strict m tt c.args.buf.now c.put_if_fits.new.buf (OnTrue_at put is.encodes) (OnTrue_at put is.range) (λ strict. absurd (true≢false (sym strict ∙ c.if-strict.false))))
