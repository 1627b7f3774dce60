use Rattle.std.proofs.Common.{arith, sym, ◌∙◌, rules}
use Rattle.pg_receive.proofs.AuthenticationBase64BytesLemmas.{one_less, broken_left}
use Rattle.pg_receive.proofs.message.authentication.base64_bytes.decoded_len.Goals as goal

pub returns-then-not-is_whole-clause-none : goal.returns-then-not-is_whole-clause-none
returns-then-not-is_whole-clause-none c =
    let read = c.loop-rest in
    broken_left c.args.text.now read.rest.now read.len read.invariant c.loop-rest-test.true (λ i. omega (arith, c.type_inv.text i))
    (λ p. let whole = c.is_whole.ensures.1 (rw c.split_at.ensures.front p) in cc (sym whole ∙ c.if-not-is_whole.true))

pub loop-rest-init : goal.loop-rest-init
loop-rest-init c = search rules

pub loop-rest-preserved : goal.loop-rest-preserved
loop-rest-preserved c =
    let read = c.loop-rest in
    rw c.split_at.ensures.back (one_less c.args.text.now read.rest.now read.len read.invariant c.loop-rest-test.true (rw c.split_at.ensures.front at (c.is_whole.ensures.0 c.if-not-is_whole.false)))
