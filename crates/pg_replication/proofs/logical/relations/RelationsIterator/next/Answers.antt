use Rattle.std.proofs.Common.{◌≡◌, suc, ◌-◌, arith}
use Rattle.pg_format.specs.Received.{max_body}
use Rattle.pg_format.proofs.FormatLaws.Logical.{lawful_id, total_id}
use Rattle.pg_server.proofs.FrontendMessageLemmas.{from_index}
use Rattle.pg_format.proofs.ListedLemmas.{first_and_others, short_after}
use Rattle.pg_replication.proofs.LogicalListedLemmas.{listed_first}
use Rattle.pg_replication.proofs.logical.relations.RelationsIterator.next.Goals as goal

pub invariant_of-self : goal.invariant_of-self
invariant_of-self c =
    let list = c.args.self.now in
    let more : list.left ≡ suc (list.left - 1) = omega (arith, c.if-self-eq0.false) in
    record {
      short = short_after max_body c.in-Ok.end list.bytes.now _ (from_index c.in-Ok.end list.bytes.now) list.short;
      few = omega (arith, list.few);
      whole = (first_and_others lawful_id total_id list.left list.bytes.now _ c.in-Ok.end c.in-Ok.field-0-0.0 (from_index c.in-Ok.end list.bytes.now) more list.whole c.in-Ok.ensures.item).1;
    }

pub returns-clause-steps : goal.returns-clause-steps
returns-clause-steps c =
    let list = c.args.self.now in
    let more : list.left ≡ suc (list.left - 1) = omega (arith, c.if-self-eq0.false) in
    listed_first total_id (λ id. id) list.left (list.left - 1) list.bytes.now _ list.given.now c.in-Ok.field-0-0.0
    (first_and_others lawful_id total_id list.left list.bytes.now _ c.in-Ok.end c.in-Ok.field-0-0.0 (from_index c.in-Ok.end list.bytes.now) more list.whole c.in-Ok.ensures.item).0
