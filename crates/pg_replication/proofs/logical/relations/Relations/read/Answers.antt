use Rattle.pg_format.specs.Received.{max_body}
use Rattle.pg_format.proofs.FormatLaws.Logical.{lawful_id, total_id}
use Rattle.pg_server.proofs.FrontendMessageLemmas.{from_index}
use Rattle.pg_format.proofs.ListedLemmas.{listed_stand, short_after}
use Rattle.pg_replication.proofs.LogicalListedLemmas.{listed_alone}
use Rattle.pg_replication.proofs.logical.relations.Relations.read.Goals as goal

pub invariant_of-relations : goal.invariant_of-relations
invariant_of-relations c =
    let body = c.args.message.now in
    record {
      short = short_after max_body c.args.at body _ (from_index c.args.at body) c.requires.short;
      few = c.requires.few;
      whole = (listed_stand lawful_id total_id c.begin_at-items.result body _ c.args.at c.args.left c.in_ok-end.end _ c.begin_at-items.ensures (from_index c.args.at body) c.in_ok-end.ensures.all.read).1;
    }

pub returns-clause-tables : goal.returns-clause-tables
returns-clause-tables c =
    let body = c.args.message.now in
    rw (listed_alone total_id (λ id. id) c.args.left _)
    (listed_stand lawful_id total_id c.begin_at-items.result body _ c.args.at c.args.left c.in_ok-end.end _ c.begin_at-items.ensures (from_index c.args.at body) c.in_ok-end.ensures.all.read).0
