use Rattle.pg_replication.specs.Logical.Relations.{relation_ids}
use Rattle.pg_replication.proofs.LogicalListedLemmas.{truncated_stand}
use Rattle.pg_replication.proofs.logical.relations.TruncatedItem.item_at.Goals as goal

pub returns-clause-item : goal.returns-clause-item
returns-clause-item c =
    truncated_stand c.args.body.now c.args.at c.in_ok-count.field-0 c.in_ok-options.options c.in_ok-relations.end (relation_ids c.in_ok-relations.relations) c.in_ok-count.ensures.found c.in_ok-options.ensures.found c.in_ok-relations.ensures.tables
