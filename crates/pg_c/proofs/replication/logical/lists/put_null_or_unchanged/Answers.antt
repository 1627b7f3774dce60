use Rattle.std.proofs.Common.{arith}
use Rattle.pg_c.proofs.LogicalListsLemmas.{without_value_found}
use Rattle.pg_c.proofs.replication.logical.lists.put_null_or_unchanged.Goals as goal

pub returns-then-is_one_of-clause-found : goal.returns-then-is_one_of-clause-found
returns-then-is_one_of-clause-found c =
    rw (c.put_without_value.ensures.place, c.put_without_value.ensures.after) (without_value_found c.args.content.now c.args.at (omega (arith, c.if-at-content.true)) (c.is_one_of.ensures.yes c.if-is_one_of.true))
