use Rattle.std.proofs.Common.{inl, arith}
use Rattle.pg_c.proofs.LogicalListsLemmas.{without_value_found}
use Rattle.pg_c.proofs.replication.logical.lists.put_datum.Goals as goal

pub returns-then-kind-eq110-clause-found : goal.returns-then-kind-eq110-clause-found
returns-then-kind-eq110-clause-found c =
    rw (c.put_without_value.ensures.place, c.put_without_value.ensures.after) (without_value_found c.args.content.now c.args.at (omega (arith, c.if-at-content.true)) (inl c.if-kind-eq110.true))
