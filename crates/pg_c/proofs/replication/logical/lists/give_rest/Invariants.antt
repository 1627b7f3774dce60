use Rattle.std.specs.Prelude.{◌≤◌, length}
use Rattle.pg_c.specs.Replication.Logical.Lists.{AfterItems, GivesUpTo}
use Rattle.pg_c.proofs.replication.logical.lists.give_rest.Given as goal

abbrev pub invariant-loop-index : goal.invariant-loop-index
invariant-loop-index g l =
    (l.start ≤ length l.bytes) × AfterItems g.P.Place.format g.P.Place.item_in l.bytes l.fn.list l.fn.at l.fn.from l.fn.to (λ before. GivesUpTo g.P.Place.format g.P.Place.item_in l.bytes l.fn.list l.start l.index before l.to)
