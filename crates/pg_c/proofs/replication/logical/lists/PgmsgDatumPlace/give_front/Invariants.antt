use Rattle.std.specs.Prelude.{◌≤◌, length}
use Rattle.pg_format.specs.Logical.{datum}
use Rattle.pg_c.specs.Replication.Logical.Lists.{datum_in, GivesUpTo}
use Rattle.pg_c.proofs.replication.logical.lists.PgmsgDatumPlace.give_front.Given as goal

abbrev pub invariant-loop-index : goal.invariant-loop-index
invariant-loop-index l = (l.at ≤ length l.content) × GivesUpTo datum datum_in l.content l.fn.list l.at l.index l.fn.to l.to
