use Rattle.std.proofs.Common.{List, ℕ, Option}
use Rattle.pg_format.specs.Format.Lists.{times}
use Rattle.pg_format.specs.Format.Nullable.{value}
use Rattle.pg_format.specs.Format.Places.{IsReadAt}
use Rattle.pg_server.proofs.frontend.values.values_at.Given as goal

abbrev pub invariant-loop-index : goal.invariant-loop-index
invariant-loop-index l = (so_far : List (Option (List ℕ))) × IsReadAt (times l._index value) l.body l.first so_far l.end
