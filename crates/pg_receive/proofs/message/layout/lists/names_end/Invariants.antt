use Rattle.std.proofs.Common.{◌-◌, ◌≤◌, length}
use Rattle.pg_receive.specs.Layout.{name}
use Rattle.pg_receive.proofs.LayoutLemmas.{Passed}
use Rattle.pg_receive.proofs.message.layout.lists.names_end.Given as goal

abbrev pub invariant-names : goal.invariant-names
invariant-names l = record {
  within : l.at ≤ length l.body;
  passed : Passed name l.body l.first l.at;
}

abbrev pub decreases-names : goal.decreases-names
decreases-names l = length l.body - l.at
