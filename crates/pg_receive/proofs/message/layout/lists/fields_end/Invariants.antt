use Rattle.std.proofs.Common.{◌-◌, ◌≤◌, length}
use Rattle.pg_format.specs.Messages.{field}
use Rattle.pg_receive.proofs.LayoutLemmas.{Passed}
use Rattle.pg_receive.proofs.message.layout.lists.fields_end.Given as goal

abbrev pub invariant-fields : goal.invariant-fields
invariant-fields l = record {
  within : l.at ≤ length l.body;
  passed : Passed field l.body 0 l.at;
}

abbrev pub decreases-fields : goal.decreases-fields
decreases-fields l = length l.body - l.at
