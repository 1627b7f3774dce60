use Rattle.std.proofs.Common.{◌≡◌, ◌≤◌, ◌++◌, take, map}
use Rattle.std.specs.List.{flat_map}
use Rattle.pg_send.specs.Values.{value_text}
use Rattle.pg_send.proofs.message.values.put_values.Given as goal

abbrev pub invariant-loop-value : goal.invariant-loop-value
invariant-loop-value g l = record {
  adds : g.S.Sink.written l.sink ≡ g.S.Sink.written l.fn.sink ++ flat_map value_text (map g.V.AsValue.value (take l.value-index l.values));
  capacity : g.S.Sink.capacity l.fn.sink ≤ g.S.Sink.capacity l.sink;
  loan : g.S.Sink.loan l.sink ≡ g.S.Sink.loan l.fn.sink;
}
