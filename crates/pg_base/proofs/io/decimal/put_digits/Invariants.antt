use Rattle.std.proofs.Common.{◌≡◌, ◌+◌, ◌≤◌, ◌++◌, length, take}
use Rattle.pg_base.proofs.io.decimal.put_digits.Given as goal

abbrev pub invariant-loop-digit : goal.invariant-loop-digit
invariant-loop-digit g l = record {
  written : g.S.Sink.written l.sink ≡ g.S.Sink.written l.initial.sink ++ take l.digit-index l.digit-items;
  capacity : g.S.Sink.capacity l.initial.sink ≤ g.S.Sink.capacity l.sink;
  loan : g.S.Sink.loan l.sink ≡ g.S.Sink.loan l.initial.sink;
  room : length (g.S.Sink.written l.initial.sink) + length l.digit-items ≤ g.S.Sink.capacity l.initial.sink;
}
