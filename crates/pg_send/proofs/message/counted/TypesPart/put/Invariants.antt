use Rattle.std.proofs.Common.{◌≡◌, ◌^◌, ◌<◌, ◌≤◌, ◌++◌, length, take, map, All}
use Rattle.std.specs.List.{flat_map}
use Rattle.pg_base.specs.Numbers.{be16, be32}
use Rattle.pg_send.proofs.message.counted.TypesPart.put.Given as goal

abbrev pub invariant-loop-number : goal.invariant-loop-number
invariant-loop-number g l =
    let number = g.T.TypeNumber.number in
    record {
      adds : g.S.Sink.written l.sink ≡ g.S.Sink.written l.fn.sink ++ (be16 (length l.self.0.now) ++ flat_map be32 (map number (take l.number-index l.self.0.now)));
      capacity : g.S.Sink.capacity l.fn.sink ≤ g.S.Sink.capacity l.sink;
      loan : g.S.Sink.loan l.sink ≡ g.S.Sink.loan l.fn.sink;
      range : All (λ n. n < 2 ^ 32) (map number (take l.number-index l.self.0.now));
    }
