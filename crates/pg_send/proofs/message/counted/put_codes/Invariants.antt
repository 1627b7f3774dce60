use Rattle.std.proofs.Common.{◌≡◌, ◌<◌, ◌≤◌, ◌++◌, length, take, map, All}
use Rattle.std.specs.List.{flat_map}
use Rattle.pg_base.specs.Numbers.{be16}
use Rattle.pg_send.proofs.message.counted.put_codes.Given as goal

abbrev pub invariant-loop-code : goal.invariant-loop-code
invariant-loop-code g l =
    let code = g.C.Code.code in
    record {
      adds : g.S.Sink.written l.sink ≡ g.S.Sink.written l.fn.sink ++ (be16 (length l.codes) ++ flat_map be16 (map code (take l.code-index l.codes)));
      capacity : g.S.Sink.capacity l.fn.sink ≤ g.S.Sink.capacity l.sink;
      loan : g.S.Sink.loan l.sink ≡ g.S.Sink.loan l.fn.sink;
      range : All (λ n. n < g.C.Code.limit) (map code (take l.code-index l.codes));
    }
