use Rattle.std.proofs.Common.{refl, arith, drop}
use Rattle.pg_server.specs.Frontend.Lists.{types_in}
use Rattle.pg_server.proofs.FrontendParameterTypesLemmas.{types_are_read}
use Rattle.pg_server.proofs.frontend.parameter_types.types_at.Goals as goal

pub returns : goal.returns
returns c =
    let body = c.args.body.now in
    let count = c.in_ok-count in
    let bytes = c.in_ok-bytes.bytes.now in
    let found = c.in_ok-bytes.ensures in
    let read = types_are_read bytes (drop c.in_ok-bytes.end body) count.count (omega (arith, found.reads.0, c.from.ensures)) in
    record {
      within = found.within;
      reads = (
        (count.count, types_in bytes),
        record { mid = drop count.first body; first = count.ensures.reads; second = rw found.reads.1 read },
        refl,
      );
    }
