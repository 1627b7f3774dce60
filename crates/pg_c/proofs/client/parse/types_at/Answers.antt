use Rattle.std.proofs.Common.{refl, arith, drop}
use Rattle.pg_server.specs.Frontend.Lists.{types_in}
use Rattle.pg_server.proofs.FrontendParameterTypesLemmas.{types_are_read}
use Rattle.pg_c.proofs.client.parse.types_at.Goals as goal

pub returns-clause-found : goal.returns-clause-found
returns-clause-found c =
    let body = c.args.body.now in
    let count = c.in_ok-count in
    let bytes = c.in_ok-_types._types.now in
    let end = c.in_ok-_types.end in
    let found = c.in_ok-_types.ensures in
    let read = types_are_read bytes (drop end body) count.count (omega (arith, found.reads.0, c.from-count.ensures)) in
    record {
      value = types_in bytes;
      read = record {
        within = found.within;
        reads = (
          (count.count, types_in bytes),
          record { mid = drop count.first body; first = count.ensures.reads; second = rw found.reads.1 read },
          refl,
        );
      };
      is = record { end = end; read = record { within = found.within; reads = rw (c.from-count.ensures, found.reads.1) read } };
    }
