use Rattle.std.proofs.Common.{◌-◌, []}
use Rattle.pg_base.specs.Reading.{Values}
use Rattle.pg_send.proofs.message.round_trip.check_values.Given as goal

abbrev pub invariant-loop : goal.invariant-loop
invariant-loop l = record {
  left : Values l.count l.params [] → Values (l.count - l.counter) l.rest [];
  all : Values (l.count - l.counter) l.rest [] → Values l.count l.params [];
}
