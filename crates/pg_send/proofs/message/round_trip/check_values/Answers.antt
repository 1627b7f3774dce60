use Rattle.std.proofs.Common.{refl, rules}
use Rattle.pg_send.proofs.RoundTripLemmas.{values_on, values_back, no_values}
use Rattle.pg_send.proofs.message.round_trip.check_values.Goals as goal

pub returns-in_default-clause-fault : goal.returns-in_default-clause-fault
returns-in_default-clause-fault c =
    let none = rw c.in_default.is at c.after_value.ensures.none in
    (refl, λ h. no_values c.args.count c.loop.counter c.loop.rest.now c.loop-test.true none (c.loop.invariant.left h))

pub loop-init : goal.loop-init
loop-init c = search rules

pub loop-preserved : goal.loop-preserved
loop-preserved c = record {
  left = λ h. values_on c.args.count c.loop.counter c.loop.rest.now c.in-Some.after.now c.loop-test.true c.in-Some.ensures.found (c.loop.invariant.left h);
  all = λ h. c.loop.invariant.all (values_back c.args.count c.loop.counter c.loop.rest.now c.in-Some.after.now c.loop-test.true c.in-Some.ensures.found h);
}
