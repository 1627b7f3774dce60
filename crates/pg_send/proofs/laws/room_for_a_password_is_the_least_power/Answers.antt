use Rattle.pg_send.proofs.PowerLemmas.{power_over-power, power_over-least}
use Rattle.pg_send.proofs.laws.room_for_a_password_is_the_least_power.Goals as goal

pub returns-clause-power : goal.returns-clause-power
returns-clause-power c = power_over-power

pub returns-clause-least : goal.returns-clause-least
returns-clause-least c = power_over-least
