use Rattle.std.proofs.Common.{drop, rules}
use Rattle.pg_receive.proofs.message.layout.parts.setting_end.Goals as goal

pub returns-clause-end : goal.returns-clause-end
returns-clause-end c =
    let name = c.in_ok-_name.ensures in
    let value = c.in_ok-_value.ensures in
    record {
      value = (c.in_ok-_name._name.now, c.in_ok-_value._value.now);
      read = record {
        within = value.after.1;
        reads = record { mid = drop c.in_ok-_name.after c.args.body.now; first = name.found; second = value.found };
      };
    }

pub returns-in_err-_name-clause-fault : goal.returns-in_err-_name-clause-fault
returns-in_err-_name-clause-fault c = search rules

pub returns-in_err-_value-clause-fault : goal.returns-in_err-_value-clause-fault
returns-in_err-_value-clause-fault c = search rules
