use Rattle.std.proofs.Common.{drop, rules}
use Rattle.pg_receive.proofs.message.layout.parts.notification_end.Goals as goal

pub returns-clause-end : goal.returns-clause-end
returns-clause-end c =
    let body = c.args.body.now in
    let channel = c.in_ok-_channel.ensures in
    let payload = c.in_ok-_payload.ensures in
    record {
      value = (c.in_ok-u32_at.field-0, (c.in_ok-_channel._channel.now, c.in_ok-_payload._payload.now));
      read = record {
        within = payload.after.1;
        reads = record {
          mid = drop 4 body;
          first = c.in_ok-u32_at.ensures.found;
          second = record { mid = drop c.in_ok-_channel.after body; first = channel.found; second = payload.found };
        };
      };
    }

pub returns-in_err-u32_at-clause-fault : goal.returns-in_err-u32_at-clause-fault
returns-in_err-u32_at-clause-fault c = search rules

pub returns-in_err-_channel-clause-fault : goal.returns-in_err-_channel-clause-fault
returns-in_err-_channel-clause-fault c = search rules

pub returns-in_err-_payload-clause-fault : goal.returns-in_err-_payload-clause-fault
returns-in_err-_payload-clause-fault c = search rules
