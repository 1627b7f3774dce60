use Rattle.std.proofs.Common.{arith}
use Rattle.std.proofs.Math.Seq.{drop-length}
use Rattle.pg_receive.proofs.message.layout.parts.key_end.Goals as goal

pub returns-clause-end : goal.returns-clause-end
returns-clause-end c =
    let body = c.args.body.now in
    let key = c.in_ok-read.field-0 in
    record {
      value = record { process_id = key.process_id; secret_key = key.secret_key.now };
      read = record { within = omega arith; reads = rw (drop-length body) c.in_ok-read.ensures };
    }
