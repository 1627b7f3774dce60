use Rattle.std.proofs.Common.{ℕ, map, map-id, rules}
use Rattle.pg_server.specs.Backend.Message as messages
use Rattle.pg_c.specs.Server.{PutsServerMessage}
use Rattle.pg_c.proofs.server.rows.pgmsg_put_parameter_types.Goals as goal

pub returns : goal.returns
returns c =
    let said : PutsServerMessage (messages.ParameterDescription (map (λ (number : ℕ). number) c.args.types.now)) c.args.out.now c.put.new.out c.put.result = c.put.ensures in
    let puts = rw map-id at said in
    search rules
