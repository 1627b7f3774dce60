use Rattle.std.proofs.Common.{ℕ, map, map-id}
use Rattle.pg_send.specs.FunctionCall.{function_call_fields}
use Rattle.pg_send.proofs.PartLemmas.{function_call_of_parts}
use Rattle.pg_send.proofs.message.function_call.FunctionCallComposed.parts.Goals as goal

pub returns : goal.returns
returns g c =
    let call = c.args.self.now in
    function_call_of_parts (function_call_fields g.V.AsValue.value call) (map (λ (code : ℕ). code) call.formats.now) (map-id call.formats.now)
