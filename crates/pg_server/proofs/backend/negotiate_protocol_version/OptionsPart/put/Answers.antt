use Rattle.std.proofs.Common.{map, arith}
use Rattle.std.proofs.lemmas.List.{length-map}
use Rattle.pg_server.proofs.BackendFitsLemmas.{few_names}
use Rattle.pg_server.proofs.backend.negotiate_protocol_version.OptionsPart.put.Goals as goal

pub overflow_cast-self : goal.overflow_cast-self
overflow_cast-self g c =
    let names = c.args.self.now.0.1.now in
    let few = few_names (map (λ name. (g.N.AsOutboundItem.item name).now) names) c.requires.small in
    omega (arith, few, length-map names (λ name. (g.N.AsOutboundItem.item name).now))
