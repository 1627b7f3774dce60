use Rattle.std.proofs.Common.{length, map, sym, ap, ◌∙◌, ◌++◌}
use Rattle.std.proofs.lemmas.List.{length-map}
use Rattle.std.specs.List.{flat_map}
use Rattle.pg_base.specs.Numbers.{be16}
use Rattle.pg_format.specs.Format.Parts.{be_u32}
use Rattle.pg_server.specs.Backend.OutboundItem.{too_many, max_unsigned}
use Rattle.pg_server.proofs.BackendOutboundItemLemmas.{count_alone}
use Rattle.pg_server.proofs.backend.parameter_description.OutboundParameterDescriptionOutboundMessage.parts.Goals as goal

pub returns : goal.returns
returns g c =
    let types = c.args.self.now.types.now in
    let numbers = map (λ number. (g.T.AsOutboundItem.item number).0) types in
    let long = length-map types (λ number. (g.T.AsOutboundItem.item number).0) in
    record {
      text = ap (λ n. be16 n ++ flat_map be_u32.Writes numbers) (sym long);
      fault = count_alone (too_many max_unsigned (length types)) numbers ∙ ap (too_many max_unsigned) (sym long);
      range = λ it. it.1;
    }
