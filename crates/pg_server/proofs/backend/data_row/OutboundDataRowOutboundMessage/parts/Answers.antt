use Rattle.std.proofs.Common.{length, map, option_copied, sym, ap, ◌∙◌, ◌++◌}
use Rattle.std.proofs.lemmas.List.{length-map}
use Rattle.std.specs.List.{flat_map}
use Rattle.pg_base.specs.Numbers.{be16}
use Rattle.pg_format.specs.Format.Nullable.{cell}
use Rattle.pg_server.specs.Backend.OutboundItem.{too_many, max_unsigned}
use Rattle.pg_server.proofs.BackendOutboundItemLemmas.{count_alone}
use Rattle.pg_server.proofs.backend.data_row.OutboundDataRowOutboundMessage.parts.Goals as goal

pub returns : goal.returns
returns g c =
    let values = c.args.self.now.values.now in
    let cells = map (λ value. option_copied (g.V.AsOutboundItem.item value)) values in
    let long = length-map values (λ value. option_copied (g.V.AsOutboundItem.item value)) in
    record {
      text = ap (λ n. be16 n ++ flat_map cell.Writes cells) (sym long);
      fault = count_alone (too_many max_unsigned (length values)) cells ∙ ap (too_many max_unsigned) (sym long);
      range = λ it. tt;
    }
