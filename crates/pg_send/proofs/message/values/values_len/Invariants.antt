use Rattle.std.proofs.Common.{◌≡◌, length, take, map}
use Rattle.std.specs.List.{flat_map}
use Rattle.pg_base.specs.Part.{saturated}
use Rattle.pg_send.specs.Values.{value_text}
use Rattle.pg_send.proofs.message.values.values_len.Given as goal

abbrev pub invariant-loop-value : goal.invariant-loop-value
invariant-loop-value g l = l.len ≡ saturated (length (flat_map value_text (map g.V.AsValue.value (take l.value-index l.values))))
