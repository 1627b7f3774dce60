use Rattle.std.proofs.Common.{ℕ, map, map-id}
use Rattle.pg_send.specs.RawBind.{raw_bind_fields}
use Rattle.pg_send.proofs.PartLemmas.{raw_bind_of_parts}
use Rattle.pg_send.proofs.message.raw_bind.RawBindComposed.parts.Goals as goal

pub returns : goal.returns
returns g c =
    let bind = c.args.self.now in
    raw_bind_of_parts (raw_bind_fields g.V.AsValue.value bind) (map (λ (code : ℕ). code) bind.formats.now) (map (λ (code : ℕ). code) bind.result_formats.now) (map-id bind.formats.now) (map-id bind.result_formats.now)
