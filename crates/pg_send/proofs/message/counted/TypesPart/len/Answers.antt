use Rattle.std.proofs.Common.{map, arith}
use Rattle.std.proofs.lemmas.List.{length-map}
use Rattle.pg_send.proofs.CountedLemmas.{length-counted32}
use Rattle.pg_send.proofs.message.counted.TypesPart.len.Goals as goal

pub returns : goal.returns
returns g c =
    let types = c.args.self.now.0.now in
    omega (arith, length-counted32 (map g.T.TypeNumber.number types), length-map types g.T.TypeNumber.number)
