use Rattle.std.proofs.Common.{map, arith}
use Rattle.std.proofs.lemmas.List.{length-map}
use Rattle.pg_send.proofs.CountedLemmas.{length-counted16}
use Rattle.pg_send.proofs.message.counted.CodesPart.len.Goals as goal

pub returns : goal.returns
returns g c =
    let codes = c.args.self.now.1.now in
    omega (arith, length-counted16 (map g.C.Code.code codes), length-map codes g.C.Code.code)
