use Rattle.std.proofs.Common.{◌≡◌, ◌+◌, ◌-◌, ◌≤◌, length, take, drop, ◌∙◌, arith}
use Rattle.byteorder.specs.Endian.{big_number}
use Rattle.pg_base.specs.Reading.{Number}
use Rattle.pg_base.proofs.NumbersLemmas.{number_4, wide_enough, number_at}
use Rattle.pg_c.proofs.LogicalListsLemmas.{with_value_found}
use Rattle.pg_c.proofs.replication.logical.lists.put_with_value.Goals as goal

pub returns-clause-found : goal.returns-clause-found
returns-clause-found c =
    let body = c.args.content.now in
    let at = c.args.at in
    let n = c.read_u32-len.result in
    let count : at + 5 - (at + 1) ≡ 4 = omega arith in
    let place : at + 1 + 4 ≡ at + 5 = omega arith in
    let fits : at + 1 + 4 ≤ length body = omega (arith, c.requires.within) in
    let is : n ≡ big_number 4 (take 4 (drop (at + 1) body)) = rw count at c.read_u32-len.ensures in
    let number : Number 4 (drop (at + 1) body) n (drop (at + 5) body) =
    rw place at (number_at body (at + 1) 4 n fits (is ∙ number_4 (take 4 (drop (at + 1) body)) (wide_enough body (at + 1) 4 fits))) in
    with_value_found body at n (omega (arith, c.if-end-content.false)) c.requires.kind number
