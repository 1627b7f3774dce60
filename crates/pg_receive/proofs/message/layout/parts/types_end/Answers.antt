use Rattle.std.proofs.Common.{◌≡◌, ◌+◌, ◌*◌, ◌≤◌, length, arith, rules}
use Rattle.pg_format.specs.Format.Parts.{be_u32}
use Rattle.pg_receive.proofs.LayoutLemmas.{counted_end, all_there, number_there}
use Rattle.pg_receive.proofs.message.layout.parts.types_end.Goals as goal

pub returns-clause-end : goal.returns-clause-end
returns-clause-end c =
    let body = c.args.body.now in
    let n = c.in_ok-u16_at.field-0 in
    let count : c.from-count.result ≡ n = c.from-count.ensures in
    let fits : 2 + 4 * n ≤ length body = omega (arith, count, c.in_ok-bytes_at.ensures.found.0) in
    let types = all_there be_u32 4 body (number_there 4 body) n 2 fits in
    rw count (counted_end be_u32 4 body n (2 + 4 * n) types.0 c.in_ok-u16_at.ensures.found types.1)

pub returns-in_err-u16_at-clause-fault : goal.returns-in_err-u16_at-clause-fault
returns-in_err-u16_at-clause-fault c = search rules

pub returns-in_err-bytes_at-clause-fault : goal.returns-in_err-bytes_at-clause-fault
returns-in_err-bytes_at-clause-fault c = search rules
