use Rattle.std.proofs.Common.{◌≡◌, pos, to_z, arith, rules}
use Rattle.std.specs.Int.{w64}
use Rattle.std.proofs.lemmas.Int.{to_z-of_z}
use mir.Val.{SFits}
use Rattle.pg_format.specs.Format.Nullable.{cell}
use Rattle.pg_c.specs.Read.Row.{cell_in}
use Rattle.pg_c.proofs.ReadLemmas.{reads_items}
use Rattle.pg_c.proofs.read.row.pgmsg_read_row.Goals as goal

pub returns-then-index-count-clause-fault : goal.returns-then-index-count-clause-fault
returns-then-index-count-clause-fault c =
    let in_range : SFits w64 c.read_rest.result = search rules in
    rw (to_z-of_z w64 c.read_rest.result in_range) (c.read_rest.ensures.fault c.args.cells.now c.read_front-index.ensures.front)

pub returns-then-index-count-clause-front : goal.returns-then-index-count-clause-front
returns-then-index-count-clause-front c =
    let in_range : SFits w64 c.read_rest.result = search rules in
    rw (to_z-of_z w64 c.read_rest.result in_range) (λ below. c.read_rest.ensures.front below c.args.cells.now c.read_front-index.ensures.front)

pub returns-clause-row : goal.returns-clause-row
returns-clause-row c =
    let body = c.args.body.now in
    let n = c.in-Ok.count in
    let front = c.read_front-index.result in
    let all : front.0 ≡ n = omega (arith, c.if-index-count.false, c.read_front-index.ensures.few) in
    let len : to_z w64 n ≡ pos n = search rules in
    rw len (λ _. reads_items cell 4 (cell_in body) body n front.1 front.0 c.args.cells.now c.read_front-index.new.cells c.in-Ok.ensures.counted all c.read_front-index.ensures.front)
