use Rattle.std.proofs.Common.{refl, arith}
use Rattle.pg_replication.specs.Logical.Tuple.{datums}
use Rattle.pg_c.proofs.LogicalGivenLemmas.{update_parts}
use Rattle.pg_c.proofs.LogicalPlacesLemmas.{new_stands}
use Rattle.pg_c.proofs.replication.logical.change.given_update.Goals as goal

pub old_row_at-end-requires : goal.old_row_at-end-requires
old_row_at-end-requires c =
    let parts = update_parts c.args.content.now c.args.update.now c.requires.some c.requires.means in
    rw c.row_letter_at-at.ensures (record { within = parts.old.within; short = c.requires.short; reads = (parts.rest, parts.reads) })

pub row_at-requires : goal.row_at-requires
row_at-requires c =
    let parts = update_parts c.args.content.now c.args.update.now c.requires.some c.requires.means in
    let given = (rw c.row_letter_at-at.ensures at c.old_row_at-end.ensures) parts.rest parts.reads in
    omega (arith, given.1.within, c.requires.short)

pub returns : goal.returns
returns c =
    let content = c.args.content.now in
    let row = datums c.args.update.now.new in
    let parts = update_parts content c.args.update.now c.requires.some c.requires.means in
    let given = (rw c.row_letter_at-at.ensures at c.old_row_at-end.ensures) parts.rest parts.reads in
    rw (c.update_of.ensures, c.row_at.ensures) (given.0, new_stands content parts.rest c.old_row_at-end.result.1 row given.1 parts.new, refl)
