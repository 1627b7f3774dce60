use Rattle.std.proofs.Common.{◌≡◌, ◌≤◌, [], length, map, sym, ap, arith}
use Rattle.std.proofs.lemmas.Bool.{eqb-true, eqb-false}
use Rattle.pg_format.specs.Messages.{column}
use Rattle.pg_format.proofs.FormatLaws.Places.{none_at}
use Rattle.pg_format.proofs.ItemsLemmas.{all_meant}
use Rattle.pg_receive.specs.RowDescription.{column_of}
use Rattle.pg_receive.specs.RowDescription.Columns.{column_of_ref}
use Rattle.pg_receive.proofs.message.row_description.fields_of.Goals as goal

pub returns-then-is_empty : goal.returns-then-is_empty
returns-then-is_empty c =
    let body = c.args.body.now in
    let reading = c.in_ok-columns.columns in
    let begun = c.in_ok-columns.ensures.begun in
    let none : reading.left ≡ 0 = eqb-true reading.left 0 (sym c.if-is_empty.ensures) in
    let within : reading.at ≤ length reading.body = omega (arith, begun.first, begun.holds, ap length begun.whole) in
    rw (ap (map column_of) c.new.ensures.items) (all_meant column 19 body reading [] reading.at begun (rw none (none_at column reading.body reading.at within)))

pub returns-then-own : goal.returns-then-own
returns-then-own c = λ no_memory.
    let all = c.in_ok-read_all.ensures.all in
    let means = all_meant column 19 c.args.body.now c.in_ok-columns.columns (map column_of_ref all.items) c.in_ok-read_all.field-0 c.in_ok-columns.ensures.begun all.read in
    let none : map column_of_ref all.items ≡ [] = no_memory (map column_of_ref all.items) means in
    absurd (eqb-false c.in_ok-columns.columns.left 0 (sym c.if-is_empty.ensures) (omega (arith, ap length none, all.read.reads.0)))

pub returns : goal.returns
returns c =
    let all = c.in_ok-read_all.ensures.all in
    let means = all_meant column 19 c.args.body.now c.in_ok-columns.columns (map column_of_ref all.items) c.in_ok-read_all.field-0 c.in_ok-columns.ensures.begun all.read in
    let own = all.kept 0 [] (λ _. ap (map column_of) c.with_room-own.ensures.none) c.if-own.false in
    rw own means
