use Rattle.std.proofs.Common.{ℕ, ◌<◌, List, map, drop, None, Err, option_copied, [], refl, arith}
use Rattle.std.proofs.lemmas.Result.{err_from_is_err_and}
use Rattle.pg_base.specs.Decode.{Decodes}
use Rattle.pg_base.specs.declared.error.Error.{Error}
use Rattle.pg_base.specs.declared.error.Error.TheVariants.{Protocol, OutOfMemory}
use Rattle.pg_base.proofs.ReadingLemmas.{one_number}
use Rattle.pg_format.specs.Format.{Means, IsFaultOf}
use Rattle.pg_format.specs.Format.Nullable.{cell}
use Rattle.pg_format.specs.Format.Parts.{be_u16}
use Rattle.pg_format.specs.Messages.{data_row}
use Rattle.pg_format.proofs.ItemsLemmas.{fault_read}
use Rattle.pg_receive.specs.declared.message.data_row.cell.Cell.{Cell}
use Rattle.pg_receive.specs.CountedItems.{ItemsNeedNoMemory}
use Rattle.pg_receive.specs.DataRow.{cells_in_place, RowNeedsNoMemory}
use Rattle.pg_receive.proofs.CountedItemsLemmas.{asks_for_more}
use Rattle.pg_receive.proofs.DataRowLemmas.{ends_read}
use Rattle.pg_receive.proofs.message.data_row.ends_of.Goals as goal

-- an error of a row of more cells than have room in place
long_error : (body : List ℕ) (e : Error) → ((count : ℕ) (rest : List ℕ) → be_u16.Reads body count rest → cells_in_place < count)
    → Decodes (Means data_row) (IsFaultOf data_row) (ItemsNeedNoMemory 4 0) (λ row. row) None body (Err e) → Decodes (Means data_row) (IsFaultOf data_row) RowNeedsNoMemory (λ row. row) None body (Err e)
long_error body (Protocol reading fault) more p = p
long_error body OutOfMemory more p = asks_for_more 4 cells_in_place body more p

pub returns-in_err-read_ends-clause-answer : goal.returns-in_err-read_ends-clause-answer
returns-in_err-read_ends-clause-answer c =
    let p = err_from_is_err_and c.from_residual-in_err-read_ends.result c.from_residual-in_err-read_ends.ensures.1 in
    let body = c.args.body.now in
    let n = c.in_ok-cells.cells.left in
    rw (p.1, p.2) (long_error body c.in_err-read_ends.field-0.0 (λ count rest read.
    let counts = one_number 2 body n count (drop 2 body) rest c.in_ok-cells.ensures.begun.count read in
    omega (arith, counts.0, c.len.ensures, c.if-len-gt8.true)) c.in_err-read_ends.ensures.answer)

pub returns-clause-answer : goal.returns-clause-answer
returns-clause-answer c =
    let all = c.in_ok-read_all_quickly.ensures in
    (ends_read c.args.body.now c.in_ok-cells.cells c.new-ends.result.items c.read_all_quickly.new.keeper.items (map (λ (x : Cell). option_copied x.0) all.items) c.in_ok-read_all_quickly.field-0 c.in_ok-cells.ensures.begun c.new-ends.ensures.items all.read (all.kept c.in_ok-cells.cells.at [])).0

pub returns-clause-rise : goal.returns-clause-rise
returns-clause-rise c =
    let all = c.in_ok-read_all_quickly.ensures in
    (ends_read c.args.body.now c.in_ok-cells.cells c.new-ends.result.items c.read_all_quickly.new.keeper.items (map (λ (x : Cell). option_copied x.0) all.items) c.in_ok-read_all_quickly.field-0 c.in_ok-cells.ensures.begun c.new-ends.ensures.items all.read (all.kept c.in_ok-cells.cells.at [])).1

pub returns-in_err-read_all_quickly-clause-answer : goal.returns-in_err-read_all_quickly-clause-answer
returns-in_err-read_all_quickly-clause-answer c =
    let p = err_from_is_err_and c.from_residual-in_err-read_all_quickly.result c.from_residual-in_err-read_all_quickly.ensures.1 in
    rw (p.1, p.2) (refl, fault_read cell 4 c.args.body.now c.in_ok-cells.cells c.in_err-read_all_quickly.field-0.0 c.in_ok-cells.ensures.begun c.in_err-read_all_quickly.ensures)
