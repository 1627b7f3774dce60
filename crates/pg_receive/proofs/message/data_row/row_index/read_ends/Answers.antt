use Rattle.std.proofs.Common.{◌≡◌, ◌<◌, map, option_copied, drop, [], refl, ◌∙◌, arith}
use Rattle.std.proofs.lemmas.Bool.{false≢true}
use Rattle.std.proofs.lemmas.Result.{err_from_is_err_and}
use Rattle.pg_base.proofs.ReadingLemmas.{one_number}
use Rattle.pg_format.specs.Format.Nullable.{cell}
use Rattle.pg_format.proofs.ItemsLemmas.{fault_read}
use Rattle.pg_receive.specs.declared.message.data_row.cell.Cell.{Cell}
use Rattle.pg_receive.proofs.CountedItemsLemmas.{asks_for_memory}
use Rattle.pg_receive.proofs.DataRowLemmas.{ends_read}
use Rattle.pg_receive.proofs.message.data_row.row_index.read_ends.Goals as goal

pub returns-in_err-reserve_exact-clause-answer : goal.returns-in_err-reserve_exact-clause-answer
returns-in_err-reserve_exact-clause-answer c =
    let p = err_from_is_err_and c.from_residual-in_err-reserve_exact.result c.from_residual-in_err-reserve_exact.ensures.1 in
    let begun = c.in_ok-cells.ensures.begun in
    let n = c.in_ok-cells.cells.left in
    let not_none : n ≡ 0 → ⊥ = λ e. absurd (false≢true (c.in_err-reserve_exact.ensures.succeeds (omega (arith, e, c.len.ensures, c.clear.ensures.len)))) in
    let some_are_there : 0 < n = omega arith in
    rw (p.1, p.2) (asks_for_memory 4 0 c.args.body.now n begun.count begun.holds some_are_there)

pub returns-in_err-reserve_exact-clause-memory : goal.returns-in_err-reserve_exact-clause-memory
returns-in_err-reserve_exact-clause-memory c = λ ran_out count rest read.
    let n = c.in_ok-cells.cells.left in
    let counts = one_number 2 c.args.body.now n count (drop 2 c.args.body.now) rest c.in_ok-cells.ensures.begun.count read in
    omega (arith, counts.0, c.in_err-reserve_exact.ensures.full, c.clear.ensures.capacity, c.clear.ensures.len, c.len.ensures)

pub returns-clause-answer : goal.returns-clause-answer
returns-clause-answer c =
    let all = c.in_ok-read_all_quickly.ensures in
    let none = c.in_ok-reserve_exact.ensures.items ∙ c.clear.ensures.items in
    (ends_read c.args.body.now c.in_ok-cells.cells c.reserve_exact.new.self.items c.read_all_quickly.new.keeper.items (map (λ (x : Cell). option_copied x.0) all.items) c.in_ok-read_all_quickly.field-0 c.in_ok-cells.ensures.begun none all.read (all.kept c.in_ok-cells.cells.at [])).0

pub returns-clause-rise : goal.returns-clause-rise
returns-clause-rise c =
    let all = c.in_ok-read_all_quickly.ensures in
    let none = c.in_ok-reserve_exact.ensures.items ∙ c.clear.ensures.items in
    (ends_read c.args.body.now c.in_ok-cells.cells c.reserve_exact.new.self.items c.read_all_quickly.new.keeper.items (map (λ (x : Cell). option_copied x.0) all.items) c.in_ok-read_all_quickly.field-0 c.in_ok-cells.ensures.begun none all.read (all.kept c.in_ok-cells.cells.at [])).1

pub returns-in_err-read_all_quickly-clause-answer : goal.returns-in_err-read_all_quickly-clause-answer
returns-in_err-read_all_quickly-clause-answer c =
    let p = err_from_is_err_and c.from_residual-in_err-read_all_quickly.result c.from_residual-in_err-read_all_quickly.ensures.1 in
    rw (p.1, p.2) (refl, fault_read cell 4 c.args.body.now c.in_ok-cells.cells c.in_err-read_all_quickly.field-0.0 c.in_ok-cells.ensures.begun c.in_err-read_all_quickly.ensures)
