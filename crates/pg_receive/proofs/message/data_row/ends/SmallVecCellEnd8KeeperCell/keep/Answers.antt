use Rattle.std.specs.Option.{is_none, is_some}
use Rattle.std.proofs.Common.{◌≡◌, ◌∙◌, map, option_copied}
use Rattle.std.proofs.lemmas.List.{map_push}
use Rattle.pg_receive.proofs.DataRowLemmas.{keeps_one_more, not_some, is_none-copied}
use Rattle.pg_receive.specs.declared.message.data_row.cell.Cell.{Cell}
use Rattle.pg_receive.proofs.message.data_row.ends.SmallVecCellEnd8KeeperCell.keep.Goals as goal

pub returns-clause-kept : goal.returns-clause-kept
returns-clause-kept c = λ body first cells kept read.
    let cell = c.args.cell in
    let shown = λ (x : Cell). option_copied x.0 in
    let said : c.is_none.result ≡ is_none cell.0 = not_some c.is_none.result (is_some cell.0) c.is_none.ensures in
    rw (c.push_reserved.ensures.items, map_push shown cells cell)
    (keeps_one_more body first c.args._at c.args.end c.new.result c.args.self.now.items (map shown cells) (shown cell) kept read c.new.ensures.end (rw (is_none-copied cell.0) (c.new.ensures.null ∙ said)))
