use Rattle.std.proofs.Common.{◌∙◌, drop, sym}
use Rattle.pg_format.proofs.ItemsLemmas.{length-items_in}
use Rattle.pg_receive.specs.RowDescription.Columns.{first_column, after_column}
use Rattle.pg_receive.proofs.message.row_description.columns.Columns.len.Goals as goal

pub returns : goal.returns
returns c =
    let reading = c.self.inside.columns in
    rw (← c.self.view_is) (c.len.ensures ∙ sym (length-items_in first_column after_column reading.left (drop reading.at reading.body)))
