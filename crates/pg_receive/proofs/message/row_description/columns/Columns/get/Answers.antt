use Rattle.std.proofs.Common.{List, ◌∙◌, ap}
use Rattle.std.proofs.lemmas.Iterator.Consumers.{nth_from_yields_List, YieldsList-from_first}
use Rattle.pg_format.specs.Messages.{Column}
use Rattle.pg_receive.specs.RowDescription.Columns.{column_of_ref, columns_left}
use Rattle.pg_receive.proofs.message.row_description.columns.Columns.get.Goals as goal

pub returns : goal.returns
returns c = nth_from_yields_List c.nth.result c.nth.new.self c.args.index c.nth.ensures.ran (YieldsList-from_first column_of_ref (λ (columns : List Column). columns) c.args.self.now (ap columns_left c.again.ensures ∙ c.self.view_is))
