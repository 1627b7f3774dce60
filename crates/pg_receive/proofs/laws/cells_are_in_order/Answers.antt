use Rattle.pg_receive.proofs.DataRowLemmas.{cells_fit, value_is_after}
use Rattle.pg_receive.proofs.laws.cells_are_in_order.Goals as goal

pub returns : goal.returns
returns c = record { fit = cells_fit; order = value_is_after }
