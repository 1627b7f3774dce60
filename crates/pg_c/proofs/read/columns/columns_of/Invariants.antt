use Rattle.pg_receive.specs.RowDescription.Raw.{raw_column}
use Rattle.pg_c.specs.Read.Columns.{column_in}
use Rattle.pg_c.specs.Read.{GivesItems}
use Rattle.pg_c.proofs.read.columns.columns_of.Given as goal

abbrev pub invariant-loop-index : goal.invariant-loop-index
invariant-loop-index l = GivesItems raw_column (column_in l.body) l.body 2 l.at l.index l.fn.columns l.columns
