use Rattle.std.specs.Prelude.{◌≤◌, List, length}
use Rattle.pg_format.specs.Format.Nullable.{cell}
use Rattle.pg_c.specs.declared.read.row.PgmsgCell.{PgmsgCell}
use Rattle.pg_c.specs.Read.Row.{cell_in}
use Rattle.pg_c.specs.Read.{GivesItems}
use Rattle.pg_c.proofs.read.row.rest_of.Given as goal

abbrev pub invariant-loop-index : goal.invariant-loop-index
invariant-loop-index l = (l.at ≤ length l.body) × ((before : List PgmsgCell) → GivesItems cell (cell_in l.body) l.body 2 l.fn.start l.fn.first before l.fn.cells → GivesItems cell (cell_in l.body) l.body 2 l.at l.index before l.cells)
