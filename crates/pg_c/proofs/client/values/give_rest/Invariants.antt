use Rattle.std.specs.Prelude.{◌≤◌, ℕ, List, length}
use Rattle.pg_format.specs.Format.Nullable.{value}
use Rattle.pg_c.specs.declared.read.row.PgmsgCell.{PgmsgCell}
use Rattle.pg_c.specs.Read.Row.{cell_in}
use Rattle.pg_c.specs.Read.{GivesItems}
use Rattle.pg_c.proofs.client.values.give_rest.Given as goal

abbrev pub invariant-loop-next : goal.invariant-loop-next
invariant-loop-next l =
    (l.at ≤ length l.body) × ((first : ℕ) (before : List PgmsgCell) → GivesItems value (cell_in l.body) l.body first l.fn.start l.fn.index before l.fn.values → GivesItems value (cell_in l.body) l.body first l.at l.next before l.values)
