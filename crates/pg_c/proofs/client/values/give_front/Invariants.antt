use Rattle.std.specs.Prelude.{◌≡◌, ◌+◌, ◌*◌, ◌≤◌, length}
use Rattle.pg_format.specs.Format.Nullable.{value}
use Rattle.pg_c.specs.Read.Row.{cell_in}
use Rattle.pg_c.specs.Read.{GivesItems}
use Rattle.pg_c.proofs.client.values.give_front.Given as goal

abbrev pub invariant-loop-index : goal.invariant-loop-index
invariant-loop-index l = (l.at ≤ l.last) × (l.last + 4 * l.count ≡ length l.body + 4 * l.index) × GivesItems value (cell_in l.body) l.body l.first l.at l.index l.fn.values l.values
