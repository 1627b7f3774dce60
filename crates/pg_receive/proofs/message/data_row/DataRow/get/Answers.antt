use Rattle.std.proofs.Common.{ap, length, arith}
use Rattle.pg_receive.proofs.DataRowLemmas.{length-cells_from}
use Rattle.pg_receive.proofs.message.data_row.DataRow.get.Goals as goal

pub cell_in-requires-clause-within : goal.cell_in-requires-clause-within
cell_in-requires-clause-within c =
    let row = c.self.inside in
    omega (arith, c.requires, length-cells_from row.storage 2 row.ends.items, ap length c.as_slice-2.ensures, ap length c.self.view_is)
