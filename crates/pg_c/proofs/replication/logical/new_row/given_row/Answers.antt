use Rattle.std.proofs.Common.{◌≡◌, ◌≤◌, ap, ◌∙◌, arith}
use Rattle.pg_c.specs.Replication.Logical.NewRow.{table_at}
use Rattle.pg_c.proofs.LogicalNewRowLemmas.{four_at, gives_alone, gives_streamed}
use Rattle.pg_c.proofs.replication.logical.new_row.given_row.Goals as goal
use Rattle.pg_c.proofs.replication.logical.new_row.given_row.Goals.{then-streamed, else-streamed}

pub returns : goal.returns
returns c =
    let bytes = c.args.content.now in
    let list = c.args.values in
    let relation = c.read_u32-2.result in
    let within = c.requires.within in
    elim c.if-streamed.branch [
      | then-streamed w ↦
          let table : c.table_at-table.result ≡ 5 = c.table_at-table.ensures ∙ ap table_at w.if-streamed.true in
          let fits : 12 ≤ list.at = omega (arith, c.requires.place, ap table_at w.if-streamed.true) in
          rw w.result-is
          (gives_streamed c.args.streamed bytes list w.read_u32.result relation w.if-streamed.true (four_at bytes 1 w.read_u32.result (omega (arith, fits, within)) w.read_u32.ensures)
          (four_at bytes 5 relation (omega (arith, fits, within)) (rw table at c.read_u32-2.ensures)))
      | else-streamed w ↦
          let table : c.table_at-table.result ≡ 1 = c.table_at-table.ensures ∙ ap table_at w.if-streamed.false in
          let fits : 8 ≤ list.at = omega (arith, c.requires.place, ap table_at w.if-streamed.false) in
          rw w.result-is (gives_alone c.args.streamed bytes list relation w.if-streamed.false (four_at bytes 1 relation (omega (arith, fits, within)) (rw table at c.read_u32-2.ensures)))
    ]
