use Rattle.std.proofs.Common.{◌∙◌, ap, unwrap_or}
use Rattle.pg_receive.proofs.CommandCompleteLemmas.{after_last_space, rows_after, no_rows}
use Rattle.pg_receive.proofs.message.command_complete.rows_affected.Goals as goal

pub returns-in-Some : goal.returns-in-Some
returns-in-Some c =
    let h = c.in-Some.ensures in
    rows_after c.args.tag.now _ c.unwrap_or.result (after_last_space c.args.tag.now c.in-Some.space h.0 h.1) (c.unwrap_or.ensures ∙ ap (λ found. unwrap_or found 0) c.leading_u64.ensures)

pub returns-in-None : goal.returns-in-None
returns-in-None c = no_rows c.args.tag.now c.in-None.ensures
