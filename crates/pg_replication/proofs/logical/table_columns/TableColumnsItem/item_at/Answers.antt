use Rattle.std.proofs.Common.{◌+◌, arith}
use Rattle.pg_format.specs.Received.{max_body}
use Rattle.pg_format.proofs.FormatLaws.Logical.{lawful_table_column, total_table_column}
use Rattle.pg_server.proofs.FrontendMessageLemmas.{from_index}
use Rattle.pg_replication.specs.Logical.TableColumns.{shown_column}
use Rattle.pg_format.proofs.ListedLemmas.{listed_stand, counted_stand, short_after}
use Rattle.pg_replication.proofs.LogicalListedLemmas.{listed_alone}
use Rattle.pg_replication.proofs.logical.table_columns.TableColumnsItem.item_at.Goals as goal

pub invariant_of-columns : goal.invariant_of-columns
invariant_of-columns c =
    let body = c.args.body.now in
    let at = c.args.at + 2 in
    record {
      short = short_after max_body at body _ (from_index at body) c.requires.short;
      few = omega (arith, c.from-left.ensures);
      whole = (listed_stand lawful_table_column total_table_column c.begin_at-items.result body _ at c.from-left.result c.in_ok-end.end _ c.begin_at-items.ensures (from_index at body) c.in_ok-end.ensures.all.read).1;
    }

pub returns-clause-item : goal.returns-clause-item
returns-clause-item c =
    let body = c.args.body.now in
    rw (listed_alone total_table_column shown_column c.from-left.result _)
    (counted_stand lawful_table_column total_table_column c.begin_at-items.result body _ c.args.at c.from-left.result c.in_ok-u16_at.field-0 c.in_ok-end.end _ c.begin_at-items.ensures (from_index (c.args.at + 2) body) (omega (arith, c.from-left.ensures)) c.in_ok-u16_at.ensures.found c.in_ok-end.ensures.all.read)
