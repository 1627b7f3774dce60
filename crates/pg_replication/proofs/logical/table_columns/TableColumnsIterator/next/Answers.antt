use Rattle.std.proofs.Common.{◌≡◌, suc, ◌-◌, length, arith}
use Rattle.pg_format.specs.Received.{max_body}
use Rattle.pg_format.proofs.FormatLaws.Logical.{lawful_table_column, total_table_column}
use Rattle.pg_server.proofs.FrontendMessageLemmas.{from_index}
use Rattle.pg_replication.specs.Logical.TableColumns.{shown_column}
use Rattle.pg_format.proofs.ListedLemmas.{first_and_others, none_is_broken, short_after}
use Rattle.pg_replication.proofs.LogicalListedLemmas.{listed_first}
use Rattle.pg_replication.proofs.logical.table_columns.TableColumnsIterator.next.Goals as goal

pub returns-in_default-clause-steps : goal.returns-in_default-clause-steps
returns-in_default-clause-steps c =
    let list = c.args.self.now in
    let more : list.left ≡ suc (list.left - 1) = omega (arith, c.if-self-eq0.false) in
    absurd (none_is_broken lawful_table_column total_table_column (list.left - 1) list.left (length list.bytes.now) list.bytes.now c.in_default.field-0 more list.whole c.in_default.ensures.broken)

pub invariant_of-self : goal.invariant_of-self
invariant_of-self c =
    let list = c.args.self.now in
    let more : list.left ≡ suc (list.left - 1) = omega (arith, c.if-self-eq0.false) in
    record {
      short = short_after max_body c.in-Ok.end list.bytes.now _ (from_index c.in-Ok.end list.bytes.now) list.short;
      few = omega (arith, list.few);
      whole = (first_and_others lawful_table_column total_table_column list.left list.bytes.now _ c.in-Ok.end (shown_column c.in-Ok.column) (from_index c.in-Ok.end list.bytes.now) more list.whole c.in-Ok.ensures.item).1;
    }

pub returns-clause-steps : goal.returns-clause-steps
returns-clause-steps c =
    let list = c.args.self.now in
    let more : list.left ≡ suc (list.left - 1) = omega (arith, c.if-self-eq0.false) in
    listed_first total_table_column shown_column list.left (list.left - 1) list.bytes.now _ list.given.now (shown_column c.in-Ok.column)
    (first_and_others lawful_table_column total_table_column list.left list.bytes.now _ c.in-Ok.end (shown_column c.in-Ok.column) (from_index c.in-Ok.end list.bytes.now) more list.whole c.in-Ok.ensures.item).0
