use Rattle.std.proofs.Common.{refl, rules}
use Rattle.std.proofs.lemmas.Int.{to_z-of_z}
use Rattle.std.specs.Int.{w32}
use Rattle.pg_replication.specs.Logical.TableColumns.{shown_column}
use Rattle.pg_c.proofs.LogicalListsLemmas.{column_name}
use mir.Val.{SFits}
use Rattle.pg_c.proofs.replication.logical.lists.place_of_table_column.Goals as goal

pub returns : goal.returns
returns c = λ end body p.
    let column = c.args.read.now in
    let modifier_fits : SFits w32 column.type_modifier = search rules in
    rw (c.span.ensures, column_name body c.args.at end (shown_column column) p, to_z-of_z w32 column.type_modifier modifier_fits) refl
