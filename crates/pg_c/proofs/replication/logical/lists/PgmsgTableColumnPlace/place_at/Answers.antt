use Rattle.pg_replication.specs.Logical.TableColumns.{shown_column}
use Rattle.pg_c.proofs.replication.logical.lists.PgmsgTableColumnPlace.place_at.Goals as goal

pub returns-clause-place : goal.returns-clause-place
returns-clause-place c =
    let read = c.in_ok-read in
    record { item = shown_column read.read; read = read.ensures.item; is = c.place_of_table_column.ensures read.end c.args.content.now read.ensures.item }
