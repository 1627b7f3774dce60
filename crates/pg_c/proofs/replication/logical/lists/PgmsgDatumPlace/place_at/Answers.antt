use Rattle.pg_replication.specs.Logical.Tuple.{shown_datum}
use Rattle.pg_c.proofs.replication.logical.lists.PgmsgDatumPlace.place_at.Goals as goal

pub returns-clause-place : goal.returns-clause-place
returns-clause-place c =
    let read = c.in_ok-value in
    record { item = shown_datum read.value; read = read.ensures.item; is = c.place_of_datum.ensures read.end c.args.content.now read.ensures.item }
