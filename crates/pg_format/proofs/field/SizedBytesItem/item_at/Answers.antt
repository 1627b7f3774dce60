use Rattle.pg_format.proofs.FieldLemmas.{sized_stands}
use Rattle.pg_format.proofs.field.SizedBytesItem.item_at.Goals as goal

pub returns-clause-item : goal.returns-clause-item
returns-clause-item c =
    sized_stands c.args.body.now c.in_ok-bytes.bytes.now c.args.at c.in_ok-length.field-0 c.in_ok-length.ensures.found c.in_ok-bytes.ensures.found
