use Rattle.pg_c.proofs.LogicalListsLemmas.{text_is, binary_is}
use Rattle.pg_c.proofs.replication.logical.lists.place_of_datum.Goals as goal

pub returns-in-Text : goal.returns-in-Text
returns-in-Text c = λ end body p. rw (c.in-Text.is, c.with_value.ensures) (text_is body c.args.at end c.in-Text.text.now (rw c.in-Text.is at p))

pub returns-in-Binary : goal.returns-in-Binary
returns-in-Binary c = λ end body p. rw (c.in-Binary.is, c.with_value-in-Binary.ensures) (binary_is body c.args.at end c.in-Binary.bytes.now (rw c.in-Binary.is at p))
