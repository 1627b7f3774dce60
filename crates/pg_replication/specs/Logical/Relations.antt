-- The tables of a Truncate.
use Rattle.std.specs.Prelude.{ℕ, List}
use Rattle.pg_format.proofs.FormatLaws.Logical.{total_id}
use Rattle.pg_replication.specs.declared.logical.relations.Relations.{Relations}
use Rattle.pg_replication.specs.Logical.Listed.{listed}

abbrev pub relation_ids : Relations → List ℕ
relation_ids relations = listed total_id (λ id. id) relations.left relations.bytes.now relations.given.now
