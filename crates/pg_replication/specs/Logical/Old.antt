-- What is sent of a row before its change.
use Rattle.pg_format.specs.Logical as page
use Rattle.pg_replication.specs.declared.logical.old.Old.{Old}
use Rattle.pg_replication.specs.declared.logical.old.Old.TheVariants as old
use Rattle.pg_replication.specs.Logical.Tuple.{datums}

abbrev pub shown_old : Old → page.Old
shown_old (old.Key tuple) = page.key (datums tuple)
shown_old (old.Whole tuple) = page.whole (datums tuple)
