use Rattle.pg_format.proofs.FormatLaws.FromServer.{lawful_column}
use Rattle.pg_format.proofs.FormatLaws.Nullable.{lawful_cell}
use Rattle.pg_format.proofs.ItemsLemmas.{reads_body}
use Rattle.pg_receive.proofs.RowDescriptionRawLemmas.{lawful_raw_column}
use Rattle.pg_receive.proofs.laws.what_is_read_one_by_one_is_what_the_body_means.Goals as goal

pub returns-clause-cells : goal.returns-clause-cells
returns-clause-cells c = reads_body lawful_cell 4

pub returns-clause-columns : goal.returns-clause-columns
returns-clause-columns c = reads_body lawful_column 19

pub returns-clause-raw_columns : goal.returns-clause-raw_columns
returns-clause-raw_columns c = reads_body lawful_raw_column 19
