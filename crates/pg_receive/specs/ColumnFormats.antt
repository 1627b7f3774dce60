-- The format codes of the columns of a COPY.
use Rattle.std.specs.Prelude.{ℤ, List}
use Rattle.pg_format.specs.Listed.{values_in}
use Rattle.pg_format.proofs.FormatLaws.Parts.{total_signed}
use Rattle.pg_receive.specs.declared.message.column_formats.ColumnFormats.{ColumnFormats}

abbrev pub column_formats : ColumnFormats → List ℤ
column_formats formats = values_in (total_signed 2) formats.left formats.bytes.now
