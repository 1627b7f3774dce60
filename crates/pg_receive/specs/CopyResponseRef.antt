-- How the data of a COPY is spelled, borrowed: what the type's fields are.
use Rattle.pg_format.specs.Messages.{CopyResponse}
use Rattle.pg_receive.specs.ColumnFormats.{column_formats}
use Rattle.pg_receive.specs.declared.message.copy_response_ref.CopyResponseRef.{CopyResponseRef}

abbrev pub response_borrowed : CopyResponseRef → CopyResponse
response_borrowed response = record { format = response.format; num_columns = response.num_columns; format_codes = column_formats response.format_codes }
