-- A message of logical replication as a server streams it.
use Rattle.pg_format.specs.Replication.{XLogData}
use Rattle.pg_replication.specs.Logical.Encode.{content}
use Rattle.pg_replication.specs.declared.logical.xlog_message.XLogMessage.{XLogMessage}

-- the piece of the log that it is
abbrev pub piece_of : XLogMessage → XLogData
piece_of it = record { start = it.start; end = it.end; clock = it.clock; content = content it.message }
