use Rattle.std.proofs.Common.{length}
use Rattle.pg_tool.proofs.server.stream.push_lines.Given as goal

abbrev pub decreases-loop-message : goal.decreases-loop-message
decreases-loop-message l = length l.reader.bytes
