use Rattle.pg_frames.proofs.FrontendPiecesLemmas.{one_read, one_taken}
use Rattle.pg_frames.proofs.frontend.laws.a_stream_is_read_one_way.Goals as goal

pub returns-clause-stream : goal.returns-clause-stream
returns-clause-stream c = one_taken

pub returns-clause-read : goal.returns-clause-read
returns-clause-read c = one_read
