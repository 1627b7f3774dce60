use Rattle.pg_frames.proofs.PiecesLemmas.{one_stream, one_read}
use Rattle.pg_frames.proofs.laws.a_stream_is_read_one_way.Goals as goal

pub returns-clause-stream : goal.returns-clause-stream
returns-clause-stream c = λ bytes xs ys r s p q. one_stream bytes xs ys r s p.0 p.1 q.0 q.1

pub returns-clause-read : goal.returns-clause-read
returns-clause-read c = one_read
