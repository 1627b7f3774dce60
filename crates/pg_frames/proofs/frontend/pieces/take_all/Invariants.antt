use Rattle.std.proofs.Common.{◌≡◌, ℕ, List, length}
use Rattle.pg_frames.specs.declared.frontend.frame.Expects.{Expects}
use Rattle.pg_frames.specs.Frontend.Pieces.{Stream, kinds_and_bodies}
use Rattle.pg_frames.proofs.frontend.pieces.take_all.Given as goal

-- the messages so far and what is left are the stream that was there before
abbrev pub invariant-loop-message : goal.invariant-loop-message
invariant-loop-message l = record {
  limit : l.reader.limit ≡ l.initial.reader.limit;
  stream : (state : Expects) (bytes : List ℕ) → Stream l.initial.reader.limit state bytes (kinds_and_bodies l.initial.messages.items) l.initial.reader.expects l.initial.reader.bytes → Stream l.initial.reader.limit state bytes (kinds_and_bodies l.messages.items) l.reader.expects l.reader.bytes;
}

abbrev pub decreases-loop-message : goal.decreases-loop-message
decreases-loop-message l = length l.reader.bytes
