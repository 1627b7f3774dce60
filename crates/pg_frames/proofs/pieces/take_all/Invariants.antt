use Rattle.std.proofs.Common.{ℕ, List, length}
use Rattle.pg_frames.specs.Pieces.{tags_and_bodies}
use Rattle.pg_frames.specs.Stream.{Stream}
use Rattle.pg_frames.proofs.pieces.take_all.Given as goal

-- the messages so far and what is left are the stream that was there before
abbrev pub invariant-loop-message : goal.invariant-loop-message
invariant-loop-message l = (bytes : List ℕ) → Stream bytes (tags_and_bodies l.initial.messages.items) l.initial.reader → Stream bytes (tags_and_bodies l.messages.items) l.reader

abbrev pub decreases-loop-message : goal.decreases-loop-message
decreases-loop-message l = length l.reader
