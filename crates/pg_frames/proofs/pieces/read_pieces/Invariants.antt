use Rattle.std.proofs.Common.{take}
use Rattle.pg_frames.specs.Pieces.{joined, tags_and_bodies}
use Rattle.pg_frames.specs.Stream.{Stream, WantsMore}
use Rattle.pg_frames.proofs.pieces.read_pieces.Given as goal

abbrev pub invariant-loop-piece : goal.invariant-loop-piece
invariant-loop-piece l = record {
  so_far : Stream (joined (take l.piece-index l.pieces)) (tags_and_bodies l.messages.items) l.reader;
  wants : WantsMore l.reader;
}
