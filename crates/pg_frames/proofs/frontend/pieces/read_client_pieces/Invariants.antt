use Rattle.std.proofs.Common.{◌≡◌, take}
use Rattle.pg_frames.specs.Pieces.{joined}
use Rattle.pg_frames.specs.declared.frontend.frame.Expects.TheVariants.{First}
use Rattle.pg_frames.specs.Frontend.Frame.{WantsMore}
use Rattle.pg_frames.specs.Frontend.Pieces.{Stream, kinds_and_bodies}
use Rattle.pg_frames.proofs.frontend.pieces.read_client_pieces.Given as goal

abbrev pub invariant-loop-piece : goal.invariant-loop-piece
invariant-loop-piece l = record {
  limit : l.reader.limit ≡ l.limit;
  so_far : Stream l.limit First (joined (take l.piece-index l.pieces)) (kinds_and_bodies l.messages.items) l.reader.expects l.reader.bytes;
  wants : WantsMore l.limit l.reader.expects l.reader.bytes;
}
