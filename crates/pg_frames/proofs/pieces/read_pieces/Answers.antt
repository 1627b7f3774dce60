use Rattle.std.proofs.Common.{◌+◌, take, rules}
use Rattle.pg_frames.specs.Pieces.{joined, tags_and_bodies}
use Rattle.pg_frames.proofs.PiecesLemmas.{stream_fed, read_to_fault}
use Rattle.pg_frames.proofs.pieces.read_pieces.Goals as goal

pub loop-piece-init : goal.loop-piece-init
loop-piece-init c = search rules

pub loop-piece-preserved : goal.loop-piece-preserved
loop-piece-preserved c =
    let i = c.loop-piece.piece-index in
    let fed = stream_fed c.args.pieces.now i _ (tags_and_bodies c.loop-piece.messages.items) c.loop-piece.reader c.feed.new.self c.loop-piece-test.true c.loop-piece.invariant.so_far c.in_ok-feed.ensures.ok in
    record {
      so_far = c.in_ok-fault.ensures.stream (joined (take (i + 1) c.args.pieces.now)) fed;
      wants = rw c.in_default.is at c.in_ok-fault.ensures.end;
    }

pub returns-in-Some-clause-read : goal.returns-in-Some-clause-read
returns-in-Some-clause-read c =
    let i = c.loop-piece.piece-index in
    let fed = stream_fed c.args.pieces.now i _ (tags_and_bodies c.loop-piece.messages.items) c.loop-piece.reader c.feed.new.self c.loop-piece-test.true c.loop-piece.invariant.so_far c.in_ok-feed.ensures.ok in
    let taken = c.in_ok-fault.ensures.stream (joined (take (i + 1) c.args.pieces.now)) fed in
    read_to_fault c.args.pieces.now (i + 1) (tags_and_bodies c.take_all.new.messages.items) c.take_all.new.reader c.in-Some.fault taken (rw c.in-Some.is at c.in_ok-fault.ensures.end)
