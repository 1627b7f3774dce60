use Rattle.std.proofs.Common.{◌+◌, ◌∙◌, take}
use Rattle.pg_frames.specs.Pieces.{joined}
use Rattle.pg_frames.specs.declared.frontend.frame.Expects.TheVariants.{First}
use Rattle.pg_frames.specs.Frontend.Pieces.{kinds_and_bodies}
use Rattle.pg_frames.proofs.FrontendPiecesLemmas.{reader_fed, read_to_fault}
use Rattle.pg_frames.proofs.frontend.pieces.read_client_pieces.Goals as goal

pub loop-piece-preserved : goal.loop-piece-preserved
loop-piece-preserved c =
    let i = c.loop-piece.piece-index in
    let so_far = c.loop-piece.invariant in
    let fed = reader_fed c.args.limit First c.args.pieces.now i _ (kinds_and_bodies c.loop-piece.messages.items) c.loop-piece.reader c.feed.new.self c.loop-piece-test.true so_far.limit so_far.so_far c.in_ok-feed.ensures.ok in
    let limit = c.in_ok-fault.ensures.limit ∙ fed.0 in
    record {
      limit = limit;
      so_far = rw fed.0 at (c.in_ok-fault.ensures.stream First (joined (take (i + 1) c.args.pieces.now)) (rw fed.0 fed.1));
      wants = rw limit at (rw c.in_default.is at c.in_ok-fault.ensures.end);
    }

pub returns-in-Some : goal.returns-in-Some
returns-in-Some c =
    let i = c.loop-piece.piece-index in
    let so_far = c.loop-piece.invariant in
    let fed = reader_fed c.args.limit First c.args.pieces.now i _ (kinds_and_bodies c.loop-piece.messages.items) c.loop-piece.reader c.feed.new.self c.loop-piece-test.true so_far.limit so_far.so_far c.in_ok-feed.ensures.ok in
    let limit = c.in_ok-fault.ensures.limit ∙ fed.0 in
    let taken = rw fed.0 at (c.in_ok-fault.ensures.stream First (joined (take (i + 1) c.args.pieces.now)) (rw fed.0 fed.1)) in
    let fault = rw limit at (rw c.in-Some.is at c.in_ok-fault.ensures.end) in
    read_to_fault c.args.limit c.take_all.new.reader.expects c.args.pieces.now (i + 1) (kinds_and_bodies c.take_all.new.messages.items) c.take_all.new.reader.bytes c.in-Some.fault taken fault
