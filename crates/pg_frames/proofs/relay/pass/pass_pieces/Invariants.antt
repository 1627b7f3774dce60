use Rattle.std.proofs.Common.{take}
use Rattle.pg_frames.specs.Pieces.{joined}
use Rattle.pg_frames.specs.Relay.Pass.{Keeps, Passed, conduct_of, standing_of}
use Rattle.pg_frames.proofs.relay.pass.pass_pieces.Given as goal

-- the pieces so far have passed
abbrev pub invariant-loop-piece : goal.invariant-loop-piece
invariant-loop-piece g l =
    let acts = conduct_of g.U.Wants.wanted g.U.Answers.answers g.U.Answers.exhausts in
    record {
      keeps : Keeps acts (standing_of l.fn.user l.fn.relay l.fn.out) (standing_of l.user l.relay l.out);
      passed : Passed acts (standing_of l.fn.user l.fn.relay l.fn.out) (joined (take l.piece-index l.pieces)) (standing_of l.user l.relay l.out);
    }
