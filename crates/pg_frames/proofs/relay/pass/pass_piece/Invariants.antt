use Rattle.std.proofs.Common.{◌<◌, length}
use Rattle.pg_frames.specs.Relay.Pass.{HasAdded, HoldsWanted, Keeps, PassesOn, conduct_of, standing_of}
use Rattle.pg_frames.proofs.RelayPassStopsLemmas.{Ends}
use Rattle.pg_frames.proofs.RelayPassedLemmas.{with_held}
use Rattle.pg_frames.proofs.relay.pass.pass_piece.Given as goal

-- what was added for the piece so far, as if the relay held the rest, and what is kept
abbrev pub invariant-loop-rest : goal.invariant-loop-rest
invariant-loop-rest g l =
    let acts = conduct_of g.U.Wants.wanted g.U.Answers.answers g.U.Answers.exhausts in
    record {
      keeps : Keeps acts (standing_of l.fn.user l.fn.relay l.fn.out) (standing_of l.user l.relay l.out);
      passed : HasAdded l.fn.out.items l.out.items (PassesOn g.U.Wants.wanted g.U.Answers.answers l.fn.user l.fn.relay l.fn.piece l.user (with_held l.relay l.rest));
      held : length l.rest < length l.fn.piece → HoldsWanted acts (standing_of l.user l.relay l.out);
      ends : Ends l.rest l.fn.piece;
    }

abbrev pub decreases-loop-rest : goal.decreases-loop-rest
decreases-loop-rest g l = length l.rest
