use Rattle.pg_frames.proofs.RelayOneWayLemmas.{one_passage}
use Rattle.pg_frames.proofs.relay.laws.frames_come_however_they_are_cut.Goals as goal

pub returns : goal.returns
returns g c = λ start first bytes a b u v r s. one_passage g.U.Wants.wanted g.U.Answers.answers start first bytes a b u v r s
