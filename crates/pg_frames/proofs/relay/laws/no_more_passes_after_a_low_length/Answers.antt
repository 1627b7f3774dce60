use Rattle.pg_frames.proofs.RelayOneWayLemmas.{low_stops}
use Rattle.pg_frames.proofs.relay.laws.no_more_passes_after_a_low_length.Goals as goal

pub returns : goal.returns
returns g c = λ start first before rest a b u v r s announced. low_stops g.U.Wants.wanted g.U.Answers.answers start first before rest a b u v r s announced
