use Rattle.pg_frames.proofs.RelayMessagesLemmas.{kept_passed}
use Rattle.pg_frames.proofs.relay.laws.what_is_kept_goes_out_as_it_came.Goals as goal

pub returns : goal.returns
returns g c = λ keeps start first user bytes out relay. kept_passed g.U.Wants.wanted g.U.Answers.answers keeps start first bytes out user relay
