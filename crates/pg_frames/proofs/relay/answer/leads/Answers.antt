use Rattle.pg_frames.proofs.RelayRunLemmas.{one_end_of_run}
use Rattle.pg_frames.proofs.relay.answer.leads.Goals as goal

pub returns-in-Some : goal.returns-in-Some
returns-in-Some c =
    let run = c.in-Some.ensures.run in
    (λ same. rw (c.is_same.ensures.0 same) at run, λ other. c.is_same.ensures.1 (one_end_of_run c.args.expects c.args.bytes.now c.in-Some.end c.args.last run other))

pub returns-in-None : goal.returns-in-None
returns-in-None c = (λ clash. absurd cc, λ run. absurd (c.in-None.ensures.none c.args.last run))
