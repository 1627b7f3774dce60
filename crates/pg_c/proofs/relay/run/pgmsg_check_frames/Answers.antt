use Rattle.pg_c.proofs.relay.run.pgmsg_check_frames.Goals as goal

pub returns-in_default-clause-none : goal.returns-in_default-clause-none
returns-in_default-clause-none c = λ _. rw c.expects_of.ensures at c.in_default.ensures.none
