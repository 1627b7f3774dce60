use Rattle.pg_frames.proofs.relay.Relay.next.Goals as goal

pub returns-then-self-gt0-clause-takes : goal.returns-then-self-gt0-clause-takes
returns-then-self-gt0-clause-takes g c = c.next_part.ensures (g.W.Wants.wanted c.args.wants.now)
