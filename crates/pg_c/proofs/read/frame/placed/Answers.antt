use Rattle.std.proofs.Common.{refl, ◌≤◌, ◌+◌, length, drop, arith}
use Rattle.std.proofs.lemmas.List.{length-drop}
use Rattle.pg_c.proofs.ReadFrameLemmas.{frame_at, frame_inside}
use Rattle.pg_c.proofs.read.frame.placed.Goals as goal

pub returns-clause-stands : goal.returns-clause-stands
returns-clause-stands c =
    let frame = c.args.frame.now in
    let found = frame_at c.args.stream.now c.args.at frame.tag frame.body.now frame.rest.now c.requires.within c.requires.begins in
    record { body = frame.body.now; begins = rw found.1 c.requires.begins; place = found.0; all = refl }

pub returns-clause-inside : goal.returns-clause-inside
returns-clause-inside c =
    let frame = c.args.frame.now in
    let inside : 5 + length frame.body.now ≤ length (drop c.args.at c.args.stream.now) = frame_inside (drop c.args.at c.args.stream.now) frame.tag frame.body.now frame.rest.now c.requires.begins in
    omega (arith, inside, c.requires.within, length-drop c.args.at c.args.stream.now)
