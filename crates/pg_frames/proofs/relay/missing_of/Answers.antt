use Rattle.std.proofs.Common.{arith, ◌++◌}
use Rattle.pg_frames.proofs.RelayHeadLemmas.{head_stays, one_head}
use Rattle.pg_frames.proofs.RelayLemmas.{unfinished_counts, unfinished_has_no_fault}
use Rattle.pg_frames.proofs.relay.missing_of.Goals as goal

pub overflow_sub-result : goal.overflow_sub-result
overflow_sub-result c =
    let head = c.in-Ok-Some.head in
    let known = rw c.in-Ok-Some.field-0-is at c.in-Ok-Some.ensures.known in
    omega (arith, unfinished_counts c.requires.0 c.args.expects c.args.held.now head.tag head.count c.requires.1 known)

pub returns-in-Ok-Some-clause-some : goal.returns-in-Ok-Some-clause-some
returns-in-Ok-Some-clause-some c =
    let head = c.in-Ok-Some.head in
    let known = rw c.in-Ok-Some.field-0-is at c.in-Ok-Some.ensures.known in
    omega (arith, unfinished_counts c.requires.0 c.args.expects c.args.held.now head.tag head.count c.requires.1 known)

pub returns-in-Ok-Some-clause-within : goal.returns-in-Ok-Some-clause-within
returns-in-Ok-Some-clause-within c = λ more tag count h.
    let head = c.in-Ok-Some.head in
    let held = c.args.held.now in
    let known = rw c.in-Ok-Some.field-0-is at c.in-Ok-Some.ensures.known in
    let one = one_head c.args.expects (held ++ more) head.tag tag head.count count (head_stays c.args.expects held more head.tag head.count known) h in
    omega (arith, one.1, unfinished_counts c.requires.0 c.args.expects held head.tag head.count c.requires.1 known)

pub unreachable-requires : goal.unreachable-requires
unreachable-requires c =
    unfinished_has_no_fault c.requires.0 c.args.expects c.args.held.now c.in-Err.field-0 c.requires.1 c.in-Err.ensures.fault
