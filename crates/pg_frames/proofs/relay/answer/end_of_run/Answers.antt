use Rattle.std.proofs.Common.{◌≡◌, ◌<◌, ◌++◌, length, sym, ap, ◌∙◌}
use Rattle.std.proofs.lemmas.List.{take-append-drop, length-take-le}
use Rattle.pg_frames.specs.Relay.Head.{IsFrame}
use Rattle.pg_frames.proofs.RelayLemmas.{frame_here}
use Rattle.pg_frames.proofs.RelayRunLemmas.{run_more, run_less, some_bytes, unknown_is_no_run, fault_is_no_run, short_is_no_run}
use Rattle.pg_frames.proofs.relay.answer.end_of_run.Goals as goal

pub returns-in-Ok-None-clause-none : goal.returns-in-Ok-None-clause-none
returns-in-Ok-None-clause-none c = λ last run.
    let rest = c.loop-rest.rest.now in
    let some : 0 < length rest = some_bytes rest c.is_empty.result c.is_empty.ensures c.loop-rest-test.true in
    unknown_is_no_run c.loop-rest.state rest last some (rw c.in-Ok-None.field-0-is at c.in-Ok-None.ensures.unknown) (c.loop-rest.invariant.to_rest last run)

pub returns-in-Err-clause-none : goal.returns-in-Err-clause-none
returns-in-Err-clause-none c = λ last run.
    let rest = c.loop-rest.rest.now in
    let some : 0 < length rest = some_bytes rest c.is_empty.result c.is_empty.ensures c.loop-rest-test.true in
    fault_is_no_run c.loop-rest.state rest last c.in-Err.field-0 some c.in-Err.ensures.fault (c.loop-rest.invariant.to_rest last run)

pub returns-in_default-clause-none : goal.returns-in_default-clause-none
returns-in_default-clause-none c = λ last run.
    let rest = c.loop-rest.rest.now in
    let some : 0 < length rest = some_bytes rest c.is_empty.result c.is_empty.ensures c.loop-rest-test.true in
    let head = c.in-Ok-Some.head in
    let known = rw c.in-Ok-Some.field-0-is at c.in-Ok-Some.ensures.known in
    short_is_no_run c.loop-rest.state rest last head.tag head.count some known (rw c.in_default.is at c.split_at_checked.ensures.cases) (c.loop-rest.invariant.to_rest last run)

pub loop-rest-preserved : goal.loop-rest-preserved
loop-rest-preserved c =
    let rest = c.loop-rest.rest.now in
    let state = c.loop-rest.state in
    let head = c.in-Ok-Some.head in
    let frame = c.in-Some.frame.now in
    let after = c.in-Some.after.now in
    let next = c.next_after-state.result in
    let known = rw c.in-Ok-Some.field-0-is at c.in-Ok-Some.ensures.known in
    let cases = c.in-Some.ensures.cases in
    let e : rest ≡ frame ++ after = rw (cases.1, cases.2) (sym (take-append-drop head.count rest)) in
    let counts : length frame ≡ head.count = ap length cases.1 ∙ length-take-le head.count rest cases.0 in
    let whole : IsFrame state head.tag frame next = frame_here state rest frame after head.tag head.count next known e counts c.next_after-state.ensures in
    record {
      from_rest = λ last run. c.loop-rest.invariant.from_rest last (run_more state rest frame after head.tag next last e whole run);
      to_rest = λ last run. run_less state rest frame after head.tag next last e whole (c.loop-rest.invariant.to_rest last run);
    }
