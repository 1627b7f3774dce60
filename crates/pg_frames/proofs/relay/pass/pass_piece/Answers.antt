use Rattle.std.proofs.Common.{◌≡◌, ◌<◌, [], length, ap, append-nil, inl, inr, refl, arith}
use Rattle.std.proofs.lemmas.Result.{err_from_is_err_and}
use Rattle.pg_frames.specs.Relay.Pass.{conduct_of, standing_of}
use Rattle.pg_frames.proofs.RelayKeepsLemmas.{keeps_same, keeps_step, puts_same, step_wanted, stops_same}
use Rattle.pg_frames.proofs.RelayPassStopsLemmas.{ends_on, stops_here}
use Rattle.pg_frames.proofs.RelayPassedLemmas.{added_first, added_step}
use Rattle.pg_frames.proofs.RelayRunLemmas.{no_bytes, some_bytes}
use Rattle.pg_frames.proofs.relay.pass.pass_piece.Goals as goal

pub loop-rest-init : goal.loop-rest-init
loop-rest-init g c =
    let acts = conduct_of g.U.Wants.wanted g.U.Answers.answers g.U.Answers.exhausts in
    record {
      keeps = keeps_same acts (standing_of c.args.user.now c.args.relay.now c.args.out.now);
      passed = added_first g.U.Wants.wanted g.U.Answers.answers c.args.user.now c.args.relay.now c.args.piece.now c.args.out.now.items;
      held = λ less. absurd (omega (arith, less));
      ends = ([], refl);
    }

pub loop-rest-preserved : goal.loop-rest-preserved
loop-rest-preserved g c =
    let acts = conduct_of g.U.Wants.wanted g.U.Answers.answers g.U.Answers.exhausts in
    let before = c.loop-rest in
    let rest = before.rest.now in
    let event = c.in_ok-event.field-0.event in
    let after = c.in_ok-event.field-0.rest.now in
    let takes = c.in_ok-event.ensures.takes in
    let some : 0 < length rest = some_bytes rest c.is_empty.result c.is_empty.ensures c.loop-rest-test.true in
    let puts = rw (c.expects-expects.ensures, c.expects.ensures) at c.in_ok-put_out.ensures.puts in
    let same = puts_same acts before.user before.relay.expects event c.next.new.self.expects c.put_out.new.user before.out.items c.put_out.new.out.items puts in
    record {
      keeps = keeps_step acts (standing_of c.args.user.now c.args.relay.now c.args.out.now) (standing_of before.user before.relay before.out) rest event after c.next.new.self c.put_out.new.user c.put_out.new.out before.invariant.keeps takes same c.in_ok-put_out.ensures.capacity;
      passed = added_step g.U.Wants.wanted g.U.Answers.answers c.args.user.now c.args.relay.now c.args.piece.now c.args.out.now.items before.out.items before.user before.relay rest event after c.next.new.self c.put_out.new.user c.put_out.new.out.items before.invariant.passed takes puts;
      held = λ less. step_wanted acts before.user before.relay rest event after c.next.new.self c.put_out.new.user takes same;
      ends = ends_on (g.U.Wants.wanted before.user) before.relay c.args.piece.now rest event after c.next.new.self some before.invariant.ends takes;
    }

pub returns-clause-passed : goal.returns-clause-passed
returns-clause-passed g c =
    let last = c.loop-rest in
    let nothing : last.rest.now ≡ [] = no_bytes last.rest.now c.is_empty.result c.is_empty.ensures c.loop-rest-test.false in
    record {
      added = rw (nothing, append-nil last.relay.held) at last.invariant.passed;
      held = λ some. last.invariant.held (omega (arith, some, ap length nothing));
    }

pub returns-in_err-event-clause-keeps : goal.returns-in_err-event-clause-keeps
returns-in_err-event-clause-keeps g c = rw c.in_err-event.ensures.err c.loop-rest.invariant.keeps

pub returns-in_err-event-clause-stops : goal.returns-in_err-event-clause-stops
returns-in_err-event-clause-stops g c =
    let acts = conduct_of g.U.Wants.wanted g.U.Answers.answers g.U.Answers.exhausts in
    let p = err_from_is_err_and c.from_residual.result c.from_residual.ensures.1 in
    let before = c.loop-rest in
    let rest = before.rest.now in
    let some : 0 < length rest = some_bytes rest c.is_empty.result c.is_empty.ensures c.loop-rest-test.true in
    rw (p.1, p.2) (stops_here acts (standing_of c.args.user.now c.args.relay.now c.args.out.now) c.args.piece.now (standing_of before.user before.relay before.out) rest (standing_of before.user c.next.new.self before.out) c.in_err-event.field-0.0 before.invariant.ends some before.invariant.passed before.invariant.held refl (inl (record { is = c.in_err-event.ensures.error; user = refl; relay = c.in_err-event.ensures.err })))

pub returns-in_err-put_out-clause-keeps : goal.returns-in_err-put_out-clause-keeps
returns-in_err-put_out-clause-keeps g c =
    let acts = conduct_of g.U.Wants.wanted g.U.Answers.answers g.U.Answers.exhausts in
    let before = c.loop-rest in
    let event = c.in_ok-event.field-0.event in
    let next = c.next.new.self in
    let stops = rw (c.expects-expects.ensures, c.expects.ensures) at c.in_err-put_out.ensures.stops in
    let same = stops_same acts before.user before.relay.expects event next.expects c.put_out.new.user before.out.items c.put_out.new.out c.in_err-put_out.field-0.0 stops in
    keeps_step acts (standing_of c.args.user.now c.args.relay.now c.args.out.now) (standing_of before.user before.relay before.out) before.rest.now event c.in_ok-event.field-0.rest.now next c.put_out.new.user c.put_out.new.out before.invariant.keeps c.in_ok-event.ensures.takes same c.in_err-put_out.ensures.capacity

pub returns-in_err-put_out-clause-stops : goal.returns-in_err-put_out-clause-stops
returns-in_err-put_out-clause-stops g c =
    let acts = conduct_of g.U.Wants.wanted g.U.Answers.answers g.U.Answers.exhausts in
    let p = err_from_is_err_and c.from_residual-in_err-put_out.result c.from_residual-in_err-put_out.ensures.1 in
    let before = c.loop-rest in
    let rest = before.rest.now in
    let some : 0 < length rest = some_bytes rest c.is_empty.result c.is_empty.ensures c.loop-rest-test.true in
    let stops = rw (c.expects-expects.ensures, c.expects.ensures) at c.in_err-put_out.ensures.stops in
    rw (p.1, p.2) (stops_here acts (standing_of c.args.user.now c.args.relay.now c.args.out.now) c.args.piece.now (standing_of before.user before.relay before.out) rest (standing_of c.put_out.new.user c.next.new.self c.put_out.new.out) c.in_err-put_out.field-0.0 before.invariant.ends some before.invariant.passed before.invariant.held c.in_err-put_out.ensures.same (inr (record { event = c.in_ok-event.field-0.event; after = c.in_ok-event.field-0.rest.now; takes = c.in_ok-event.ensures.takes; is = stops })))
