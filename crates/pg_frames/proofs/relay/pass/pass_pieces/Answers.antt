use Rattle.std.proofs.Common.{◌≡◌, take, arith}
use Rattle.std.proofs.lemmas.List.{take_all}
use Rattle.std.proofs.lemmas.Result.{err_from_is_err_and}
use Rattle.pg_frames.specs.Relay.Pass.{conduct_of, standing_of}
use Rattle.pg_frames.proofs.RelayKeepsLemmas.{keeps_same, keeps_more, passed_none, passed_piece}
use Rattle.pg_frames.proofs.RelayPassStopsLemmas.{stops_in}
use Rattle.pg_frames.proofs.relay.pass.pass_pieces.Goals as goal

pub loop-piece-init : goal.loop-piece-init
loop-piece-init g c =
    let acts = conduct_of g.U.Wants.wanted g.U.Answers.answers g.U.Answers.exhausts in
    let at = standing_of c.args.user.now c.args.relay.now c.args.out.now in
    record { keeps = keeps_same acts at; passed = passed_none acts at }

pub loop-piece-preserved : goal.loop-piece-preserved
loop-piece-preserved g c =
    let acts = conduct_of g.U.Wants.wanted g.U.Answers.answers g.U.Answers.exhausts in
    let before = c.loop-piece in
    let old = standing_of c.args.user.now c.args.relay.now c.args.out.now in
    let at = standing_of before.user before.relay before.out in
    let new = standing_of c.pass_piece.new.user c.pass_piece.new.relay c.pass_piece.new.out in
    let called = c.in_ok-pass_piece.ensures in
    record {
      keeps = keeps_more acts old at new before.invariant.keeps called.keeps;
      passed = passed_piece acts old at c.args.pieces.now before.piece-index _ new c.loop-piece-test.true before.invariant.passed called.keeps called.passed;
    }

pub returns-clause-passed : goal.returns-clause-passed
returns-clause-passed g c =
    let last = c.loop-piece in
    let all : take last.piece-index c.args.pieces.now ≡ c.args.pieces.now = take_all last.piece-index c.args.pieces.now (omega arith) in
    rw all at last.invariant.passed

pub returns-in_err-pass_piece-clause-keeps : goal.returns-in_err-pass_piece-clause-keeps
returns-in_err-pass_piece-clause-keeps g c =
    let acts = conduct_of g.U.Wants.wanted g.U.Answers.answers g.U.Answers.exhausts in
    let before = c.loop-piece in
    keeps_more acts (standing_of c.args.user.now c.args.relay.now c.args.out.now) (standing_of before.user before.relay before.out) (standing_of c.pass_piece.new.user c.pass_piece.new.relay c.pass_piece.new.out) before.invariant.keeps c.in_err-pass_piece.ensures.keeps

pub returns-in_err-pass_piece-clause-stops : goal.returns-in_err-pass_piece-clause-stops
returns-in_err-pass_piece-clause-stops g c =
    let acts = conduct_of g.U.Wants.wanted g.U.Answers.answers g.U.Answers.exhausts in
    let p = err_from_is_err_and c.from_residual.result c.from_residual.ensures.1 in
    let before = c.loop-piece in
    rw (p.1, p.2) (stops_in acts (standing_of c.args.user.now c.args.relay.now c.args.out.now) c.args.pieces.now before.piece-index _ (standing_of before.user before.relay before.out) (standing_of c.pass_piece.new.user c.pass_piece.new.relay c.pass_piece.new.out) c.in_err-pass_piece.field-0.0 c.loop-piece-test.true before.invariant.passed c.in_err-pass_piece.ensures.stops)
