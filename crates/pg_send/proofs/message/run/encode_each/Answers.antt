use Rattle.std.proofs.Common.{◌≡◌, ℕ, ◌+◌, ◌<◌, List, ◌∷◌, [], ◌++◌, length, take, set, get_or, Ok, refl, sym, subst, ap, ◌∙◌, arith, Vec, Global}
use Rattle.std.proofs.lemmas.Bool.{OnTrue_at, OnFalse_at}
use Rattle.std.proofs.lemmas.Grind.{take-set_at}
use Rattle.std.proofs.lemmas.List.{take_all, length-set, set-get_or, get_or-set_other}
use Rattle.pg_send.specs.Run.{Answer, IsAnswerOf, EncodesOne}
use Rattle.pg_send.specs.Message.{message_of, messages_of}
use Rattle.pg_send.proofs.RunLemmas.{AnswersOne, answers_fit, ran_at, run_ran}
use Rattle.pg_send.proofs.message.run.encode_each.Goals as goal
use Rattle.pg_send.proofs.message.run.encode_each.Goals.{then-not-put_by_rule, else-not-put_by_rule}

-- an answer that accepts is set where one stood
set_accepted : (answers : List Answer) (i : ℕ) → get_or answers i (Ok (tt {0})) ≡ Ok (tt {0}) → set answers i (Ok (tt {0})) ≡ answers
set_accepted answers i is = ap (set answers i) (sym is) ∙ set-get_or answers i (Ok (tt {0}))

pub loop-index-preserved : goal.loop-index-preserved
loop-index-preserved c =
    let before = c.loop-index.invariant in
    let i = c.loop-index.index in
    let answers = c.loop-index.answers in
    let m = message_of c.index-messages-index.result in
    let within : i < length answers = omega (arith, c.loop-index-test.true, before.one_each) in
    let one : AnswersOne (IsAnswerOf c.args.strict) m i answers c.if-not-put_by_rule.answers c.loop-index.buf c.if-not-put_by_rule.buf = elim c.if-not-put_by_rule.branch [
      | then-not-put_by_rule w ↦ record {
        answer = w.encode_unfit.result;
        sets = w.answers-is;
        encodes = subst (λ (new : Vec ℕ Global). EncodesOne (IsAnswerOf c.args.strict) m w.encode_unfit.result c.loop-index.buf new) (sym w.buf-is)
            (subst (λ (old : Vec ℕ Global). EncodesOne (IsAnswerOf c.args.strict) m w.encode_unfit.result old w.encode_unfit.new.buf) (OnFalse_at w.if-not-put_by_rule.true c.put_by_rule.ensures.same) w.encode_unfit.ensures);
      }
      | else-not-put_by_rule w ↦ record {
        answer = Ok tt;
        sets = w.answers-is ∙ sym (set_accepted answers i (before.accepted i (omega arith) within));
        encodes = subst (λ (new : Vec ℕ Global). EncodesOne (IsAnswerOf c.args.strict) m (Ok tt) c.loop-index.buf new) (sym w.buf-is) (OnTrue_at w.if-not-put_by_rule.false c.put_by_rule.ensures.put);
      }
    ] in
    let encodes = one.encodes in
    let found : take (i + 1) c.if-not-put_by_rule.answers ≡ take i answers ++ one.answer ∷ [] = ap (take (i + 1)) one.sets ∙ take-set_at answers i (i + 1) one.answer refl within in
    record {
      run = rw found
          (ran_at (IsAnswerOf c.args.strict) (answers_fit c.args.strict) c.args.messages.now i c.index-messages-index.result c.loop-index-test.true c.index-messages-index.is
          (take i answers) one.answer c.args.buf.now.items c.loop-index.buf.items c.if-not-put_by_rule.buf.items _ _ _
          (record { ok = encodes.ok; err = encodes.err; answer = encodes.is; reads = encodes.round_trip; short = λ e. omega (arith, encodes.memory e, c.loop-index.buf.ok.0) })
          (omega (arith, c.args.buf.now.ok.0)) before.grows before.run);
      grows = omega (arith, before.grows, encodes.capacity);
      one_each = ap length one.sets ∙ length-set answers i one.answer ∙ before.one_each;
      accepted = λ k after last. ap (λ l. get_or l k (Ok (tt {0}))) one.sets ∙ get_or-set_other answers i k one.answer _ (λ e. omega (arith, e, after))
          ∙ before.accepted k (omega (arith, after)) (omega (arith, last, ap length one.sets, length-set answers i one.answer));
    }

pub returns : goal.returns
returns c =
    let last = c.loop-index.invariant in
    let run = rw (take_all c.loop-index.index c.args.messages.now c.loop-index-test.false, take_all c.loop-index.index c.loop-index.answers (omega (arith, last.one_each, c.loop-index-test.false))) at last.run in
    run_ran (IsAnswerOf c.args.strict) (answers_fit c.args.strict) (messages_of c.args.messages.now) c.loop-index.answers c.args.buf.now c.loop-index.buf run.answered run.short run.adds run.read last.grows
