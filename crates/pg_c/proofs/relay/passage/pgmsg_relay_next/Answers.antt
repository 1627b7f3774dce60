use Rattle.std.proofs.Common.{◌≡◌, ℕ, Bool, true, false, List, take, drop, get_or, Option, None, Some, inl, inr, refl, arith}
use Rattle.std.proofs.lemmas.List.{take-append-drop}
use Rattle.pg_frames.specs.declared.frontend.frame.Expects.{Expects}
use Rattle.pg_frames.specs.declared.frontend.frame.Expects.TheVariants as expects
use Rattle.pg_frames.specs.Relay.Head.{HasHead}
use Rattle.pg_frames.specs.Relay.Passage.{PassesPart}
use Rattle.pg_frames.specs.Relay.{is_wanted}
use Rattle.pg_frames.proofs.RelayHeadLemmas.{head_stays}
use Rattle.pg_c.specs.Relay.{expected}
use Rattle.pg_c.specs.Relay.Passage.{is_asked}
use Rattle.pg_c.proofs.relay.passage.pgmsg_relay_next.Goals as goal
use Rattle.pg_c.proofs.relay.passage.pgmsg_relay_next.Goals.{then-relay-eq0, else-relay-eq0}

-- The tag of a message that goes out in parts is the first byte of the stream.
tag_first : (wants : ℕ → ℕ → Bool) (state : Expects) (stream : List ℕ) (tag : Option ℕ) (count : ℕ) → HasHead state stream tag count → is_wanted wants tag count ≡ false → HasHead state stream (Some (get_or stream 0 0)) count
tag_first wants expects.First stream None count h e = absurd (let clash : true ≡ false = e in cc)
tag_first wants expects.First stream (Some t) count h e = absurd h
tag_first wants expects.Tagged stream None count h e = absurd h
tag_first wants expects.Tagged stream (Some t) count h e =
    let same : get_or stream 0 0 ≡ t = rw h.announces.parts refl in
    rw same h

part_begins : (wants : ℕ → ℕ → Bool) (limit : ℕ) (state : Expects) (left : ℕ) (stream : List ℕ) (count more : ℕ) → left ≡ 0 → PassesPart wants limit state left stream count more → (whole : ℕ) × HasHead state stream (Some (get_or stream 0 0)) whole
part_begins wants limit state left stream count more between p = elim p.comes.place [
  | inl b ↦ (b.count, tag_first wants state stream b.parts.tag b.count (rw (take-append-drop count stream) at (head_stays state (take count stream) (drop count stream) b.parts.tag b.count b.parts.head)) b.parts.unwanted)
  | inr g ↦ absurd (omega (arith, between, g.within))
]

pub returns-after-relay-eq0-clause-part : goal.returns-after-relay-eq0-clause-part
returns-after-relay-eq0-clause-part c = λ _.
    let part = c.in-Ok-Part in
    let old = c.args.relay.now in
    let p = rw (part.field-0-is, c.expects_of-expects.ensures) at part.ensures.passage in
    elim c.if-relay-eq0.branch [
      | then-relay-eq0 w ↦
          let between = w.if-relay-eq0.true in
          rw (part.length-is, part.left-is, w.passage-is) (record { passes = p; begins = λ _. part_begins (is_asked c.args.wanted.now) old.limit (expected old.is_first) old.left c.args.stream.now part.length part.left between p; limit = refl; expects = refl })
      | else-relay-eq0 w ↦
          rw (part.length-is, part.left-is, w.passage-is) (record { passes = p; begins = λ between. absurd (w.if-relay-eq0.false between); limit = refl; expects = refl })
    ]

pub returns-after-relay-eq0-clause-part_tag : goal.returns-after-relay-eq0-clause-part_tag
returns-after-relay-eq0-clause-part_tag c = λ _ more.
    elim c.if-relay-eq0.branch [
      | then-relay-eq0 w ↦ absurd (omega (arith, more, w.if-relay-eq0.true))
      | else-relay-eq0 w ↦ rw w.passage-is refl
    ]
