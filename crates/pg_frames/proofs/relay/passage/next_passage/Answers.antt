use Rattle.std.proofs.Common.{◌≡◌, ◌+◌, ◌-◌, ◌<◌, ◌≤◌, ℕ, min, Bool, List, length, take, drop, Option, inl, inr, refl, sym, arith, rules}
use Rattle.std.proofs.lemmas.List.{take-append-drop, length-take-le}
use Rattle.pg_frames.specs.declared.frontend.frame.Expects.{Expects}
use Rattle.pg_frames.specs.Relay.Head.{IsNext, head_length}
use Rattle.pg_frames.specs.Relay.Passage.{PassesWhole, PassesPart}
use Rattle.pg_frames.specs.Relay.{IsForParts, IsForWhole}
use Rattle.pg_frames.proofs.RelayHeadLemmas.{head_positive, head_fits}
use Rattle.pg_frames.proofs.RelayLemmas.{frame_here, parts_here}
use Rattle.pg_frames.proofs.relay.passage.next_passage.Goals as goal

-- What is at the front of a stream whose bytes its caller keeps.

-- the front of a frame that goes out in parts
passes_part : (wants : ℕ → ℕ → Bool) (limit : ℕ) (state : Expects) (left : ℕ) (stream : List ℕ) (count : ℕ) → left ≡ 0 → IsForParts wants state stream count → PassesPart wants limit state left stream (min count (length stream)) (count - min count (length stream))
passes_part wants limit state left stream count between p =
    let n = min count (length stream) in
    let fits = head_fits state stream p.tag count p.head in
    let within : n ≤ length stream = omega arith in
    let long : length (take n stream) ≡ n = length-take-le n stream within in
    let least : head_length state ≤ length (take n stream) = omega (arith, long, fits.0, fits.1) in
    let counts : length (take n stream) + (count - n) ≡ count = omega (arith, long) in
    record {
      some = omega (arith, long, least, head_positive state);
      within = within;
      comes = record { place = inl (record { between = between; count = count; parts = parts_here wants state stream (take n stream) (drop n stream) count p (sym (take-append-drop n stream)) least; counts = counts }); expects = refl; nothing = refl; left_is = refl };
      all = λ more. omega (arith, more);
    }

-- more of one
passes_on : (wants : ℕ → ℕ → Bool) (limit : ℕ) (state : Expects) (left : ℕ) (stream : List ℕ) → 0 < left → 0 < length stream → PassesPart wants limit state left stream (min left (length stream)) (left - min left (length stream))
passes_on wants limit state left stream more some =
    let n = min left (length stream) in
    let within : n ≤ length stream = omega arith in
    let long : length (take n stream) ≡ n = length-take-le n stream within in
    let counts : length (take n stream) + (left - n) ≡ left = omega (arith, long) in
    record {
      some = omega (arith, more, some);
      within = within;
      comes = record { place = inr (record { within = more; counts = counts }); expects = refl; nothing = refl; left_is = refl };
      all = λ rest. omega (arith, rest);
    }

-- a whole frame
passes_whole : (wants : ℕ → ℕ → Bool) (limit : ℕ) (state : Expects) (left : ℕ) (stream : List ℕ) (tag : Option ℕ) (count : ℕ) (next : Expects) → left ≡ 0 → count ≤ length stream → IsForWhole wants limit state stream tag count → IsNext state (take count stream) next → PassesWhole wants limit state left stream tag count next
passes_whole wants limit state left stream tag count next between within w follows =
    let counts : length (take count stream) ≡ count = length-take-le count stream within in
    record {
      within = within;
      comes = record { between = between; is_frame = frame_here state stream (take count stream) (drop count stream) tag count next w.head (sym (take-append-drop count stream)) counts follows; taken = rw counts w.taken; nothing = refl; left = refl };
    }

pub returns-in-Parts-clause-passage : goal.returns-in-Parts-clause-passage
returns-in-Parts-clause-passage g c =
    let parts = rw c.in-Parts.is at c.in_ok-fate_of.ensures.fate in
    rw c.part_of-in-Parts.ensures (passes_part (g.W.Wants.wanted c.args.wants.now) c.args.limit c.args.expects c.args.left c.args.stream.now c.in-Parts.count (omega arith) parts)

pub returns-else-stream-count-clause-passage : goal.returns-else-stream-count-clause-passage
returns-else-stream-count-clause-passage g c =
    let whole = rw c.in-Whole.is at c.in_ok-fate_of.ensures.fate in
    passes_whole (g.W.Wants.wanted c.args.wants.now) c.args.limit c.args.expects c.args.left c.args.stream.now c.in-Whole.tag c.in-Whole.count _ (omega arith) (omega arith) whole (search rules)
