-- What has passed, after one more step.
use Rattle.std.proofs.Common.{◌≡◌, ◌+◌, ◌<◌, ℕ, zero, suc, Bool, List, [], ◌∷◌, ◌++◌, length, take, get_or, add-one, Option, inl, inr, refl, sym, ap, ◌∙◌, append_assoc, append-nil, arith}
use Rattle.std.specs.Borrow.{Bor}
use Rattle.std.proofs.Math.Seq.{take-suc}
use Rattle.pg_frames.specs.Pieces.{joined}
use Rattle.pg_frames.proofs.PiecesLemmas.{joined-append}
use Rattle.pg_frames.specs.declared.frontend.frame.Expects.{Expects}
use Rattle.pg_frames.specs.Relay.Answer.{bytes_in, placed}
use Rattle.pg_frames.specs.Relay.Head.{HasHead, IsFrame}
use Rattle.pg_frames.specs.Relay.Pass.{HasAdded, HasPassed, PassesOn, PutsAnswer, PutsOut}
use Rattle.pg_frames.specs.Relay.{Relaying, bytes_of, ComesWhole, ComesInParts, Holds, Takes, relay_at}
use Rattle.pg_frames.specs.declared.relay.answer.Answer.{Answer}
use Rattle.pg_frames.specs.declared.relay.event.Event.{Event}
use Rattle.pg_frames.specs.declared.relay.event.Event.TheVariants.{Frame, Part, Held}
use Rattle.pg_frames.proofs.RelayPassLemmas.{bytes_in-append, bytes_in-one, goes_out, relayed_more, nothing_given, unasked_next, part_goes_on}

-- the relay as it will be when it has taken a piece, all of which it holds
abbrev pub with_held : Relaying → List ℕ → Relaying
with_held relay piece = relay_at relay.limit relay.expects (relay.held ++ piece) relay.left

passed_held : {U : Type 0} (wanted : U → ℕ → ℕ → Bool) (Answers : U → Option ℕ → List ℕ → Answer → List ℕ → U → Type 0) (start : Expects) (first : U) (bytes out : List ℕ) (user : U) (old : Relaying) (piece rest : List ℕ) (new : Relaying) (later : U) (after : List ℕ) → HasPassed wanted Answers start first bytes out user (with_held old piece) → new.limit ≡ old.limit → old.held ++ piece ≡ new.held ++ rest → Holds (wanted user) old new → later ≡ user → after ≡ out → HasPassed wanted Answers start first bytes after later (with_held new rest)
passed_held wanted Answers start first bytes out user old piece rest new later after p limits conserved h same is = record {
  came = p.came;
  sent = p.sent;
  given = p.given;
  relayed = rw (limits, h.expects, same) p.relayed;
  bytes_are = p.bytes_are ∙ ap (λ (l : List ℕ). bytes_in p.came ++ (p.given ++ l)) conserved;
  out_is = is ∙ p.out_is;
  part = inl (nothing_given (wanted user) old.expects p.given old.left h.between p.part, h.left);
}

passed_frame : {U : Type 0} (wanted : U → ℕ → ℕ → Bool) (Answers : U → Option ℕ → List ℕ → Answer → List ℕ → U → Type 0) (start : Expects) (first : U) (bytes out : List ℕ) (user : U) (old : Relaying) (piece : List ℕ) (tag : Option ℕ) (frame rest : List ℕ) (new : Relaying) (later : U) (after : List ℕ) → HasPassed wanted Answers start first bytes out user (with_held old piece) → new.limit ≡ old.limit → old.held ++ piece ≡ frame ++ new.held ++ rest → ComesWhole (wanted user) old tag frame new → PutsAnswer Answers user old.expects tag frame new.expects later out after → HasPassed wanted Answers start first bytes after later (with_held new rest)
passed_frame wanted Answers start first bytes out user old piece tag frame rest new later after p limits conserved w a =
    let m : Option ℕ × List ℕ = (tag, frame) in
    let go = goes_out a.answer old.expects m new.expects a.added a.fits in
    let nothing : p.given ≡ [] = nothing_given (wanted user) old.expects p.given old.left w.between p.part in
    let front = bytes_in p.came in
    let following = new.held ++ rest in
    let came : bytes ≡ front ++ (frame ++ following) =
    p.bytes_are ∙ ap (λ (g : List ℕ). front ++ (g ++ (old.held ++ piece))) nothing ∙ ap (λ (l : List ℕ). front ++ l) (conserved ∙ append_assoc frame new.held rest) in
    let sent : after ≡ bytes_in p.sent ++ placed a.answer frame a.added =
    a.out ∙ ap (λ (l : List ℕ). l ++ placed a.answer frame a.added) (p.out_is ∙ ap (λ (g : List ℕ). bytes_in p.sent ++ g) nothing ∙ append-nil (bytes_in p.sent)) in
    record {
      came = p.came ++ m ∷ [];
      sent = p.sent ++ go.0;
      given = [];
      relayed = rw limits (relayed_more wanted Answers old.limit start first p.came p.sent old.expects user m new.expects later go.0 p.relayed w.is_frame (inl (record { asked = w.taken; answer = a.answer; added = a.added; answers = a.answers; go_out = go.1 })));
      bytes_are = came ∙ sym (append_assoc front frame following) ∙ ap (λ (l : List ℕ). l ++ following) (sym (bytes_in-one p.came m));
      out_is = sent ∙ ap (λ (l : List ℕ). bytes_in p.sent ++ l) (sym go.2) ∙ sym (bytes_in-append p.sent go.0) ∙ sym (append-nil (bytes_in (p.sent ++ go.0)));
      part = inl (refl, w.left);
    }

passed_part : {U : Type 0} (wanted : U → ℕ → ℕ → Bool) (Answers : U → Option ℕ → List ℕ → Answer → List ℕ → U → Type 0) (start : Expects) (first : U) (bytes out : List ℕ) (user : U) (old : Relaying) (piece b : List ℕ) (left : ℕ) (rest : List ℕ) (new : Relaying) (later : U) (after : List ℕ) → HasPassed wanted Answers start first bytes out user (with_held old piece) → new.limit ≡ old.limit → old.held ++ piece ≡ b ++ new.held ++ rest → ComesInParts (wanted user) old b left new → later ≡ user → after ≡ out ++ b → HasPassed wanted Answers start first bytes after later (with_held new rest)
passed_part wanted Answers start first bytes out user old piece b zero rest new later after p limits conserved w same is =
    let more = part_goes_on (wanted user) old p.given b 0 p.part w.place in
    let all = p.given ++ b in
    let m : Option ℕ × List ℕ = (more.0, all) in
    let counts : more.1 ≡ length all = omega (arith, more.4) in
    let head : HasHead old.expects all more.0 (length all) = rw counts at more.2 in
    let whole : IsFrame old.expects more.0 all new.expects = record { head = head; follows = rw w.expects (unasked_next (wanted user) old.expects all more.0 more.1 more.2 more.3) } in
    let front = bytes_in p.came in
    let following = new.held ++ rest in
    let came : bytes ≡ front ++ (all ++ following) =
    p.bytes_are ∙ ap (λ (l : List ℕ). front ++ (p.given ++ l)) (conserved ∙ append_assoc b new.held rest) ∙ ap (λ (l : List ℕ). front ++ l) (sym (append_assoc p.given b following)) in
    let sent : after ≡ bytes_in p.sent ++ all = is ∙ ap (λ (l : List ℕ). l ++ b) p.out_is ∙ append_assoc (bytes_in p.sent) p.given b in
    record {
      came = p.came ++ m ∷ [];
      sent = p.sent ++ m ∷ [];
      given = [];
      relayed = rw limits (relayed_more wanted Answers old.limit start first p.came p.sent old.expects user m new.expects later (m ∷ []) p.relayed whole (inr (record { unasked = rw counts at more.3; same = same; goes_out = refl })));
      bytes_are = came ∙ sym (append_assoc front all following) ∙ ap (λ (l : List ℕ). l ++ following) (sym (bytes_in-one p.came m));
      out_is = sent ∙ sym (bytes_in-one p.sent m) ∙ sym (append-nil (bytes_in (p.sent ++ m ∷ [])));
      part = inl (refl, w.left_is);
    }
passed_part wanted Answers start first bytes out user old piece b (suc k) rest new later after p limits conserved w same is =
    let more = part_goes_on (wanted user) old p.given b (suc k) p.part w.place in
    let front = bytes_in p.came in
    let following = new.held ++ rest in
    record {
      came = p.came;
      sent = p.sent;
      given = p.given ++ b;
      relayed = rw (limits, w.expects, same) p.relayed;
      bytes_are = p.bytes_are ∙ ap (λ (l : List ℕ). front ++ (p.given ++ l)) (conserved ∙ append_assoc b new.held rest) ∙ ap (λ (l : List ℕ). front ++ l) (sym (append_assoc p.given b following));
      out_is = is ∙ ap (λ (l : List ℕ). l ++ b) p.out_is ∙ append_assoc (bytes_in p.sent) p.given b;
      part = inr (rw (same, w.expects, w.left_is) (record { tag = more.0; count = more.1; head = more.2; unwanted = more.3; counts = more.4; more = omega arith }));
    }

passed_step : {U : Type 0} (wanted : U → ℕ → ℕ → Bool) (Answers : U → Option ℕ → List ℕ → Answer → List ℕ → U → Type 0) (start : Expects) (first : U) (bytes out : List ℕ) (user : U) (old : Relaying) (piece : List ℕ) (event : Event) (rest : List ℕ) (new : Relaying) (later : U) (after : List ℕ) → HasPassed wanted Answers start first bytes out user (with_held old piece) → Takes (wanted user) old piece event rest new → PutsOut Answers user old.expects event new.expects later out after → HasPassed wanted Answers start first bytes after later (with_held new rest)
passed_step wanted Answers start first bytes out user old piece (Frame tag frame) rest new later after p t o =
    passed_frame wanted Answers start first bytes out user old piece tag (bytes_of frame) rest new later after p t.limit t.conserved t.comes o
passed_step wanted Answers start first bytes out user old piece (Part part left) rest new later after p t o =
    passed_part wanted Answers start first bytes out user old piece (bytes_of part) left rest new later after p t.limit t.conserved t.comes o.0 o.1
passed_step wanted Answers start first bytes out user old piece Held rest new later after p t o =
    passed_held wanted Answers start first bytes out user old piece rest new later after p t.limit t.conserved t.comes o.0 o.1

-- a piece that comes is not yet taken
passed_fed : {U : Type 0} (wanted : U → ℕ → ℕ → Bool) (Answers : U → Option ℕ → List ℕ → Answer → List ℕ → U → Type 0) (start : Expects) (first : U) (bytes out : List ℕ) (user : U) (relay : Relaying) (piece : List ℕ) → HasPassed wanted Answers start first bytes out user relay → HasPassed wanted Answers start first (bytes ++ piece) out user (with_held relay piece)
passed_fed wanted Answers start first bytes out user relay piece p = record {
  came = p.came;
  sent = p.sent;
  given = p.given;
  relayed = p.relayed;
  bytes_are = ap (λ (l : List ℕ). l ++ piece) p.bytes_are ∙ append_assoc (bytes_in p.came) (p.given ++ relay.held) piece ∙ ap (λ (l : List ℕ). bytes_in p.came ++ l) (append_assoc p.given relay.held piece);
  out_is = p.out_is;
  part = p.part;
}

-- what goes out for a step is the same after any bytes
puts_added : {U : Type 0} (Answers : U → Option ℕ → List ℕ → Answer → List ℕ → U → Type 0) (user : U) (state : Expects) (event : Event) (next : Expects) (later : U) (old new : List ℕ) → PutsOut Answers user state event next later old new → HasAdded old new (λ (more : List ℕ). (sent : List ℕ) → PutsOut Answers user state event next later sent (sent ++ more))
puts_added Answers user state (Frame tag frame) next later old new p = record {
  added = placed p.answer (bytes_of frame) p.added;
  adds = p.out;
  are = λ sent. record { answer = p.answer; added = p.added; answers = p.answers; fits = p.fits; out = refl };
}
puts_added Answers user state (Part part left) next later old new p = record { added = bytes_of part; adds = p.1; are = λ sent. (p.0, refl) }
puts_added Answers user state Held next later old new p = record { added = []; adds = p.1 ∙ sym (append-nil old); are = λ sent. (p.0, append-nil sent) }

-- at first nothing is added, and the relay has a piece to take
pub added_first : {U : Type 0} (wanted : U → ℕ → ℕ → Bool) (Answers : U → Option ℕ → List ℕ → Answer → List ℕ → U → Type 0) (user : U) (relay : Relaying) (piece out : List ℕ) → HasAdded out out (PassesOn wanted Answers user relay piece user (with_held relay piece))
added_first wanted Answers user relay piece out = record {
  added = [];
  adds = sym (append-nil out);
  are = λ start first before sent p. rw (append-nil sent) (passed_fed wanted Answers start first before sent user relay piece p);
}

-- after one more step
pub added_step : {U : Type 0} (wanted : U → ℕ → ℕ → Bool) (Answers : U → Option ℕ → List ℕ → Answer → List ℕ → U → Type 0) (user : U) (relay : Relaying) (piece old out : List ℕ) (by : U) (at : Relaying) (rest : List ℕ) (event : Event) (after : List ℕ) (new : Relaying) (later : U) (more : List ℕ) → HasAdded old out (PassesOn wanted Answers user relay piece by (with_held at rest)) → Takes (wanted by) at rest event after new → PutsOut Answers by at.expects event new.expects later out more → HasAdded old more (PassesOn wanted Answers user relay piece later (with_held new after))
added_step wanted Answers user relay piece old out by at rest event after new later more p t o =
    let puts = puts_added Answers by at.expects event new.expects later out more o in
    record {
      added = p.added ++ puts.added;
      adds = puts.adds ∙ ap (λ (l : List ℕ). l ++ puts.added) p.adds ∙ append_assoc old p.added puts.added;
      are = λ start first before sent q.
          let went : sent ++ (p.added ++ puts.added) ≡ (sent ++ p.added) ++ puts.added = sym (append_assoc sent p.added puts.added) in
          rw went (passed_step wanted Answers start first (before ++ piece) (sent ++ p.added) by at rest event after new later ((sent ++ p.added) ++ puts.added) (p.are start first before sent q) t (puts.are (sent ++ p.added)));
    }

-- nothing has passed where nothing came
pub added_none : {U : Type 0} (wanted : U → ℕ → ℕ → Bool) (Answers : U → Option ℕ → List ℕ → Answer → List ℕ → U → Type 0) (user : U) (relay : Relaying) (out : List ℕ) → HasAdded out out (PassesOn wanted Answers user relay [] user relay)
added_none wanted Answers user relay out = record { added = []; adds = sym (append-nil out); are = λ start first before sent p. rw (append-nil before, append-nil sent) p }

-- some bytes have passed, and then more
pub added_more : {U : Type 0} (wanted : U → ℕ → ℕ → Bool) (Answers : U → Option ℕ → List ℕ → Answer → List ℕ → U → Type 0) (user : U) (relay : Relaying) (bytes old out : List ℕ) (by : U) (at : Relaying) (more new : List ℕ) (later : U) (after : Relaying) → HasAdded old out (PassesOn wanted Answers user relay bytes by at) → HasAdded out new (PassesOn wanted Answers by at more later after) → HasAdded old new (PassesOn wanted Answers user relay (bytes ++ more) later after)
added_more wanted Answers user relay bytes old out by at more new later after p q = record {
  added = p.added ++ q.added;
  adds = q.adds ∙ ap (λ (l : List ℕ). l ++ q.added) p.adds ∙ append_assoc old p.added q.added;
  are = λ start first before sent h.
      let came : before ++ (bytes ++ more) ≡ (before ++ bytes) ++ more = sym (append_assoc before bytes more) in
      let went : sent ++ (p.added ++ q.added) ≡ (sent ++ p.added) ++ q.added = sym (append_assoc sent p.added q.added) in
      rw (came, went) (q.are start first (before ++ bytes) (sent ++ p.added) (p.are start first before sent h));
}

-- one more piece
pub joined_piece : (pieces : List (Bor (List ℕ))) (i : ℕ) (d : Bor (List ℕ)) → i < length pieces → joined (take (i + 1) pieces) ≡ joined (take i pieces) ++ (get_or pieces i d).now
joined_piece pieces i d lt =
    let piece = get_or pieces i d in
    let fronts : take (i + 1) pieces ≡ take i pieces ++ piece ∷ [] = rw add-one (take-suc pieces i d lt) in
    ap joined fronts ∙ joined-append (take i pieces) (piece ∷ []) ∙ ap (λ (l : List ℕ). joined (take i pieces) ++ l) (append-nil piece.now)
