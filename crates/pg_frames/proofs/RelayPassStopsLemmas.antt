-- Where passing on stops.
use Rattle.std.proofs.Common.{◌≡◌, ◌<◌, ◌≤◌, ◌⊎◌, ℕ, suc, Bool, List, [], ◌∷◌, ◌++◌, length, take, drop, get_or, Option, sym, ap, ◌∙◌, append_assoc, arith, length-append, drop-cons}
use Rattle.std.specs.Borrow.{Bor}
use Rattle.std.proofs.lemmas.List.{append_cancel_right, take-append-drop}
use Rattle.pg_frames.specs.Pieces.{joined}
use Rattle.pg_frames.specs.declared.frontend.frame.Expects.{Expects}
use Rattle.pg_frames.specs.Relay.Answer.{bytes_in}
use Rattle.pg_frames.specs.Relay.Pass.{Conduct, Standing, HoldsWanted, Passed, HasAdded, HasPassed, PassesOn}
use Rattle.pg_frames.specs.Relay.Pass.Stops.{StopsAtRelay, StopsAtEvent, Stops, StopsIn}
use Rattle.pg_frames.specs.Relay.{Relaying, passed, Takes}
use Rattle.pg_frames.specs.declared.relay.answer.Answer.{Answer}
use Rattle.pg_frames.specs.declared.relay.error.RelayError.{RelayError}
use Rattle.pg_frames.specs.declared.relay.event.Event.{Event}
use Rattle.pg_frames.proofs.RelayPassedLemmas.{with_held}

-- these bytes end a piece
abbrev pub Ends : List ℕ → List ℕ → Type 0
Ends rest piece = (front : List ℕ) × (piece ≡ front ++ rest)

-- what is left of what was held and a piece, and is no longer than the piece, ends it
left_ends : (held piece gone rest : List ℕ) → held ++ piece ≡ gone ++ rest → length rest ≤ length piece → Ends rest piece
left_ends [] piece gone rest e le = (gone, e)
left_ends (x ∷ xs) piece [] rest e le = absurd (omega (arith, ap length e, length-append xs piece, le))
left_ends (x ∷ xs) piece (y ∷ ys) rest e le =
    let all : x ∷ (xs ++ piece) ≡ y ∷ (ys ++ rest) = e in
    let tails : xs ++ piece ≡ ys ++ rest = cc in
    left_ends xs piece ys rest tails le

-- and what ends the end of a piece ends the piece
ends_more : (piece rest after : List ℕ) → Ends rest piece → Ends after rest → Ends after piece
ends_more piece rest after p q = (p.0 ++ q.0, p.1 ∙ ap (λ (l : List ℕ). p.0 ++ l) q.1 ∙ sym (append_assoc p.0 q.0 after))

taken_ends : (wants : ℕ → ℕ → Bool) (old : Relaying) (rest : List ℕ) (event : Event) (after : List ℕ) (new : Relaying) → 0 < length rest → Takes wants old rest event after new → Ends after rest
taken_ends wants old rest event after new some t =
    left_ends old.held rest (passed event ++ new.held) after t.conserved (omega (arith, t.goes_on some))

pub ends_on : (wants : ℕ → ℕ → Bool) (old : Relaying) (piece rest : List ℕ) (event : Event) (after : List ℕ) (new : Relaying) → 0 < length rest → Ends rest piece → Takes wants old rest event after new → Ends after piece
ends_on wants old piece rest event after new some p t = ends_more piece rest after p (taken_ends wants old rest event after new some t)

-- what has passed of the front of a piece
passed_front : {U : Type 0} (wanted : U → ℕ → ℕ → Bool) (Answers : U → Option ℕ → List ℕ → Answer → List ℕ → U → Type 0) (start : Expects) (first : U) (bytes piece rest out : List ℕ) (user : U) (relay : Relaying) (e : Ends rest piece) → HasPassed wanted Answers start first (bytes ++ piece) out user (with_held relay rest) → HasPassed wanted Answers start first (bytes ++ e.0) out user relay
passed_front wanted Answers start first bytes piece rest out user relay e p =
    let came = bytes_in p.came in
    let front = bytes ++ e.0 in
    let whole : front ++ rest ≡ bytes ++ piece = append_assoc bytes e.0 rest ∙ ap (λ (l : List ℕ). bytes ++ l) (sym e.1) in
    let parts : came ++ (p.given ++ (relay.held ++ rest)) ≡ (came ++ (p.given ++ relay.held)) ++ rest =
    ap (λ (l : List ℕ). came ++ l) (sym (append_assoc p.given relay.held rest)) ∙ sym (append_assoc came (p.given ++ relay.held) rest) in
    record {
      came = p.came;
      sent = p.sent;
      given = p.given;
      relayed = p.relayed;
      bytes_are = append_cancel_right front (came ++ (p.given ++ relay.held)) rest (whole ∙ p.bytes_are ∙ parts);
      out_is = p.out_is;
      part = p.part;
    }

added_front : {U : Type 0} (wanted : U → ℕ → ℕ → Bool) (Answers : U → Option ℕ → List ℕ → Answer → List ℕ → U → Type 0) (user : U) (relay : Relaying) (piece old out : List ℕ) (by : U) (at : Relaying) (rest : List ℕ) (e : Ends rest piece) → HasAdded old out (PassesOn wanted Answers user relay piece by (with_held at rest)) → HasAdded old out (PassesOn wanted Answers user relay e.0 by at)
added_front wanted Answers user relay piece old out by at rest e p = record {
  added = p.added;
  adds = p.adds;
  are = λ start first before sent q. passed_front wanted Answers start first before piece rest (sent ++ p.added) by at e (p.are start first before sent q);
}

-- what comes next doesn't pass
pub stops_here : {U : Type 0} (acts : Conduct U) (old : Standing U) (piece : List ℕ) (at : Standing U) (rest : List ℕ) (new : Standing U) (error : RelayError) (e : Ends rest piece) → 0 < length rest → HasAdded old.out.items at.out.items (PassesOn acts.wanted acts.answers old.user old.relay piece at.user (with_held at.relay rest)) → (length rest < length piece → HoldsWanted acts at) → new.out.items ≡ at.out.items → (StopsAtRelay acts at rest new error ⊎ StopsAtEvent acts at rest new error) → Stops acts old piece new error
stops_here acts old piece at rest new error e some p held out why = record {
  front = e.0;
  rest = rest;
  parts = e.1;
  some = some;
  at = at;
  passed = record {
    added = added_front acts.wanted acts.answers old.user old.relay piece old.out.items at.out.items at.user at.relay rest e p;
    held = λ front. held (omega (arith, front, ap length e.1, length-append e.0 rest));
  };
  out = out;
  why = why;
}

-- in one of some pieces
pub stops_in : {U : Type 0} (acts : Conduct U) (old : Standing U) (pieces : List (Bor (List ℕ))) (i : ℕ) (d : Bor (List ℕ)) (at new : Standing U) (error : RelayError) → i < length pieces → Passed acts old (joined (take i pieces)) at → Stops acts at (get_or pieces i d).now new error → StopsIn acts old pieces new error
stops_in acts old pieces i d at new error lt p s =
    let piece = get_or pieces i d in
    let are : pieces ≡ take i pieces ++ piece ∷ drop (suc i) pieces = sym (take-append-drop i pieces) ∙ ap (λ (l : List (Bor (List ℕ))). take i pieces ++ l) (drop-cons pieces i d lt) in
    record { before = take i pieces; piece = piece; following = drop (suc i) pieces; are = are; at = at; passed = p; stops = s }
