-- What is held is wanted, and what a call keeps.
use Rattle.std.proofs.Common.{◌≡◌, ◌<◌, ◌≤◌, ℕ, Bool, List, [], ◌∷◌, ◌++◌, length, take, get_or, inl, inr, refl, ap, ◌∙◌, ◌+◌, arith, Vec, vec_capacity}
use Rattle.std.specs.Borrow.{Bor}
use Rattle.std.specs.declared.alloc.Global.{Global}
use Rattle.pg_frames.specs.Pieces.{joined}
use Rattle.pg_frames.specs.declared.frontend.frame.Expects.{Expects}
use Rattle.pg_frames.specs.Relay.Pass.{Conduct, Standing, Keeps, Passed, PutsOut, standing_of}
use Rattle.pg_frames.specs.Relay.Pass.Stops.{EventStops}
use Rattle.pg_frames.specs.Relay.{Relaying, Takes, WouldTake}
use Rattle.pg_frames.specs.declared.relay.error.RelayError.{RelayError}
use Rattle.pg_frames.specs.declared.relay.event.Event.{Event}
use Rattle.pg_frames.specs.declared.relay.event.Event.TheVariants.{Frame, Part, Held}
use Rattle.pg_frames.proofs.RelayHeadLemmas.{head_positive, head_fits}
use Rattle.pg_frames.proofs.RelayPassedLemmas.{added_none, added_more, joined_piece}

-- no bytes are the front of a frame
nothing_wanted : (wants : ℕ → ℕ → Bool) (limit : ℕ) (state : Expects) (held : List ℕ) → held ≡ [] → WouldTake wants limit state held
nothing_wanted wants limit state held e = λ tag count h.
    absurd (omega (arith, ap length e, head_positive state, (head_fits state held tag count h).0))

-- a step holds what is wanted, and its user is the same where something is held
pub step_wanted : {U : Type 0} (acts : Conduct U) (user : U) (old : Relaying) (piece : List ℕ) (event : Event) (rest : List ℕ) (new : Relaying) (later : U) → Takes (acts.wanted user) old piece event rest new → (event ≡ Held → later ≡ user) → WouldTake (acts.wanted later) new.limit new.expects new.held
step_wanted acts user old piece (Frame tag bytes) rest new later t same = nothing_wanted (acts.wanted later) new.limit new.expects new.held t.comes.nothing
step_wanted acts user old piece (Part bytes left) rest new later t same = nothing_wanted (acts.wanted later) new.limit new.expects new.held t.comes.nothing
step_wanted acts user old piece Held rest new later t same = rw (t.limit, t.comes.expects, same refl) t.comes.taken

-- its user is the same where what comes goes out
pub puts_same : {U : Type 0} (acts : Conduct U) (user : U) (before : Expects) (event : Event) (next : Expects) (later : U) (old new : List ℕ) → PutsOut acts.answers user before event next later old new → event ≡ Held → later ≡ user
puts_same acts user before (Frame tag bytes) next later old new p e = absurd (let clash : Frame tag bytes ≡ Held = e in cc)
puts_same acts user before (Part bytes left) next later old new p e = absurd (let clash : Part bytes left ≡ Held = e in cc)
puts_same acts user before Held next later old new p e = p.0

-- and where it doesn't
pub stops_same : {U : Type 0} (acts : Conduct U) (user : U) (before : Expects) (event : Event) (next : Expects) (later : U) (old : List ℕ) (out : Vec ℕ Global) (error : RelayError) → EventStops acts user before event next later old out error → event ≡ Held → later ≡ user
stops_same acts user before (Frame tag bytes) next later old out error s e = absurd (let clash : Frame tag bytes ≡ Held = e in cc)
stops_same acts user before (Part bytes left) next later old out error s e = absurd (let clash : Part bytes left ≡ Held = e in cc)
stops_same acts user before Held next later old out error (inl s) e = absurd s
stops_same acts user before Held next later old out error (inr s) e = s.is_out.0

pub keeps_same : {U : Type 0} (acts : Conduct U) (at : Standing U) → Keeps acts at at
keeps_same acts at = record { limit = refl; room = omega arith; held = λ h. h }

-- what a step and then a write keep
pub keeps_step : {U : Type 0} (acts : Conduct U) (old at : Standing U) (rest : List ℕ) (event : Event) (after : List ℕ) (new : Relaying) (later : U) (out : Vec ℕ Global) → Keeps acts old at → Takes (acts.wanted at.user) at.relay rest event after new → (event ≡ Held → later ≡ at.user) → vec_capacity at.out ≤ vec_capacity out → Keeps acts old (standing_of later new out)
keeps_step acts old at rest event after new later out k t same room = record {
  limit = t.limit ∙ k.limit;
  room = omega (arith, k.room, room);
  held = λ h. step_wanted acts at.user at.relay rest event after new later t same;
}

-- what one call and then another keep
pub keeps_more : {U : Type 0} (acts : Conduct U) (old at new : Standing U) → Keeps acts old at → Keeps acts at new → Keeps acts old new
keeps_more acts old at new p q = record {
  limit = q.limit ∙ p.limit;
  room = omega (arith, p.room, q.room);
  held = λ h. q.held (p.held h);
}

pub passed_none : {U : Type 0} (acts : Conduct U) (at : Standing U) → Passed acts at [] at
passed_none acts at = record { added = added_none acts.wanted acts.answers at.user at.relay at.out.items; held = λ some. absurd (omega (arith, some)) }

-- where some bytes came in one of two pieces, what is held after both is wanted
held_after : {A B : Type 0} (front piece : List ℕ) → (0 < length front → A) → (0 < length piece → B) → (A → B) → 0 < length (front ++ piece) → B
held_after [] piece p q k some = q some
held_after (x ∷ xs) piece p q k some = k (p (omega arith))

-- one more piece has passed
pub passed_piece : {U : Type 0} (acts : Conduct U) (old at : Standing U) (pieces : List (Bor (List ℕ))) (i : ℕ) (d : Bor (List ℕ)) (new : Standing U) → i < length pieces → Passed acts old (joined (take i pieces)) at → Keeps acts at new → Passed acts at (get_or pieces i d).now new → Passed acts old (joined (take (i + 1) pieces)) new
passed_piece acts old at pieces i d new lt p k q =
    let front = joined (take i pieces) in
    let piece = (get_or pieces i d).now in
    rw (joined_piece pieces i d lt) (record {
      added = added_more acts.wanted acts.answers old.user old.relay front old.out.items at.out.items at.user at.relay piece new.out.items new.user new.relay p.added q.added;
      held = held_after front piece p.held q.held k.held;
    })
