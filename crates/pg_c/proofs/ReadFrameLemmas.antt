-- Where the message at the front of a stream is.
use Rattle.std.proofs.Common.{◌≡◌, ℕ, suc, ◌+◌, ◌<◌, ◌≤◌, Some, List, [], ◌∷◌, ◌++◌, length, take, drop, set, refl, sym, ap, ◌∙◌, arith, append_assoc, length-append}
use Rattle.std.proofs.lemmas.List.{drop_at, drop-drop, drop-set-lt, length-set, length-take-le, take-append-drop, take_more_set}
use Rattle.pg_base.specs.Cutting.{Begins}
use Rattle.pg_c.specs.Place.{bytes_in}
use Rattle.pg_c.specs.Read.Frame.{StandsAt, Follow, GivesFrames}
use Rattle.pg_c.specs.declared.read.frame.PgmsgFrame.{PgmsgFrame}
use Rattle.pg_c.proofs.PlaceLemmas.{bytes_are}
use Rattle.pg_c.proofs.ReadLemmas.{one_less}

-- where the body is, and what follows it
pub message_at : (bytes : List ℕ) (tag : ℕ) (body rest : List ℕ) → Begins bytes tag body rest → (bytes_in bytes 5 (length body) ≡ Some body) × (drop (5 + length body) bytes ≡ rest)
message_at bytes tag body rest p =
    let head : List ℕ = tag ∷ p.field in
    let five : length head ≡ 5 = omega (arith, p.wide) in
    let parts : bytes ≡ head ++ (body ++ rest) = p.parts ∙ ap (λ (l : List ℕ). tag ∷ l) (append_assoc p.field body rest) in
    let whole : bytes ≡ (head ++ body) ++ rest = parts ∙ sym (append_assoc head body rest) in
    (bytes_are bytes head body rest 5 parts five, rw whole (drop_at (head ++ body) rest (5 + length body) (omega (arith, five, length-append head body))))

-- ---- messages one after the other

-- where the body is of a message that begins at an offset, and what follows it
pub frame_at : (stream : List ℕ) (at tag : ℕ) (body rest : List ℕ) → at ≤ length stream → Begins (drop at stream) tag body rest
    → (bytes_in stream (at + 5) (length body) ≡ Some body) × (drop (at + (5 + length body)) stream ≡ rest)
frame_at stream at tag body rest within p =
    let head : List ℕ = tag ∷ p.field in
    let front : List ℕ = take at stream ++ head in
    let inner : drop at stream ≡ head ++ (body ++ rest) = p.parts ∙ ap (λ (l : List ℕ). tag ∷ l) (append_assoc p.field body rest) in
    let whole : stream ≡ front ++ (body ++ rest) = sym (take-append-drop at stream) ∙ ap (λ (l : List ℕ). take at stream ++ l) inner ∙ sym (append_assoc (take at stream) head (body ++ rest)) in
    let wide : length front ≡ at + 5 = omega (arith, p.wide, length-append (take at stream) head, length-take-le at stream within) in
    (bytes_are stream front body rest (at + 5) whole wide, sym (drop-drop (5 + length body) at stream) ∙ (message_at (drop at stream) tag body rest p).1)

-- a message at the front goes no further than its stream
pub frame_inside : (stream : List ℕ) (tag : ℕ) (body rest : List ℕ) → Begins stream tag body rest → 5 + length body ≤ length stream
frame_inside stream tag body rest p =
    let all : length stream ≡ suc (length (p.field ++ body ++ rest)) = ap length p.parts in
    omega (arith, p.wide, all, length-append (p.field ++ body) rest, length-append p.field body)

follow_push : (stream : List ℕ) (frames : List PgmsgFrame) (frame : PgmsgFrame) (start at : ℕ) → Follow stream start frames at → StandsAt stream at frame → Follow stream start (frames ++ frame ∷ []) (at + frame.length)
follow_push stream [] frame start at p q = rw p (q, refl)
follow_push stream (first ∷ frames) frame start at p q = (p.0, follow_push stream frames frame (start + first.length) at p.1 q)

pub no_frames : (stream : List ℕ) (places : List PgmsgFrame) → GivesFrames stream 0 0 places places
no_frames stream places = record { within = omega arith; given = refl; room = refl; rest = refl }

-- one more message
pub one_more_frame : (stream : List ℕ) (at count : ℕ) (old new : List PgmsgFrame) (frame : PgmsgFrame) → GivesFrames stream at count old new → StandsAt stream at frame → at + frame.length ≤ length stream
    → count < length new → GivesFrames stream (at + frame.length) (count + 1) old (set new count frame)
one_more_frame stream at count old new frame p q within lt =
    let more : take (count + 1) (set new count frame) ≡ take count new ++ frame ∷ [] = take_more_set new count frame lt in
    let next : count + 1 ≡ suc count = omega arith in
    record {
      within = within;
      given = rw more (follow_push stream (take count new) frame 0 at p.given q);
      room = length-set new count frame ∙ p.room;
      rest = rw next (drop-set-lt (suc count) new count frame (omega arith) ∙ one_less count old new p.rest);
    }
