-- What becomes of a frame's bytes, as they are held and as they come.
use Rattle.std.proofs.Common.{◌≡◌, ◌⊎◌, ℤ, ◌+◌, ◌<◌, ◌≤◌, ℕ, min, Bool, List, [], ◌++◌, length, Option, Result, Ok, Err, IfOk, inl, inr, refl, sym, ap, ◌∙◌, append_assoc, append-nil, arith, length-append}
use Rattle.pg_frames.specs.declared.frontend.frame.Expects.{Expects}
use Rattle.pg_frames.specs.declared.frontend.frame.Expects.TheVariants as expects
use Rattle.pg_frames.specs.Relay.Head.{HasHead, HasLowLength, IsFrame, IsNext, head_length}
use Rattle.pg_frames.specs.Relay.{Relaying, IsUnfinished, IsTaken, IsForParts, IsForWhole, IsFault, IsHeadFault, IsRelayError, Takes, bytes_of, holding, relay_at}
use Rattle.pg_frames.specs.declared.relay.error.RelayError.{RelayError}
use Rattle.pg_frames.specs.declared.relay.error.RelayError.TheVariants.{BadLength, TooLong, NotFrames, OutOfMemory}
use Rattle.pg_frames.specs.declared.relay.event.Event.TheVariants.{Frame, Part, Held}
use Rattle.pg_frames.specs.declared.relay.event.FrameBytes.{FrameBytes}
use Rattle.pg_frames.specs.declared.relay.event.Step.{Step}
use Rattle.pg_frames.proofs.RelayHeadLemmas.{head_positive, head_front, head_stays, one_head, head_fits, low_fits, low_stays, low_has_no_head}

-- the front of a piece is added to what is held
pub conserved_joined : (held piece bytes new rest : List ℕ) → new ≡ held ++ bytes → piece ≡ bytes ++ rest → held ++ piece ≡ new ++ rest
conserved_joined held piece bytes new rest e f = rw (e, f) (sym (append_assoc held bytes rest))

-- and all of it is passed on
pub conserved_whole : (held piece bytes new rest : List ℕ) → new ≡ held ++ bytes → piece ≡ bytes ++ rest → held ++ piece ≡ new ++ [] ++ rest
conserved_whole held piece bytes new rest e f =
    conserved_joined held piece bytes new rest e f ∙ ap (λ (l : List ℕ). l ++ rest) (sym (append-nil new))

-- the frame that is taken is the one at the front
pub taken_alone : (wants : ℕ → ℕ → Bool) (limit : ℕ) (state : Expects) (bytes : List ℕ) (tag : Option ℕ) (count : ℕ) → IsForWhole wants limit state bytes tag count → (t : Option ℕ) (n : ℕ) → HasHead state bytes t n → IsTaken wants limit t n
taken_alone wants limit state bytes tag count w t n h =
    let one = one_head state bytes t tag n count h w.head in
    rw (one.0, one.1) w.taken

-- nothing is known of a frame without its head
pub taken_unknown : (wants : ℕ → ℕ → Bool) (limit : ℕ) (state : Expects) (bytes : List ℕ) → length bytes < head_length state → (t : Option ℕ) (n : ℕ) → HasHead state bytes t n → IsTaken wants limit t n
taken_unknown wants limit state bytes short t n h = absurd (omega (arith, short, (head_fits state bytes t n h).0))

-- a frame that lies whole at the front of a piece
pub frame_here : (state : Expects) (piece bytes rest : List ℕ) (tag : Option ℕ) (count : ℕ) (next : Expects) → HasHead state piece tag count → piece ≡ bytes ++ rest → length bytes ≡ count → IsNext state bytes next → IsFrame state tag bytes next
frame_here state piece bytes rest tag count next h e counts n =
    let least : head_length state ≤ length bytes = omega (arith, counts, (head_fits state piece tag count h).1) in
    let head : HasHead state bytes tag count = head_front state bytes rest tag count least (rw e at h) in
    record { head = rw counts head; follows = n }

-- the front of one that doesn't
pub parts_here : (wants : ℕ → ℕ → Bool) (state : Expects) (piece bytes rest : List ℕ) (count : ℕ) → IsForParts wants state piece count → piece ≡ bytes ++ rest → head_length state ≤ length bytes → IsForParts wants state bytes count
parts_here wants state piece bytes rest count p e least =
    record { tag = p.tag; head = head_front state bytes rest p.tag count least (rw e at p.head); unwanted = p.unwanted }

-- a frame that isn't whole has more bytes than are held
pub unfinished_counts : (limit : ℕ) (state : Expects) (held : List ℕ) (tag : Option ℕ) (count : ℕ) → IsUnfinished limit state held → HasHead state held tag count → length held < count
unfinished_counts limit state held tag count (inl short) h = absurd (omega (arith, short, (head_fits state held tag count h).0))
unfinished_counts limit state held tag count (inr on) h = omega (arith, on.short, (one_head state held on.tag tag on.count count on.head h).1)

-- what is held is shorter than a head, or than the longest frame that is held
pub unfinished_short : (limit : ℕ) (state : Expects) (held : List ℕ) → IsUnfinished limit state held → (length held < 5) ⊎ (length held < limit)
unfinished_short limit expects.First held (inl short) = inl (omega (arith, short))
unfinished_short limit expects.Tagged held (inl short) = inl short
unfinished_short limit state held (inr on) = inr (omega (arith, on.short, on.within))

-- and no fault
pub unfinished_is_not_low : (limit : ℕ) (state : Expects) (held : List ℕ) (announced : ℤ) → IsUnfinished limit state held → HasLowLength state held announced → ⊥
unfinished_is_not_low limit state held announced (inl short) low = omega (arith, short, low_fits state held announced low)
unfinished_is_not_low limit state held announced (inr on) low = low_has_no_head state held announced on.tag on.count low on.head

pub unfinished_has_no_fault : (limit : ℕ) (state : Expects) (held : List ℕ) (error : RelayError) → IsUnfinished limit state held → IsHeadFault state held error → ⊥
unfinished_has_no_fault limit state held (BadLength announced) u f = unfinished_is_not_low limit state held announced u f
unfinished_has_no_fault limit state held (TooLong count most) u f = f
unfinished_has_no_fault limit state held NotFrames u f = f
unfinished_has_no_fault limit state held OutOfMemory u f = f

-- a fault of bytes is an error at them
pub fault_is_error : (wants : ℕ → ℕ → Bool) (limit : ℕ) (state : Expects) (held bytes all : List ℕ) (error : RelayError) → all ≡ held ++ bytes → IsFault wants limit state all error → IsRelayError wants (holding limit state held) bytes error
fault_is_error wants limit state held bytes all (BadLength announced) e f = (refl, rw (← e) f)
fault_is_error wants limit state held bytes all (TooLong count most) e f = (refl, rw (← e) f)
fault_is_error wants limit state held bytes all NotFrames e f = f
fault_is_error wants limit state held bytes all OutOfMemory e f = absurd f

-- an error at the front of a piece is one at the piece
pub error_longer : (wants : ℕ → ℕ → Bool) (limit : ℕ) (state : Expects) (held : List ℕ) (left : ℕ) (piece bytes rest : List ℕ) (error : RelayError) → 0 < length held → left ≡ 0 → piece ≡ bytes ++ rest → IsRelayError wants (holding limit state held) bytes error → IsRelayError wants (relay_at limit state held left) piece error
error_longer wants limit state held left piece bytes rest (BadLength announced) some between e f =
    let all : held ++ piece ≡ (held ++ bytes) ++ rest = rw e (sym (append_assoc held bytes rest)) in
    (between, rw all (low_stays state (held ++ bytes) rest announced f.1))
error_longer wants limit state held left piece bytes rest (TooLong count most) some between e f =
    let all : held ++ piece ≡ (held ++ bytes) ++ rest = rw e (sym (append_assoc held bytes rest)) in
    (between, record { tag = f.1.tag; head = rw all (head_stays state (held ++ bytes) rest f.1.tag count f.1.head); wanted = f.1.wanted; high = f.1.high; is = f.1.is })
error_longer wants limit state held left piece bytes rest NotFrames some between e f = f
error_longer wants limit state held left piece bytes rest OutOfMemory some between e f = record { between = between; some = omega (arith, f.some, ap length e, length-append bytes rest); holds = inl some }

-- a step over a piece where nothing is held: the front of a frame that goes out in parts
pub takes_parts : (wants : ℕ → ℕ → Bool) (limit : ℕ) (state : Expects) (held : List ℕ) (l : ℕ) (piece : List ℕ) (b : FrameBytes) (rest : List ℕ) (count left : ℕ) → held ≡ [] → l ≡ 0 → IsForParts wants state piece count → piece ≡ bytes_of b ++ rest → length (bytes_of b) ≡ min count (length piece) → length (bytes_of b) + left ≡ count → Takes wants (relay_at limit state held l) piece (Part b left) rest (relay_at limit state held left)
takes_parts wants limit state held l piece b rest count left nothing between p e counts lefts =
    let bytes = bytes_of b in
    let fits = head_fits state piece p.tag count p.head in
    let least : head_length state ≤ length bytes = omega (arith, fits.0, fits.1, counts) in
    let longer : length piece ≡ length bytes + length rest = omega (arith, ap length e, length-append bytes rest) in
    let all : held ++ piece ≡ bytes ++ held ++ rest = rw (nothing, append-nil bytes) e in
    record {
      conserved = all;
      limit = refl;
      comes = record { place = inl (record { between = between; count = count; parts = parts_here wants state piece bytes rest count p e least; counts = lefts }); expects = refl; nothing = nothing; left_is = refl };
      goes_on = λ some. omega (arith, longer, least, head_positive state);
    }

-- a whole frame
pub takes_frame : (wants : ℕ → ℕ → Bool) (limit : ℕ) (state : Expects) (held : List ℕ) (l : ℕ) (piece : List ℕ) (b : FrameBytes) (rest : List ℕ) (tag : Option ℕ) (count : ℕ) (next : Expects) → held ≡ [] → l ≡ 0 → IsForWhole wants limit state piece tag count → piece ≡ bytes_of b ++ rest → length (bytes_of b) ≡ count → IsNext state (bytes_of b) next → Takes wants (relay_at limit state held l) piece (Frame tag b) rest (relay_at limit next held l)
takes_frame wants limit state held l piece b rest tag count next nothing between w e counts follows =
    let bytes = bytes_of b in
    let longer : length piece ≡ length bytes + length rest = omega (arith, ap length e, length-append bytes rest) in
    let least : head_length state ≤ count = (head_fits state piece tag count w.head).1 in
    let all : held ++ piece ≡ bytes ++ held ++ rest = rw (nothing, append-nil bytes) e in
    record {
      conserved = all;
      limit = refl;
      comes = record { between = between; is_frame = frame_here state piece bytes rest tag count next w.head e counts follows; taken = rw counts w.taken; nothing = nothing; left = between };
      goes_on = λ some. omega (arith, longer, counts, least, head_positive state);
    }

-- a step over a piece that goes on with what is held: the front of a frame that goes out in parts
pub takes_parts_joined : (wants : ℕ → ℕ → Bool) (limit : ℕ) (state : Expects) (held : List ℕ) (l : ℕ) (piece bytes : List ℕ) (b : FrameBytes) (rest none : List ℕ) (count left missing : ℕ) → l ≡ 0 → none ≡ [] → bytes_of b ≡ held ++ bytes → piece ≡ bytes ++ rest → 0 < missing → length bytes ≡ min missing (length piece) → IsForParts wants state (bytes_of b) count → length (bytes_of b) + left ≡ count → Takes wants (relay_at limit state held l) piece (Part b left) rest (relay_at limit state none left)
takes_parts_joined wants limit state held l piece bytes b rest none count left missing between nothing joined e some counts p lefts =
    let longer : length piece ≡ length bytes + length rest = omega (arith, ap length e, length-append bytes rest) in
    let all : held ++ piece ≡ bytes_of b ++ none ++ rest = rw nothing (conserved_whole held piece bytes (bytes_of b) rest joined e) in
    record {
      conserved = all;
      limit = refl;
      comes = record { place = inl (record { between = between; count = count; parts = p; counts = lefts }); expects = refl; nothing = nothing; left_is = refl };
      goes_on = λ more. omega (arith, longer, counts, some, more);
    }

-- nothing yet
pub takes_held : (wants : ℕ → ℕ → Bool) (limit : ℕ) (state : Expects) (held : List ℕ) (l : ℕ) (piece bytes rest new : List ℕ) (missing : ℕ) → l ≡ 0 → new ≡ held ++ bytes → piece ≡ bytes ++ rest → 0 < missing → length bytes ≡ min missing (length piece) → IsUnfinished limit state new → ((tag : Option ℕ) (count : ℕ) → HasHead state new tag count → IsTaken wants limit tag count) → Takes wants (relay_at limit state held l) piece Held rest (relay_at limit state new l)
takes_held wants limit state held l piece bytes rest new missing between joined e some counts unfinished taken =
    let longer : length piece ≡ length bytes + length rest = omega (arith, ap length e, length-append bytes rest) in
    record {
      conserved = conserved_joined held piece bytes new rest joined e;
      limit = refl;
      comes = record { between = between; expects = refl; unfinished = unfinished; taken = taken; left = between };
      goes_on = λ more. omega (arith, longer, counts, some, more);
    }

-- what is taken is no more than the frame
pub joined_within : (state : Expects) (held bytes : List ℕ) (tag : Option ℕ) (count missing room : ℕ) → ((more : List ℕ) (t : Option ℕ) (n : ℕ) → HasHead state (held ++ more) t n → length held + missing ≤ n) → length bytes ≡ min missing room → HasHead state (held ++ bytes) tag count → length (held ++ bytes) ≤ count
joined_within state held bytes tag count missing room within counts h =
    omega (arith, within bytes tag count h, counts, length-append held bytes)

pub hold_takes : (wants : ℕ → ℕ → Bool) (old : Relaying) (piece : List ℕ) (new : Relaying) (r : Result Step RelayError) → IfOk r (λ step. (w : ℕ → ℕ → Bool) → ((tag : Option ℕ) (count : ℕ) → HasHead old.expects piece tag count → IsTaken w old.limit tag count) → Takes w old piece step.event step.rest.now new) → ((tag : Option ℕ) (count : ℕ) → HasHead old.expects piece tag count → IsTaken wants old.limit tag count) → IfOk r (λ step. Takes wants old piece step.event step.rest.now new)
hold_takes wants old piece new (Ok step) p t = p wants t
hold_takes wants old piece new (Err e) p t = tt
