-- Streams that follow one another, and what is common to two readings of one.
use Rattle.std.proofs.Common.{◌≡◌, ◌+◌, ◌<◌, ℕ, List, [], ◌∷◌, ◌++◌, length, take, drop, get_or, add-one, refl, sym, ap, ◌∙◌, append_assoc, append-nil}
use Rattle.std.proofs.lemmas.List.{map-append, take-append-drop}
use Rattle.std.proofs.Math.Seq.{take-suc}
use Rattle.pg_base.specs.Cutting.{Begins, Cut}
use Rattle.pg_base.specs.declared.error.ProtocolFault.{ProtocolFault}
use Rattle.pg_base.specs.Format.{backend_tag, IsBackendTag}
use Rattle.pg_base.proofs.CuttingLemmas.{one_first}
use Rattle.std.specs.Borrow.{Bor}
use Rattle.pg_format.specs.declared.received.ReceivedMessage.{ReceivedMessage}
use Rattle.pg_frames.specs.declared.pieces.StreamEnd.{StreamEnd}
use Rattle.pg_frames.specs.declared.pieces.StreamEnd.TheVariants.{Rest, Fault}
use Rattle.pg_frames.specs.Pieces.{joined, tags_and_bodies, IsEnd, IsRead}
use Rattle.pg_frames.specs.Stream.{AreKnown, Stream, of_server, Whole, IsStreamFault}
use Rattle.pg_frames.proofs.FramingLemmas.{whole_wants_none, fault_not_whole, fault_wants_none, one_fault, fault_stays}

-- more bytes at the end are more of the rest
pub begins_more : (bytes more : List ℕ) (tag : ℕ) (body rest : List ℕ) → Begins bytes tag body rest → Begins (bytes ++ more) tag body (rest ++ more)
begins_more bytes more tag body rest p = record {
  field = p.field;
  wide = p.wide;
  counts = p.counts;
  fits = p.fits;
  parts = ap (λ (l : List ℕ). l ++ more) p.parts ∙ ap (λ (l : List ℕ). tag ∷ l) (append_assoc (p.field ++ body) rest more);
}

-- what two lists of bytes are cut into, they are cut into one after the other
pub cut_append : (x y : List ℕ) (xs ys : List (ℕ × List ℕ)) → Cut x xs → Cut y ys → Cut (x ++ y) (xs ++ ys)
cut_append x y [] ys p q = rw p q
cut_append x y (m ∷ ms) ys p q = (p.0 ++ y, begins_more x y m.0 m.1 p.0 p.1, cut_append p.0 y ms ys p.2 q)

pub known_append : (xs ys : List (ℕ × List ℕ)) → AreKnown xs → AreKnown ys → AreKnown (xs ++ ys)
known_append [] ys p q = q
known_append (m ∷ ms) ys p q = (p.0, known_append ms ys p.1 q)

-- a stream goes on with a stream
pub stream_append : (x y : List ℕ) (xs ys : List (ℕ × List ℕ)) (r s : List ℕ) → Stream x xs r → Stream (r ++ y) ys s → Stream (x ++ y) (xs ++ ys) s
stream_append x y xs ys r s p q = record {
  front = p.front ++ q.front;
  cut = cut_append p.front q.front xs ys p.cut q.cut;
  known = known_append xs ys p.known q.known;
  parts = ap (λ (l : List ℕ). l ++ y) p.parts ∙ append_assoc p.front r y ∙ ap (λ (l : List ℕ). p.front ++ l) q.parts ∙ sym (append_assoc p.front q.front s);
}

-- a stream whose last piece has come, but gave no message
pub stream_more : (x y : List ℕ) (xs : List (ℕ × List ℕ)) (r : List ℕ) → Stream x xs r → Stream (x ++ y) xs (r ++ y)
stream_more x y xs r p = record {
  front = p.front;
  cut = p.cut;
  known = p.known;
  parts = ap (λ (l : List ℕ). l ++ y) p.parts ∙ append_assoc p.front r y;
}

-- a message alone
pub stream_one : (bytes : List ℕ) (tag : ℕ) (body rest : List ℕ) → IsBackendTag tag → Begins bytes tag body rest → Stream bytes ((tag, body) ∷ []) rest
stream_one bytes tag body rest known p = record {
  front = tag ∷ (p.field ++ body);
  cut = ([], record { field = p.field; wide = p.wide; counts = p.counts; fits = p.fits; parts = ap (λ (l : List ℕ). tag ∷ l) (sym (append-nil (p.field ++ body))) }, refl);
  known = (known, tt);
  parts = p.parts;
}

-- one more message is taken from the front of what is left
pub stream_takes : (x : List ℕ) (xs : List (ℕ × List ℕ)) (r : List ℕ) (tag : ℕ) (body s : List ℕ) → IsBackendTag tag → Stream x xs r → Begins r tag body s → Stream x (xs ++ (tag, body) ∷ []) s
stream_takes x xs r tag body s known p b =
    let nothing : r ++ [] ≡ r = append-nil r in
    let one : Stream (r ++ []) ((tag, body) ∷ []) s = rw nothing (stream_one r tag body s known b) in
    let both = stream_append x [] xs ((tag, body) ∷ []) r s p one in
    rw (append-nil x) at both

-- a message at the front of a stream is a whole one
whole_front : (bytes front rest : List ℕ) (m : ℕ × List ℕ) (ms : List (ℕ × List ℕ)) → bytes ≡ front ++ rest → Cut front (m ∷ ms) → IsBackendTag m.0 → Whole bytes
whole_front bytes front rest m ms e c known =
    record { tag = m.0; body = m.1; rest = c.0 ++ rest; known = known; begins = rw e (begins_more front rest m.0 m.1 c.0 c.1) }

one_reading : (bytes x y : List ℕ) (xs ys : List (ℕ × List ℕ)) (r s : List ℕ) → Cut x xs → AreKnown xs → bytes ≡ x ++ r → (Whole r → ⊥) → Cut y ys → AreKnown ys → bytes ≡ y ++ s → (Whole s → ⊥) → (xs ≡ ys) × (r ≡ s)
one_reading bytes x y [] [] r s c k e n d l f o =
    let same : r ≡ s = sym (e ∙ ap (λ (l : List ℕ). l ++ r) c) ∙ f ∙ ap (λ (l : List ℕ). l ++ s) d in
    (refl, same)
one_reading bytes x y [] (m ∷ ms) r s c k e n d l f o =
    let is : bytes ≡ r = e ∙ ap (λ (l : List ℕ). l ++ r) c in
    absurd (n (rw (← is) (whole_front bytes y s m ms f d l.0)))
one_reading bytes x y (m ∷ ms) [] r s c k e n d l f o =
    let is : bytes ≡ s = f ∙ ap (λ (l : List ℕ). l ++ s) d in
    absurd (o (rw (← is) (whole_front bytes x r m ms e c k.0)))
one_reading bytes x y (m ∷ ms) (w ∷ ws) r s c k e n d l f o =
    let one = one_first bytes m.0 w.0 m.1 w.1 (c.0 ++ r) (d.0 ++ s) (rw e (begins_more x r m.0 m.1 c.0 c.1)) (rw f (begins_more y s w.0 w.1 d.0 d.1)) in
    let more = one_reading (c.0 ++ r) c.0 d.0 ms ws r s c.2 k.1 refl n d.2 l.1 one.2 o in
    let same : m ≡ w = ap (λ (tag : ℕ). (tag, m.1)) one.0 ∙ ap (λ (body : List ℕ). (w.0, body)) one.1 in
    let messages : m ∷ ms ≡ w ∷ ws = rw (same, more.0) refl in
    (messages, more.1)

-- a stream has one list of messages, and one rest that isn't whole
pub one_stream : (bytes : List ℕ) (xs ys : List (ℕ × List ℕ)) (r s : List ℕ) → Stream bytes xs r → (Whole r → ⊥) → Stream bytes ys s → (Whole s → ⊥) → (xs ≡ ys) × (r ≡ s)
one_stream bytes xs ys r s p n q o = one_reading bytes p.front q.front xs ys r s p.cut p.known p.parts n q.cut q.known q.parts o

-- a message that a reader hands out goes to the end of those that are there
pub stream_hands_out : (x : List ℕ) (messages : List ReceivedMessage) (message : ReceivedMessage) (r s : List ℕ) → Stream x (tags_and_bodies messages) r → Begins r (backend_tag message.format) message.contents s → Stream x (tags_and_bodies (messages ++ message ∷ [])) s
stream_hands_out x messages message r s p b =
    rw map-append (stream_takes x (tags_and_bodies messages) r (backend_tag message.format) message.contents s (message.format, refl) p b)

-- bytes before others
pub joined-append : (xs ys : List (Bor (List ℕ))) → joined (xs ++ ys) ≡ joined xs ++ joined ys
joined-append [] ys = refl
joined-append (x ∷ xs) ys = ap (λ (l : List ℕ). x.now ++ l) (joined-append xs ys) ∙ sym (append_assoc x.now (joined xs) (joined ys))

-- one more piece
joined_step : (pieces : List (Bor (List ℕ))) (i : ℕ) (d : Bor (List ℕ)) → i < length pieces → joined (take (i + 1) pieces) ≡ joined (take i pieces) ++ (get_or pieces i d).now
joined_step pieces i d lt =
    let piece = get_or pieces i d in
    let fronts : take (i + 1) pieces ≡ take i pieces ++ piece ∷ [] = rw add-one (take-suc pieces i d lt) in
    ap joined fronts ∙ joined-append (take i pieces) (piece ∷ []) ∙ ap (λ (l : List ℕ). joined (take i pieces) ++ l) (append-nil piece.now)

-- the stream so far, when a piece is added to what is left
pub stream_fed : (pieces : List (Bor (List ℕ))) (i : ℕ) (d : Bor (List ℕ)) (xs : List (ℕ × List ℕ)) (r s : List ℕ) → i < length pieces → Stream (joined (take i pieces)) xs r → s ≡ r ++ (get_or pieces i d).now → Stream (joined (take (i + 1) pieces)) xs s
stream_fed pieces i d xs r s lt p is = rw (joined_step pieces i d lt, is) (stream_more (joined (take i pieces)) (get_or pieces i d).now xs r p)

-- a fault in the first pieces is one in all of them
pub read_to_fault : (pieces : List (Bor (List ℕ))) (i : ℕ) (xs : List (ℕ × List ℕ)) (r : List ℕ) (fault : ProtocolFault) → Stream (joined (take i pieces)) xs r → IsStreamFault r fault → IsRead (joined pieces) xs (Fault fault)
read_to_fault pieces i xs r fault p f =
    let all : joined pieces ≡ joined (take i pieces) ++ joined (drop i pieces) =
    ap joined (sym (take-append-drop i pieces)) ∙ joined-append (take i pieces) (drop i pieces) in
    record {
      rest = r ++ joined (drop i pieces);
      stream = rw all (stream_more (joined (take i pieces)) (joined (drop i pieces)) xs r p);
      ends = fault_stays of_server r (joined (drop i pieces)) fault f;
    }

-- what is left at an end is no whole message
end_not_whole : (rest : List ℕ) (end : StreamEnd) → IsEnd rest end → Whole rest → ⊥
end_not_whole rest (Rest count) p w = whole_wants_none of_server rest w p.1
end_not_whole rest (Fault fault) p w = fault_not_whole of_server rest fault p w

one_end : (rest : List ℕ) (d e : StreamEnd) → IsEnd rest d → IsEnd rest e → d ≡ e
one_end rest (Rest m) (Rest n) p q = ap Rest (p.0 ∙ sym q.0)
one_end rest (Rest m) (Fault g) p q = absurd (fault_wants_none of_server rest g q p.1)
one_end rest (Fault f) (Rest n) p q = absurd (fault_wants_none of_server rest f p q.1)
one_end rest (Fault f) (Fault g) p q = ap Fault (one_fault of_server rest f g p q)

pub one_read : (bytes : List ℕ) (xs ys : List (ℕ × List ℕ)) (d e : StreamEnd) → IsRead bytes xs d → IsRead bytes ys e → (xs ≡ ys) × (d ≡ e)
one_read bytes xs ys d e p q =
    let one = one_stream bytes xs ys p.rest q.rest p.stream (end_not_whole p.rest d p.ends) q.stream (end_not_whole q.rest e q.ends) in
    (one.0, one_end q.rest d e (rw one.1 at p.ends) q.ends)
