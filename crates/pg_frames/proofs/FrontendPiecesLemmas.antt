-- Streams of a client that follow one another, and what is common to two readings of one.
use Rattle.std.proofs.Common.{◌≡◌, ◌+◌, ◌<◌, ℕ, List, [], ◌∷◌, ◌++◌, length, take, drop, get_or, add-one, refl, sym, ap, ◌∙◌, append_assoc, append-nil}
use Rattle.std.proofs.lemmas.List.{map-append, take-append-drop}
use Rattle.std.proofs.Math.Seq.{take-suc}
use Rattle.std.specs.Borrow.{Bor}
use Rattle.pg_base.specs.Format.{frontend_tag}
use Rattle.pg_frames.specs.Pieces.{joined}
use Rattle.pg_frames.proofs.PiecesLemmas.{begins_more, joined-append}
use Rattle.pg_server.specs.declared.frontend.error.FrontendFault.{FrontendFault}
use Rattle.pg_frames.specs.declared.frontend.frame.Expects.{Expects}
use Rattle.pg_frames.specs.declared.frontend.frame.Expects.TheVariants as expects
use Rattle.pg_frames.specs.declared.frontend.message.ClientMessage.{ClientMessage}
use Rattle.pg_frames.specs.declared.frontend.message.ClientMessageKind.{ClientMessageKind}
use Rattle.pg_frames.specs.declared.frontend.message.ClientMessageKind.TheVariants as kinds
use Rattle.pg_frames.specs.declared.frontend.pieces.ClientStreamEnd.{ClientStreamEnd}
use Rattle.pg_frames.specs.declared.frontend.pieces.ClientStreamEnd.TheVariants.{Rest, Fault}
use Rattle.pg_frames.specs.Frontend.Frame.{BeginsWith, Whole, IsStreamFault}
use Rattle.pg_frames.specs.Frontend.Reader.{Reading, WholeIn, fed}
use Rattle.pg_frames.specs.Frontend.Pieces.{Stream, kinds_and_bodies, IsEnd, IsRead, TakesMany}
use Rattle.pg_frames.specs.Laws.{ReadsAll}
use Rattle.pg_frames.proofs.FrontendFrameLemmas.{whole_wants_none, fault_not_whole, fault_wants_none, one_fault, one_message, fault_stays}

-- more bytes at the end are more of the rest
begins_with_more : (limit : ℕ) (state : Expects) (bytes more : List ℕ) (kind : ClientMessageKind) (body rest : List ℕ) (next : Expects) → BeginsWith limit state bytes kind body rest next → BeginsWith limit state (bytes ++ more) kind body (rest ++ more) next
begins_with_more limit expects.First bytes more kinds.First body rest next p = (
  record {
    field = p.0.field;
    wide = p.0.wide;
    counts = p.0.counts;
    least = p.0.least;
    most = p.0.most;
    parts = ap (λ (l : List ℕ). l ++ more) p.0.parts ∙ append_assoc (p.0.field ++ body) rest more;
  },
  p.1,
)
begins_with_more limit expects.First bytes more (kinds.Tagged format) body rest next p = p
begins_with_more limit expects.Tagged bytes more kinds.First body rest next p = p
begins_with_more limit expects.Tagged bytes more (kinds.Tagged format) body rest next p = (begins_more bytes more (frontend_tag format) body rest p.0, p.1)

-- a stream goes on with a stream
pub stream_append : (limit : ℕ) (a b c : Expects) (x y : List ℕ) (xs ys : List (ClientMessageKind × List ℕ)) (r s : List ℕ) → Stream limit a x xs b r → Stream limit b (r ++ y) ys c s → Stream limit a (x ++ y) (xs ++ ys) c s
stream_append limit a b c x y [] ys r s p q = rw (p.0, p.1) q
stream_append limit a b c x y (m ∷ ms) ys r s p q =
    (p.0, p.1 ++ y, begins_with_more limit a x y m.0 m.1 p.1 p.0 p.2, stream_append limit p.0 b c p.1 y ms ys r s p.3 q)

-- a stream whose last piece has come, but gave no message
pub stream_more : (limit : ℕ) (a b : Expects) (x y : List ℕ) (xs : List (ClientMessageKind × List ℕ)) (r : List ℕ) → Stream limit a x xs b r → Stream limit a (x ++ y) xs b (r ++ y)
stream_more limit a b x y [] r p = (p.0, ap (λ (l : List ℕ). l ++ y) p.1)
stream_more limit a b x y (m ∷ ms) r p =
    (p.0, p.1 ++ y, begins_with_more limit a x y m.0 m.1 p.1 p.0 p.2, stream_more limit p.0 b p.1 y ms r p.3)

-- one more message is taken from the front of what is left
stream_takes : (limit : ℕ) (a b c : Expects) (x : List ℕ) (xs : List (ClientMessageKind × List ℕ)) (r : List ℕ) (kind : ClientMessageKind) (body s : List ℕ) → Stream limit a x xs b r → BeginsWith limit b r kind body s c → Stream limit a x (xs ++ (kind, body) ∷ []) c s
stream_takes limit a b c x [] r kind body s p q = rw (p.0, p.1) (c, s, q, (refl, refl))
stream_takes limit a b c x (m ∷ ms) r kind body s p q = (p.0, p.1, p.2, stream_takes limit p.0 b c p.1 ms r kind body s p.3 q)

pub stream_hands_out : (limit : ℕ) (a b c : Expects) (x : List ℕ) (messages : List ClientMessage) (message : ClientMessage) (r s : List ℕ) → Stream limit a x (kinds_and_bodies messages) b r → BeginsWith limit b r message.kind message.contents s c → Stream limit a x (kinds_and_bodies (messages ++ message ∷ [])) c s
stream_hands_out limit a b c x messages message r s p q =
    rw map-append (stream_takes limit a b c x (kinds_and_bodies messages) r message.kind message.contents s p q)

-- a stream has one list of messages, and one rest that isn't whole
pub one_stream : (limit : ℕ) (state : Expects) (bytes : List ℕ) (xs ys : List (ClientMessageKind × List ℕ)) (a b : Expects) (r s : List ℕ) → Stream limit state bytes xs a r → (Whole limit a r → ⊥) → Stream limit state bytes ys b s → (Whole limit b s → ⊥) → (xs ≡ ys) × (a ≡ b) × (r ≡ s)
one_stream limit state bytes [] [] a b r s p n q o = (refl, sym p.0 ∙ q.0, sym p.1 ∙ q.1)
one_stream limit state bytes [] (m ∷ ms) a b r s p n q o =
    let whole : Whole limit state bytes = record { kind = m.0; body = m.1; rest = q.1; next = q.0; begins = q.2 } in
    absurd (n (rw (← p.0, ← p.1) whole))
one_stream limit state bytes (m ∷ ms) [] a b r s p n q o =
    let whole : Whole limit state bytes = record { kind = m.0; body = m.1; rest = p.1; next = p.0; begins = p.2 } in
    absurd (o (rw (← q.0, ← q.1) whole))
one_stream limit state bytes (m ∷ ms) (w ∷ ws) a b r s p n q o =
    let one = one_message limit state bytes m.0 w.0 m.1 w.1 p.1 q.1 p.0 q.0 p.2 q.2 in
    let more = one_stream limit q.0 q.1 ms ws a b r s (rw (one.3, one.2) at p.3) n q.3 o in
    let same : m ≡ w = ap (λ (kind : ClientMessageKind). (kind, m.1)) one.0 ∙ ap (λ (body : List ℕ). (w.0, body)) one.1 in
    let messages : m ∷ ms ≡ w ∷ ws = rw (same, more.0) refl in
    (messages, more.1, more.2)

-- one more piece
joined_step : (pieces : List (Bor (List ℕ))) (i : ℕ) (d : Bor (List ℕ)) → i < length pieces → joined (take (i + 1) pieces) ≡ joined (take i pieces) ++ (get_or pieces i d).now
joined_step pieces i d lt =
    let piece = get_or pieces i d in
    let fronts : take (i + 1) pieces ≡ take i pieces ++ piece ∷ [] = rw add-one (take-suc pieces i d lt) in
    ap joined fronts ∙ joined-append (take i pieces) (piece ∷ []) ∙ ap (λ (l : List ℕ). joined (take i pieces) ++ l) (append-nil piece.now)

-- the stream so far, when a piece is added to what is left
pub stream_fed : (limit : ℕ) (a b : Expects) (pieces : List (Bor (List ℕ))) (i : ℕ) (d : Bor (List ℕ)) (xs : List (ClientMessageKind × List ℕ)) (r s : List ℕ) → i < length pieces → Stream limit a (joined (take i pieces)) xs b r → s ≡ r ++ (get_or pieces i d).now → Stream limit a (joined (take (i + 1) pieces)) xs b s
stream_fed limit a b pieces i d xs r s lt p is = rw (joined_step pieces i d lt, is) (stream_more limit a b (joined (take i pieces)) (get_or pieces i d).now xs r p)

-- the same of a reader
pub reader_fed : (limit : ℕ) (a : Expects) (pieces : List (Bor (List ℕ))) (i : ℕ) (d : Bor (List ℕ)) (xs : List (ClientMessageKind × List ℕ)) (old new : Reading) → i < length pieces → old.limit ≡ limit → Stream limit a (joined (take i pieces)) xs old.expects old.bytes → new ≡ fed old (get_or pieces i d).now → (new.limit ≡ limit) × Stream limit a (joined (take (i + 1) pieces)) xs new.expects new.bytes
reader_fed limit a pieces i d xs old new lt l p is =
    rw is (l, stream_fed limit a old.expects pieces i d xs old.bytes (old.bytes ++ (get_or pieces i d).now) lt p refl)

-- a fault in the first pieces is one in all of them
pub read_to_fault : (limit : ℕ) (b : Expects) (pieces : List (Bor (List ℕ))) (i : ℕ) (xs : List (ClientMessageKind × List ℕ)) (r : List ℕ) (fault : FrontendFault) → Stream limit expects.First (joined (take i pieces)) xs b r → IsStreamFault limit b r fault → IsRead limit (joined pieces) xs (Fault fault)
read_to_fault limit b pieces i xs r fault p f =
    let all : joined pieces ≡ joined (take i pieces) ++ joined (drop i pieces) =
    ap joined (sym (take-append-drop i pieces)) ∙ joined-append (take i pieces) (drop i pieces) in
    record {
      state = b;
      rest = r ++ joined (drop i pieces);
      stream = rw all (stream_more limit expects.First b (joined (take i pieces)) (joined (drop i pieces)) xs r p);
      ends = fault_stays limit b r (joined (drop i pieces)) fault f;
    }

-- what is left at an end is no whole message
end_not_whole : (limit : ℕ) (state : Expects) (rest : List ℕ) (end : ClientStreamEnd) → IsEnd limit state rest end → Whole limit state rest → ⊥
end_not_whole limit state rest (Rest count) p w = whole_wants_none limit state rest w p.1
end_not_whole limit state rest (Fault fault) p w = fault_not_whole limit state rest fault p w

one_end : (limit : ℕ) (state : Expects) (rest : List ℕ) (d e : ClientStreamEnd) → IsEnd limit state rest d → IsEnd limit state rest e → d ≡ e
one_end limit state rest (Rest m) (Rest n) p q = ap Rest (p.0 ∙ sym q.0)
one_end limit state rest (Rest m) (Fault g) p q = absurd (fault_wants_none limit state rest g q p.1)
one_end limit state rest (Fault f) (Rest n) p q = absurd (fault_wants_none limit state rest f p q.1)
one_end limit state rest (Fault f) (Fault g) p q = ap Fault (one_fault limit state rest f g p q)

pub one_read : (limit : ℕ) (bytes : List ℕ) (xs ys : List (ClientMessageKind × List ℕ)) (d e : ClientStreamEnd) → IsRead limit bytes xs d → IsRead limit bytes ys e → (xs ≡ ys) × (d ≡ e)
one_read limit bytes xs ys d e p q =
    let one = one_stream limit expects.First bytes xs ys p.state q.state p.rest q.rest p.stream (end_not_whole limit p.state p.rest d p.ends) q.stream (end_not_whole limit q.state q.rest e q.ends) in
    (one.0, one_end limit q.state q.rest d e (rw (one.1, one.2) at p.ends) q.ends)

-- ---- of readings

same_reading : (a b : Reading) → a.limit ≡ b.limit → a.expects ≡ b.expects → a.bytes ≡ b.bytes → a ≡ b
same_reading a b e f g =
    let limits : a ≡ record a { limit = b.limit } = ap (λ (limit : ℕ). record a { limit = limit }) e in
    limits ∙ ap (λ (state : Expects). record a { limit = b.limit; expects = state }) f ∙ ap (λ (bytes : List ℕ). record b { bytes = bytes }) g

-- a reading takes one list of messages, and becomes one reading that isn't whole
pub one_taken : (old : Reading) (xs ys : List (ClientMessageKind × List ℕ)) (r s : Reading) → ReadsAll TakesMany WholeIn old xs r → ReadsAll TakesMany WholeIn old ys s → (xs ≡ ys) × (r ≡ s)
one_taken old xs ys r s p q =
    let none : Whole old.limit r.expects r.bytes → ⊥ = λ whole. p.1 (rw p.0.limit whole) in
    let other : Whole old.limit s.expects s.bytes → ⊥ = λ whole. q.1 (rw q.0.limit whole) in
    let one = one_stream old.limit old.expects old.bytes xs ys r.expects s.expects r.bytes s.bytes p.0.stream none q.0.stream other in
    (one.0, same_reading r s (p.0.limit ∙ sym q.0.limit) one.1 one.2)

-- what was left, with the bytes that come next, goes on with the stream
pub taken_append : (x : Reading) (y : List ℕ) (xs ys : List (ClientMessageKind × List ℕ)) (r s : Reading) → TakesMany x xs r → TakesMany (fed r y) ys s → TakesMany (fed x y) (xs ++ ys) s
taken_append x y xs ys r s p q = record {
  limit = q.limit ∙ p.limit;
  stream = stream_append x.limit x.expects r.expects s.expects x.bytes y xs ys r.bytes s.bytes p.stream (rw p.limit at q.stream);
}
