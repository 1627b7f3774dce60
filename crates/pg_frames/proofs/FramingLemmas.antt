-- The front of a stream whose messages have tags is one of three: a whole message, one that goes on, or a fault.
use Rattle.std.proofs.Common.{◌≡◌, ◌+◌, ◌≤◌, ℕ, ℤ, pos, List, ◌∷◌, ◌++◌, length, inl, inr, sym, ap, ◌∙◌, append_assoc, arith, length-append}
use Rattle.std.proofs.lemmas.Int.{ints}
use Rattle.pg_base.specs.Cutting.{Begins}
use Rattle.pg_base.specs.Reading.{Signed}
use Rattle.pg_base.proofs.ReadingLemmas.{one_signed, signed_fits}
use Rattle.pg_frames.specs.Framing.{Framing, Announces, Whole, WantsMore, HasBadLength, IsFault}

-- ---- what is announced

-- the first five bytes announce one message
pub one_announced : (bytes : List ℕ) (s t : ℕ) (x y : ℤ) → Announces bytes s x → Announces bytes t y → (s ≡ t) × (x ≡ y)
one_announced bytes s t x y p q =
    let e : s ∷ p.after ≡ t ∷ q.after = sym p.parts ∙ q.parts in
    let tags : s ≡ t = cc in
    let afters : p.after ≡ q.after = cc in
    let counted : Signed 4 q.after x p.rest = rw (← afters) p.counted in
    (tags, (one_signed 4 q.after x y p.rest q.rest counted q.counted).0)

-- a whole message is announced
pub begins_announces : (bytes : List ℕ) (tag : ℕ) (body rest : List ℕ) → Begins bytes tag body rest → Announces bytes tag (pos (4 + length body))
begins_announces bytes tag body rest p = record {
  after = p.field ++ body ++ rest;
  rest = body ++ rest;
  counted = record { spelled = p.field; wide = p.wide; is = sym p.counts; parts = append_assoc p.field body rest };
  parts = p.parts;
}

-- its five bytes, its body and the rest are all the bytes
pub begins_fits : (bytes : List ℕ) (tag : ℕ) (body rest : List ℕ) → Begins bytes tag body rest → length bytes ≡ 5 + length body + length rest
begins_fits bytes tag body rest p =
    omega (arith, ap length p.parts, length-append (p.field ++ body) rest, length-append p.field body, p.wide)

-- a message or a fault is announced by five bytes
pub announces_fits : (bytes : List ℕ) (tag : ℕ) (announced : ℤ) → Announces bytes tag announced → 5 ≤ length bytes
announces_fits bytes tag announced p = omega (arith, ap length p.parts, signed_fits 4 p.after announced p.rest p.counted)

-- what comes next changes nothing of a number at the front, nor of what is announced
pub signed_stays : (width : ℕ) (x y : List ℕ) (z : ℤ) (rest : List ℕ) → Signed width x z rest → Signed width (x ++ y) z (rest ++ y)
signed_stays width x y z rest p = record {
  spelled = p.spelled;
  wide = p.wide;
  is = p.is;
  parts = ap (λ (l : List ℕ). l ++ y) p.parts ∙ append_assoc p.spelled rest y;
}

pub announces_stays : (bytes more : List ℕ) (tag : ℕ) (announced : ℤ) → Announces bytes tag announced → Announces (bytes ++ more) tag announced
announces_stays bytes more tag announced p = record {
  after = p.after ++ more;
  rest = p.rest ++ more;
  counted = signed_stays 4 p.after more announced p.rest p.counted;
  parts = ap (λ (l : List ℕ). l ++ more) p.parts;
}

-- ---- by the tags that are known

module _ {F : Type 0} (framing : Framing F) where
  pub whole_wants_none : (bytes : List ℕ) → Whole framing bytes → WantsMore framing bytes → ⊥
  whole_wants_none bytes p (inl short) = omega (arith, short, begins_fits bytes p.tag p.body p.rest p.begins)
  whole_wants_none bytes p (inr on) =
      let one = one_announced bytes p.tag on.tag (pos (4 + length p.body)) (pos on.announced) (begins_announces bytes p.tag p.body p.rest p.begins) on.announces in
      let counts : pos (4 + length p.body) ≡ pos on.announced = one.1 in
      let same : 4 + length p.body ≡ on.announced = cc in
      omega (arith, same, on.short, begins_fits bytes p.tag p.body p.rest p.begins)

  pub low_not_whole : (bytes : List ℕ) (fault : F) → HasBadLength framing bytes fault → Whole framing bytes → ⊥
  low_not_whole bytes fault f p =
      let one = one_announced bytes p.tag f.tag (pos (4 + length p.body)) f.announced (begins_announces bytes p.tag p.body p.rest p.begins) f.announces in
      omega (arith, ints, one.1, f.low)

  pub fault_not_whole : (bytes : List ℕ) (fault : F) → IsFault framing bytes fault → Whole framing bytes → ⊥
  fault_not_whole bytes fault (inl f) p =
      let one = one_announced bytes p.tag f.tag (pos (4 + length p.body)) f.announced (begins_announces bytes p.tag p.body p.rest p.begins) f.announces in
      f.unknown (rw (← one.0) p.known)
  fault_not_whole bytes fault (inr f) p = low_not_whole bytes fault f p

  pub low_wants_none : (bytes : List ℕ) (fault : F) → HasBadLength framing bytes fault → WantsMore framing bytes → ⊥
  low_wants_none bytes fault f (inl short) = omega (arith, short, announces_fits bytes f.tag f.announced f.announces)
  low_wants_none bytes fault f (inr on) =
      let one = one_announced bytes on.tag f.tag (pos on.announced) f.announced on.announces f.announces in
      omega (arith, ints, one.1, f.low, on.least)

  pub fault_wants_none : (bytes : List ℕ) (fault : F) → IsFault framing bytes fault → WantsMore framing bytes → ⊥
  fault_wants_none bytes fault (inl f) (inl short) = omega (arith, short, announces_fits bytes f.tag f.announced f.announces)
  fault_wants_none bytes fault (inl f) (inr on) =
      let one = one_announced bytes on.tag f.tag (pos on.announced) f.announced on.announces f.announces in
      f.unknown (rw (← one.0) on.known)
  fault_wants_none bytes fault (inr f) wants = low_wants_none bytes fault f wants

  pub one_low : (bytes : List ℕ) (f g : F) → HasBadLength framing bytes f → HasBadLength framing bytes g → f ≡ g
  one_low bytes f g p q = p.is ∙ ap framing.bad_length (one_announced bytes p.tag q.tag p.announced q.announced p.announces q.announces).1 ∙ sym q.is

  pub one_fault : (bytes : List ℕ) (f g : F) → IsFault framing bytes f → IsFault framing bytes g → f ≡ g
  one_fault bytes f g (inl p) (inl q) = p.is ∙ ap framing.unknown_tag (one_announced bytes p.tag q.tag p.announced q.announced p.announces q.announces).0 ∙ sym q.is
  one_fault bytes f g (inl p) (inr q) = absurd (p.unknown (rw (one_announced bytes p.tag q.tag p.announced q.announced p.announces q.announces).0 q.known))
  one_fault bytes f g (inr p) (inl q) = absurd (q.unknown (rw (one_announced bytes q.tag p.tag q.announced p.announced q.announces p.announces).0 p.known))
  one_fault bytes f g (inr p) (inr q) = one_low bytes f g p q

  pub low_stays : (bytes more : List ℕ) (fault : F) → HasBadLength framing bytes fault → HasBadLength framing (bytes ++ more) fault
  low_stays bytes more fault f = record { tag = f.tag; announced = f.announced; announces = announces_stays bytes more f.tag f.announced f.announces; known = f.known; low = f.low; is = f.is }

  pub fault_stays : (bytes more : List ℕ) (fault : F) → IsFault framing bytes fault → IsFault framing (bytes ++ more) fault
  fault_stays bytes more fault (inl f) = inl (record { tag = f.tag; announced = f.announced; announces = announces_stays bytes more f.tag f.announced f.announces; unknown = f.unknown; is = f.is })
  fault_stays bytes more fault (inr f) = inr (low_stays bytes more fault f)

-- ---- where more tags are known

module _ {F G : Type 0} (few : Framing F) (many : Framing G) (known : (tag : ℕ) → few.Known tag → many.Known tag) where
  pub more_whole : (bytes : List ℕ) → Whole few bytes → Whole many bytes
  more_whole bytes p = record { tag = p.tag; body = p.body; rest = p.rest; known = known p.tag p.known; begins = p.begins }

  pub more_wants : (bytes : List ℕ) → WantsMore few bytes → WantsMore many bytes
  more_wants bytes (inl short) = inl short
  more_wants bytes (inr on) = inr (record { tag = on.tag; announced = on.announced; announces = on.announces; known = known on.tag on.known; least = on.least; short = on.short })
