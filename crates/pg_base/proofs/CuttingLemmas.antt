-- Bytes are cut into messages in one way only.
use Rattle.std.proofs.Common.{◌≡◌, ℕ, ◌+◌, ◌/◌, ◌%◌, ◌<◌, ◌≤◌, List, [], ◌∷◌, ◌++◌, length, pos, refl, sym, ap, ◌∙◌, arith, append_assoc}
use Rattle.std.proofs.lemmas.Bool.{lt-ltb}
use Rattle.pg_base.specs.Numbers.{be32, int}
use Rattle.pg_base.specs.Cutting.{max_length, Begins, Cut, IsCutInto, frame}

-- equal lists split in equal parts where the fronts are as long
pub parts_at : (a b x y : List ℕ) → length a ≡ length b → a ++ x ≡ b ++ y → (a ≡ b) × (x ≡ y)
parts_at [] [] x y len e = (refl, e)
parts_at [] (b ∷ bs) x y len e = absurd (omega (arith, len))
parts_at (a ∷ as') [] x y len e = absurd (omega (arith, len))
parts_at (a ∷ as') (b ∷ bs) x y len e =
    let tails : as' ++ x ≡ bs ++ y = cc in
    let heads : a ≡ b = cc in
    let more = parts_at as' bs x y (omega (arith, len)) tails in
    (rw (heads, more.0) refl, more.1)

-- four bytes of a number below 2 ^ 31, read as a signed number
pub int_be32 : (n : ℕ) → n ≤ max_length → int (be32 n) ≡ pos n
int_be32 n small =
    let top : n / 16777216 % 256 < 128 = omega arith in
    rw (lt-ltb (n / 16777216 % 256) 128 top) (ap pos (omega arith))

-- what a frame begins with
pub frame_begins : (tag : ℕ) (body rest : List ℕ) → 4 + length body ≤ max_length → Begins (frame tag body ++ rest) tag body rest
frame_begins tag body rest fits = record {
  field = be32 (length body + 4);
  wide = refl;
  counts = int_be32 (length body + 4) (omega arith) ∙ ap pos (omega arith);
  fits = fits;
  parts = ap (λ (l : List ℕ). tag ∷ l) (append_assoc (be32 (length body + 4)) body rest);
}

-- two first messages of the same bytes are one, and leave the same rest
pub one_first : (bytes : List ℕ) (s t : ℕ) (a b x y : List ℕ) → Begins bytes s a x → Begins bytes t b y → (s ≡ t) × (a ≡ b) × (x ≡ y)
one_first bytes s t a b x y p q =
    let e : s ∷ (p.field ++ a ++ x) ≡ t ∷ (q.field ++ b ++ y) = sym p.parts ∙ q.parts in
    let tags : s ≡ t = cc in
    let after : p.field ++ a ++ x ≡ q.field ++ b ++ y = cc in
    let fields = parts_at p.field q.field (a ++ x) (b ++ y) (p.wide ∙ sym q.wide) (sym (append_assoc p.field a x) ∙ after ∙ append_assoc q.field b y) in
    let counts : pos (4 + length a) ≡ pos (4 + length b) = sym p.counts ∙ ap int fields.0 ∙ q.counts in
    let lengths : 4 + length a ≡ 4 + length b = cc in
    let bodies = parts_at a b x y (omega (arith, lengths)) fields.1 in
    (tags, bodies.0, bodies.1)

pub one_cut : (bytes : List ℕ) (xs ys : List (ℕ × List ℕ)) → Cut bytes xs → Cut bytes ys → xs ≡ ys
one_cut bytes [] [] p q = refl
one_cut bytes [] (y ∷ ys) p q = let e = sym p ∙ q.1.parts in absurd cc
one_cut bytes (x ∷ xs) [] p q = let e = sym q ∙ p.1.parts in absurd cc
one_cut bytes (x ∷ xs) (y ∷ ys) p q =
    let one = one_first bytes x.0 y.0 x.1 y.1 p.0 q.0 p.1 q.1 in
    let more = one_cut q.0 xs ys (rw one.2 at p.2) q.2 in
    let same : x ≡ y = ap (λ (tag : ℕ). (tag, x.1)) one.0 ∙ ap (λ (body : List ℕ). (y.0, body)) one.1 in
    cc

-- one more frame at the front of what is cut is one more message
pub cut_frame : (tag : ℕ) (body rest : List ℕ) (messages : List (ℕ × List ℕ)) → 4 + length body ≤ max_length → Cut rest messages → Cut (frame tag body ++ rest) ((tag, body) ∷ messages)
cut_frame tag body rest messages fits cut = (rest, frame_begins tag body rest fits, cut)

pub is_cut_into : (bytes : List ℕ) (messages : List (ℕ × List ℕ)) → Cut bytes messages → IsCutInto bytes messages
is_cut_into bytes messages cut = record { cut = cut; only = λ others other. one_cut bytes others messages other cut }
