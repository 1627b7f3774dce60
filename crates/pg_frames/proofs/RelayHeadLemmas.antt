-- How a frame begins is known by the bytes of its head alone, and in one way.
use Rattle.std.proofs.Common.{◌≡◌, ◌+◌, ◌<◌, ◌≤◌, ℕ, ℤ, pos, List, [], ◌∷◌, ◌++◌, length, take, drop, Option, None, Some, refl, sym, ap, ◌∙◌, arith}
use Rattle.std.proofs.lemmas.Int.{ints}
use Rattle.std.proofs.lemmas.List.{take-append-le, take-append-drop}
use Rattle.std.proofs.Math.Seq.{take-append_seam}
use Rattle.pg_base.specs.Reading.{Signed}
use Rattle.pg_base.proofs.ReadingLemmas.{signed_fits}
use Rattle.pg_frames.specs.Stream.{Announces}
use Rattle.pg_frames.proofs.FramingLemmas.{one_announced, announces_fits, announces_stays}
use Rattle.pg_frames.proofs.FrontendFrameLemmas.{one_length, first_announces_stays}
use Rattle.pg_frames.specs.Frontend.Frame.{AnnouncesFirst}
use Rattle.pg_frames.specs.declared.frontend.frame.Expects.{Expects}
use Rattle.pg_frames.specs.declared.frontend.frame.Expects.TheVariants as expects
use Rattle.pg_frames.specs.Relay.Head.{HasHead, HasLowLength, head_length}

pub head_positive : (state : Expects) → 0 < head_length state
head_positive expects.First = omega arith
head_positive expects.Tagged = omega arith

-- a number at the front of bytes stands in as many of them as it has
signed_front : (width : ℕ) (x y : List ℕ) (z : ℤ) (rest : List ℕ) → Signed width (x ++ y) z rest → width ≤ length x → Signed width x z (drop width x)
signed_front width x y z rest p le =
    let spelled : take width (p.spelled ++ rest) ≡ p.spelled = sym (ap (λ (n : ℕ). take n (p.spelled ++ rest)) p.wide) ∙ take-append_seam p.spelled rest in
    let front : take width x ≡ p.spelled = sym (take-append-le width x y le) ∙ ap (λ (l : List ℕ). take width l) p.parts ∙ spelled in
    record {
      spelled = p.spelled;
      wide = p.wide;
      is = p.is;
      parts = sym (take-append-drop width x) ∙ ap (λ (l : List ℕ). l ++ drop width x) front;
    }

announces_front : (x y : List ℕ) (tag : ℕ) (z : ℤ) → 5 ≤ length x → Announces (x ++ y) tag z → Announces x tag z
announces_front [] y tag z le p = absurd (omega (arith, le))
announces_front (b ∷ bs) y tag z le p =
    let e : b ∷ (bs ++ y) ≡ tag ∷ p.after = p.parts in
    let tags : b ≡ tag = cc in
    let afters : bs ++ y ≡ p.after = cc in
    let counted : Signed 4 (bs ++ y) z p.rest = rw afters p.counted in
    record { after = bs; rest = drop 4 bs; counted = signed_front 4 bs y z p.rest counted (omega (arith, le)); parts = ap (λ (byte : ℕ). byte ∷ bs) tags }

first_announces_front : (x y : List ℕ) (z : ℤ) → 4 ≤ length x → AnnouncesFirst (x ++ y) z → AnnouncesFirst x z
first_announces_front x y z le p = record { rest = drop 4 x; counted = signed_front 4 x y z p.rest p.counted le }

-- how a frame begins stands in the bytes of its head
pub head_front : (state : Expects) (x y : List ℕ) (tag : Option ℕ) (count : ℕ) → head_length state ≤ length x → HasHead state (x ++ y) tag count → HasHead state x tag count
head_front expects.First x y None count le p = record { announces = first_announces_front x y (pos count) le p.announces; least = p.least }
head_front expects.First x y (Some t) count le p = p
head_front expects.Tagged x y None count le p = p
head_front expects.Tagged x y (Some t) count le p = record { announced = p.announced; announces = announces_front x y t (pos p.announced) le p.announces; least = p.least; most = p.most; is = p.is }

-- and what comes next changes nothing of it
pub head_stays : (state : Expects) (x y : List ℕ) (tag : Option ℕ) (count : ℕ) → HasHead state x tag count → HasHead state (x ++ y) tag count
head_stays expects.First x y None count p = record { announces = first_announces_stays x y (pos count) p.announces; least = p.least }
head_stays expects.First x y (Some t) count p = p
head_stays expects.Tagged x y None count p = p
head_stays expects.Tagged x y (Some t) count p = record { announced = p.announced; announces = announces_stays x y t (pos p.announced) p.announces; least = p.least; most = p.most; is = p.is }

-- a frame begins in one way
pub one_head : (state : Expects) (bytes : List ℕ) (s t : Option ℕ) (m n : ℕ) → HasHead state bytes s m → HasHead state bytes t n → (s ≡ t) × (m ≡ n)
one_head expects.First bytes None None m n p q =
    let counts : pos m ≡ pos n = one_length bytes (pos m) (pos n) p.announces q.announces in
    let same : m ≡ n = cc in
    (refl, same)
one_head expects.First bytes None (Some t) m n p q = absurd q
one_head expects.First bytes (Some s) t m n p q = absurd p
one_head expects.Tagged bytes None t m n p q = absurd p
one_head expects.Tagged bytes (Some s) None m n p q = absurd q
one_head expects.Tagged bytes (Some s) (Some t) m n p q =
    let one = one_announced bytes s t (pos p.announced) (pos q.announced) p.announces q.announces in
    let counts : pos p.announced ≡ pos q.announced = one.1 in
    let same : p.announced ≡ q.announced = cc in
    (ap Some one.0, p.is ∙ ap (λ (n : ℕ). 1 + n) same ∙ sym q.is)

-- a frame has its head
pub head_fits : (state : Expects) (bytes : List ℕ) (tag : Option ℕ) (count : ℕ) → HasHead state bytes tag count → (head_length state ≤ length bytes) × (head_length state ≤ count)
head_fits expects.First bytes None count p = (omega (arith, signed_fits 4 bytes (pos count) p.announces.rest p.announces.counted), omega (arith, p.least))
head_fits expects.First bytes (Some t) count p = absurd p
head_fits expects.Tagged bytes None count p = absurd p
head_fits expects.Tagged bytes (Some t) count p = (announces_fits bytes t (pos p.announced) p.announces, omega (arith, p.least, p.is))

-- the same of a length that is too low
pub low_fits : (state : Expects) (bytes : List ℕ) (announced : ℤ) → HasLowLength state bytes announced → head_length state ≤ length bytes
low_fits expects.First bytes announced p = omega (arith, signed_fits 4 bytes announced p.announces.rest p.announces.counted)
low_fits expects.Tagged bytes announced p = announces_fits bytes p.tag announced p.announces

pub low_stays : (state : Expects) (x y : List ℕ) (announced : ℤ) → HasLowLength state x announced → HasLowLength state (x ++ y) announced
low_stays expects.First x y announced p = record { announces = first_announces_stays x y announced p.announces; low = p.low }
low_stays expects.Tagged x y announced p = record { tag = p.tag; announces = announces_stays x y p.tag announced p.announces; low = p.low }

pub low_has_no_head : (state : Expects) (bytes : List ℕ) (announced : ℤ) (tag : Option ℕ) (count : ℕ) → HasLowLength state bytes announced → HasHead state bytes tag count → ⊥
low_has_no_head expects.First bytes announced None count p q =
    let one : announced ≡ pos count = one_length bytes announced (pos count) p.announces q.announces in
    omega (arith, ints, one, p.low, q.least)
low_has_no_head expects.First bytes announced (Some t) count p q = q
low_has_no_head expects.Tagged bytes announced None count p q = q
low_has_no_head expects.Tagged bytes announced (Some t) count p q =
    let one = one_announced bytes p.tag t announced (pos q.announced) p.announces q.announces in
    omega (arith, ints, one.1, p.low, q.least)
