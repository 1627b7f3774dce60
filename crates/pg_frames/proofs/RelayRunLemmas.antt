-- Bytes are frames one after the other in one way.
use Rattle.std.specs.Prelude.{◌==◌}
use Rattle.std.proofs.Common.{◌≡◌, ◌<◌, ◌≤◌, ℕ, ℤ, Bool, true, false, List, [], ◌∷◌, ◌++◌, length, Option, refl, sym, ap, ◌∙◌, arith, length-append}
use Rattle.std.proofs.lemmas.Bool.{eqb-true}
use Rattle.pg_base.proofs.CuttingLemmas.{parts_at}
use Rattle.pg_frames.specs.Frontend.Frame.{Follows}
use Rattle.pg_frames.specs.declared.frontend.frame.Expects.{Expects}
use Rattle.pg_frames.specs.declared.frontend.frame.Expects.TheVariants as expects
use Rattle.pg_frames.specs.Relay.Answer.{bytes_in, Lead, IsRun}
use Rattle.pg_frames.specs.Relay.Head.{HasHead, HasLowLength, IsFrame, IsNext, head_length}
use Rattle.pg_frames.specs.Relay.{IsHeadFault}
use Rattle.pg_frames.specs.declared.relay.error.RelayError.{RelayError}
use Rattle.pg_frames.specs.declared.relay.error.RelayError.TheVariants.{BadLength, TooLong, NotFrames, OutOfMemory}
use Rattle.pg_frames.proofs.RelayHeadLemmas.{head_positive, head_stays, one_head, head_fits, low_has_no_head}

one_follower : (body : List ℕ) (a b : Expects) → Follows body a → Follows body b → a ≡ b
one_follower body expects.First expects.First p q = refl
one_follower body expects.First expects.Tagged p q = absurd (q p)
one_follower body expects.Tagged expects.First p q = absurd (p q)
one_follower body expects.Tagged expects.Tagged p q = refl

pub one_next : (state : Expects) (frame : List ℕ) (a b : Expects) → IsNext state frame a → IsNext state frame b → a ≡ b
one_next expects.First frame a b p q = one_follower _ a b p q
one_next expects.Tagged frame a b p q = p ∙ sym q

-- a frame at the front of bytes is the one whose head stands there
pub frame_at : (state : Expects) (bytes frame after : List ℕ) (tag : Option ℕ) (next : Expects) → bytes ≡ frame ++ after → IsFrame state tag frame next → HasHead state bytes tag (length frame)
frame_at state bytes frame after tag next e f = rw e (head_stays state frame after tag (length frame) f.head)

pub one_frame : (state : Expects) (bytes x y a b : List ℕ) (s t : Option ℕ) (m n : Expects) → bytes ≡ x ++ a → bytes ≡ y ++ b → IsFrame state s x m → IsFrame state t y n → (s ≡ t) × (x ≡ y) × (a ≡ b) × (m ≡ n)
one_frame state bytes x y a b s t m n e f p q =
    let one = one_head state bytes s t (length x) (length y) (frame_at state bytes x a s m e p) (frame_at state bytes y b t n f q) in
    let parts = parts_at x y a b one.1 (sym e ∙ f) in
    (one.0, parts.0, parts.1, one_next state y m n (rw parts.0 at p.follows) q.follows)

-- one frame more at the front
pub run_more : (state : Expects) (rest frame after : List ℕ) (tag : Option ℕ) (next last : Expects) → rest ≡ frame ++ after → IsFrame state tag frame next → IsRun next after last → IsRun state rest last
run_more state rest frame after tag next last e f r = record {
  frames = (tag, frame) ∷ r.frames;
  lead = (next, f, r.lead);
  are = e ∙ ap (λ (l : List ℕ). frame ++ l) r.are;
}

frame_length : (state : Expects) (frame : List ℕ) (tag : Option ℕ) (next : Expects) → IsFrame state tag frame next → 0 < length frame
frame_length state frame tag next f = omega (arith, head_positive state, (head_fits state frame tag (length frame) f.head).1)

less : (state : Expects) (rest frame after : List ℕ) (tag : Option ℕ) (next last : Expects) (frames : List (Option ℕ × List ℕ)) → rest ≡ frame ++ after → IsFrame state tag frame next → Lead state frames last → rest ≡ bytes_in frames → IsRun next after last
less state rest frame after tag next last [] e f lead are =
    absurd (omega (arith, frame_length state frame tag next f, ap length (sym e ∙ are), length-append frame after))
less state rest frame after tag next last (m ∷ ms) e f lead are =
    let one = one_frame state rest frame m.1 after (bytes_in ms) tag m.0 next lead.0 e are f lead.1 in
    record { frames = ms; lead = rw one.3 lead.2; are = one.2 }

-- and one less
pub run_less : (state : Expects) (rest frame after : List ℕ) (tag : Option ℕ) (next last : Expects) → rest ≡ frame ++ after → IsFrame state tag frame next → IsRun state rest last → IsRun next after last
run_less state rest frame after tag next last e f r = less state rest frame after tag next last r.frames e f r.lead r.are

pub some_bytes : (bytes : List ℕ) (empty : Bool) → empty ≡ (length bytes == 0) → empty ≡ false → 0 < length bytes
some_bytes [] empty e f = absurd (let clash : true ≡ false = sym e ∙ f in cc)
some_bytes (b ∷ bs) empty e f = omega arith

pub no_bytes : (bytes : List ℕ) (empty : Bool) → empty ≡ (length bytes == 0) → empty ≡ true → bytes ≡ []
no_bytes [] empty e f = refl
no_bytes (b ∷ bs) empty e f = absurd (omega (arith, eqb-true (length (b ∷ bs)) 0 (sym e ∙ f)))

pub no_frames : (state : Expects) (rest : List ℕ) → rest ≡ [] → IsRun state rest state
no_frames state rest e = record { frames = []; lead = refl; are = e }

front : (state : Expects) (rest : List ℕ) (last : Expects) (frames : List (Option ℕ × List ℕ)) → 0 < length rest → Lead state frames last → rest ≡ bytes_in frames → (tag : Option ℕ) × (count : ℕ) × HasHead state rest tag count × (count ≤ length rest)
front state rest last [] some lead are = absurd (omega (arith, some, ap length are))
front state rest last (m ∷ ms) some lead are =
    (m.0, length m.1, frame_at state rest m.1 (bytes_in ms) m.0 lead.0 are lead.1, omega (arith, ap length are, length-append m.1 (bytes_in ms)))

-- bytes that are frames begin with one of them
front_of_run : (state : Expects) (rest : List ℕ) (last : Expects) → 0 < length rest → IsRun state rest last → (tag : Option ℕ) × (count : ℕ) × HasHead state rest tag count × (count ≤ length rest)
front_of_run state rest last some r = front state rest last r.frames some r.lead r.are

pub unknown_is_no_run : (state : Expects) (rest : List ℕ) (last : Expects) → 0 < length rest → length rest < head_length state → IsRun state rest last → ⊥
unknown_is_no_run state rest last some short r =
    let f = front_of_run state rest last some r in
    omega (arith, short, (head_fits state rest f.0 f.1 f.2).0)

low_is_no_run : (state : Expects) (rest : List ℕ) (last : Expects) (announced : ℤ) → 0 < length rest → HasLowLength state rest announced → IsRun state rest last → ⊥
low_is_no_run state rest last announced some low r =
    let f = front_of_run state rest last some r in
    low_has_no_head state rest announced f.0 f.1 low f.2

pub fault_is_no_run : (state : Expects) (rest : List ℕ) (last : Expects) (error : RelayError) → 0 < length rest → IsHeadFault state rest error → IsRun state rest last → ⊥
fault_is_no_run state rest last (BadLength announced) some f r = low_is_no_run state rest last announced some f r
fault_is_no_run state rest last (TooLong count most) some f r = f
fault_is_no_run state rest last NotFrames some f r = f
fault_is_no_run state rest last OutOfMemory some f r = f

pub short_is_no_run : (state : Expects) (rest : List ℕ) (last : Expects) (tag : Option ℕ) (count : ℕ) → 0 < length rest → HasHead state rest tag count → length rest < count → IsRun state rest last → ⊥
short_is_no_run state rest last tag count some head short r =
    let f = front_of_run state rest last some r in
    omega (arith, short, (one_head state rest tag f.0 count f.1 head f.2).1, f.3)

ends : (state : Expects) (rest : List ℕ) (a b : Expects) (xs ys : List (Option ℕ × List ℕ)) → Lead state xs a → rest ≡ bytes_in xs → Lead state ys b → rest ≡ bytes_in ys → a ≡ b
ends state rest a b [] [] p e q f = sym p ∙ q
ends state rest a b [] (y ∷ ys) p e q f =
    absurd (omega (arith, frame_length state y.1 y.0 q.0 q.1, ap length (sym e ∙ f), length-append y.1 (bytes_in ys)))
ends state rest a b (x ∷ xs) [] p e q f =
    absurd (omega (arith, frame_length state x.1 x.0 p.0 p.1, ap length (sym f ∙ e), length-append x.1 (bytes_in xs)))
ends state rest a b (x ∷ xs) (y ∷ ys) p e q f =
    let one = one_frame state rest x.1 y.1 (bytes_in xs) (bytes_in ys) x.0 y.0 p.0 q.0 e f p.1 q.1 in
    ends p.0 (bytes_in xs) a b xs ys p.2 refl (rw one.3 q.2) one.2

-- what is expected after frames
pub one_end_of_run : (state : Expects) (rest : List ℕ) (a b : Expects) → IsRun state rest a → IsRun state rest b → a ≡ b
one_end_of_run state rest a b p q = ends state rest a b p.frames q.frames p.lead p.are q.lead q.are
