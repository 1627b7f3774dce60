-- However a stream was cut into pieces, the same frames came.
use Rattle.std.proofs.Common.{◌≡◌, ◌<◌, ℕ, ℤ, Bool, List, [], ◌∷◌, ◌++◌, length, Option, inl, inr, refl, sym, ap, ◌∙◌, append_assoc, append-nil, arith, length-append}
use Rattle.pg_frames.specs.declared.frontend.frame.Expects.{Expects}
use Rattle.pg_frames.specs.Relay.Answer.{bytes_in, Lead}
use Rattle.pg_frames.specs.Relay.Head.{HasHead, HasLowLength, IsFrame}
use Rattle.pg_frames.specs.Relay.Pass.{IsGiven, HasPassed}
use Rattle.pg_frames.specs.Relay.{Relaying, IsKept, IsRelayError, IsUnfinished}
use Rattle.pg_frames.specs.declared.relay.answer.Answer.{Answer}
use Rattle.pg_frames.specs.declared.relay.error.RelayError.TheVariants.{BadLength}
use Rattle.pg_frames.proofs.RelayHeadLemmas.{head_stays, low_has_no_head, one_head}
use Rattle.pg_frames.proofs.RelayMessagesLemmas.{relayed_lead}
use Rattle.pg_frames.proofs.RelayPassLemmas.{nothing_given}
use Rattle.pg_frames.proofs.RelayLemmas.{unfinished_counts, unfinished_is_not_low}
use Rattle.pg_frames.proofs.RelayRunLemmas.{frame_at, one_frame}

-- no whole frame stands at the front
abbrev pub HasNoFrame : Expects → List ℕ → Type 0
HasNoFrame state bytes = (tag : Option ℕ) (frame after : List ℕ) (next : Expects) → bytes ≡ frame ++ after → IsFrame state tag frame next → ⊥

-- bytes are frames and a rest without one in one way
one_way : (state : Expects) (bytes : List ℕ) (xs ys : List (Option ℕ × List ℕ)) (a b : Expects) (r s : List ℕ) → Lead state xs a → bytes ≡ bytes_in xs ++ r → HasNoFrame a r → Lead state ys b → bytes ≡ bytes_in ys ++ s → HasNoFrame b s → (xs ≡ ys) × (a ≡ b) × (r ≡ s)
one_way state bytes [] [] a b r s p e n q f o = (refl, sym p ∙ q, sym e ∙ f)
one_way state bytes [] (y ∷ ys) a b r s p e n q f o =
    let front : r ≡ y.1 ++ (bytes_in ys ++ s) = sym e ∙ f ∙ append_assoc y.1 (bytes_in ys) s in
    absurd (n y.0 y.1 (bytes_in ys ++ s) q.0 front (rw (← p) q.1))
one_way state bytes (x ∷ xs) [] a b r s p e n q f o =
    let front : s ≡ x.1 ++ (bytes_in xs ++ r) = sym f ∙ e ∙ append_assoc x.1 (bytes_in xs) r in
    absurd (o x.0 x.1 (bytes_in xs ++ r) p.0 front (rw (← q) p.1))
one_way state bytes (x ∷ xs) (y ∷ ys) a b r s p e n q f o =
    let one = one_frame state bytes x.1 y.1 (bytes_in xs ++ r) (bytes_in ys ++ s) x.0 y.0 p.0 q.0 (e ∙ append_assoc x.1 (bytes_in xs) r) (f ∙ append_assoc y.1 (bytes_in ys) s) p.1 q.1 in
    let more = one_way p.0 (bytes_in xs ++ r) xs ys a b r s p.2 refl n (rw one.3 q.2) one.2 o in
    let same : x ≡ y = ap (λ (tag : Option ℕ). (tag, x.1)) one.0 ∙ ap (λ (frame : List ℕ). (y.0, frame)) one.1 in
    let all : x ∷ xs ≡ y ∷ ys = rw (same, more.0) refl in
    (all, more.1, more.2)

-- a front of a frame is none
short_has_no_frame : (state : Expects) (bytes : List ℕ) (tag : Option ℕ) (count : ℕ) → HasHead state bytes tag count → length bytes < count → HasNoFrame state bytes
short_has_no_frame state bytes tag count h short t frame after next e f =
    let counts = (one_head state bytes tag t count (length frame) h (frame_at state bytes frame after t next e f)).1 in
    omega (arith, counts, short, ap length e, length-append frame after)

unfinished_has_no_frame : (limit : ℕ) (state : Expects) (bytes : List ℕ) → IsUnfinished limit state bytes → HasNoFrame state bytes
unfinished_has_no_frame limit state bytes u t frame after next e f =
    omega (arith, unfinished_counts limit state bytes t (length frame) u (frame_at state bytes frame after t next e f), ap length e, length-append frame after)

rest_has_no_frame : (wants : ℕ → ℕ → Bool) (given : List ℕ) (relay : Relaying) → IsGiven wants relay.expects given relay.left → IsKept relay.limit relay.expects relay.held relay.left → HasNoFrame relay.expects (given ++ relay.held)
rest_has_no_frame wants given relay (inl g) k =
    let same : given ++ relay.held ≡ relay.held = ap (λ (l : List ℕ). l ++ relay.held) g.0 in
    rw same (unfinished_has_no_frame relay.limit relay.expects relay.held k.unfinished)
rest_has_no_frame wants given relay (inr g) k =
    let same : given ++ relay.held ≡ given = ap (λ (l : List ℕ). given ++ l) (k.parts g.more) ∙ append-nil given in
    rw same (short_has_no_frame relay.expects given g.tag g.count g.head (omega (arith, g.counts, g.more)))

pub one_passage : {U : Type 0} (wanted : U → ℕ → ℕ → Bool) (Answers : U → Option ℕ → List ℕ → Answer → List ℕ → U → Type 0) (start : Expects) (first : U) (bytes a b : List ℕ) (u v : U) (r s : Relaying) (p : HasPassed wanted Answers start first bytes a u r) (q : HasPassed wanted Answers start first bytes b v s) → IsKept r.limit r.expects r.held r.left → IsKept s.limit s.expects s.held s.left → (p.came ≡ q.came) × (r.expects ≡ s.expects) × (p.given ++ r.held ≡ q.given ++ s.held)
one_passage wanted Answers start first bytes a b u v r s p q k l =
    one_way start bytes p.came q.came r.expects s.expects (p.given ++ r.held) (q.given ++ s.held) (relayed_lead wanted Answers r.limit start first p.came p.sent r.expects u p.relayed).0 p.bytes_are (rest_has_no_frame (wanted u) p.given r p.part k) (relayed_lead wanted Answers s.limit start first q.came q.sent s.expects v q.relayed).0 q.bytes_are (rest_has_no_frame (wanted v) q.given s q.part l)

-- a length that is too low is the end of a stream: no frame begins with it, and nothing of it is given or held
low_has_no_frame : (state : Expects) (bytes : List ℕ) (announced : ℤ) → HasLowLength state bytes announced → HasNoFrame state bytes
low_has_no_frame state bytes announced low t frame after next e f =
    low_has_no_head state bytes announced t (length frame) low (frame_at state bytes frame after t next e f)

rest_is_not_low : (wants : ℕ → ℕ → Bool) (given : List ℕ) (relay : Relaying) (announced : ℤ) → IsGiven wants relay.expects given relay.left → IsKept relay.limit relay.expects relay.held relay.left → HasLowLength relay.expects (given ++ relay.held) announced → ⊥
rest_is_not_low wants given relay announced (inl g) k low =
    let same : given ++ relay.held ≡ relay.held = ap (λ (l : List ℕ). l ++ relay.held) g.0 in
    unfinished_is_not_low relay.limit relay.expects relay.held announced k.unfinished (rw same at low)
rest_is_not_low wants given relay announced (inr g) k low =
    low_has_no_head relay.expects (given ++ relay.held) announced g.tag g.count low (head_stays relay.expects given relay.held g.tag g.count g.head)

pub low_stops : {U : Type 0} (wanted : U → ℕ → ℕ → Bool) (Answers : U → Option ℕ → List ℕ → Answer → List ℕ → U → Type 0) (start : Expects) (first : U) (before rest a b : List ℕ) (u v : U) (r s : Relaying) (announced : ℤ) → HasPassed wanted Answers start first before a u r → IsRelayError (wanted u) r rest (BadLength announced) → HasPassed wanted Answers start first (before ++ rest) b v s → IsKept s.limit s.expects s.held s.left → ⊥
low_stops wanted Answers start first before rest a b u v r s announced passed is q k =
    let nothing : passed.given ≡ [] = nothing_given (wanted u) r.expects passed.given r.left is.0 passed.part in
    let front : before ≡ bytes_in passed.came ++ r.held = passed.bytes_are ∙ ap (λ (l : List ℕ). bytes_in passed.came ++ (l ++ r.held)) nothing in
    let all : before ++ rest ≡ bytes_in passed.came ++ (r.held ++ rest) = ap (λ (l : List ℕ). l ++ rest) front ∙ append_assoc (bytes_in passed.came) r.held rest in
    let one = one_way start (before ++ rest) passed.came q.came r.expects s.expects (r.held ++ rest) (q.given ++ s.held) (relayed_lead wanted Answers r.limit start first passed.came passed.sent r.expects u passed.relayed).0 all (low_has_no_frame r.expects (r.held ++ rest) announced is.1) (relayed_lead wanted Answers s.limit start first q.came q.sent s.expects v q.relayed).0 q.bytes_are (rest_has_no_frame (wanted v) q.given s q.part k) in
    rest_is_not_low (wanted v) q.given s announced q.part k (rw (one.1, one.2) at is.1)
