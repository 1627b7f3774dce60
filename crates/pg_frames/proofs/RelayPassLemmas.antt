-- Frames that came and frames that went out, step by step.
use Rattle.std.proofs.Common.{◌≡◌, ◌+◌, ◌⊎◌, ℕ, Bool, true, false, List, [], ◌∷◌, ◌++◌, length, Option, None, Some, inl, inr, refl, sym, ap, ◌∙◌, append_assoc, append-nil, arith, length-append}
use Rattle.pg_frames.specs.declared.frontend.frame.Expects.{Expects}
use Rattle.pg_frames.specs.declared.frontend.frame.Expects.TheVariants as expects
use Rattle.pg_frames.specs.Relay.Answer.{bytes_in, Lead, Fits, placed}
use Rattle.pg_frames.specs.Relay.Head.{HasHead, IsFrame, IsNext}
use Rattle.pg_frames.specs.Relay.Pass.{GoOut, IsAnswered, IsUnasked, Relayed, IsGiven}
use Rattle.pg_frames.specs.Relay.{Relaying, is_wanted, BeginsInParts, GoesOnInParts}
use Rattle.pg_frames.specs.declared.relay.answer.Answer.{Answer}
use Rattle.pg_frames.specs.declared.relay.answer.Answer.TheVariants.{Keep, Omit, Replace, AddBefore, AddAfter}
use Rattle.pg_frames.proofs.RelayHeadLemmas.{head_stays}

pub bytes_in-append : (xs ys : List (Option ℕ × List ℕ)) → bytes_in (xs ++ ys) ≡ bytes_in xs ++ bytes_in ys
bytes_in-append [] ys = refl
bytes_in-append (x ∷ xs) ys = ap (λ (l : List ℕ). x.1 ++ l) (bytes_in-append xs ys) ∙ sym (append_assoc x.1 (bytes_in xs) (bytes_in ys))

pub bytes_in-one : (xs : List (Option ℕ × List ℕ)) (x : Option ℕ × List ℕ) → bytes_in (xs ++ x ∷ []) ≡ bytes_in xs ++ x.1
bytes_in-one xs x = bytes_in-append xs (x ∷ []) ∙ ap (λ (l : List ℕ). bytes_in xs ++ l) (append-nil x.1)

pub lead_append : (xs ys : List (Option ℕ × List ℕ)) (a b c : Expects) → Lead a xs b → Lead b ys c → Lead a (xs ++ ys) c
lead_append [] ys a b c p q = rw p q
lead_append (x ∷ xs) ys a b c p q = (p.0, p.1, lead_append xs ys p.0 b c p.2 q)

-- the frames that an answer puts in a frame's place, and their bytes
pub goes_out : (answer : Answer) (state : Expects) (frame : Option ℕ × List ℕ) (next : Expects) (added : List ℕ) → Fits answer state added next → (out : List (Option ℕ × List ℕ)) × GoOut answer state frame next added out × (bytes_in out ≡ placed answer frame.1 added)
goes_out Keep state frame next added f = (frame ∷ [], refl, append-nil frame.1)
goes_out Omit state frame next added f = ([], (f, refl), refl)
goes_out Replace state frame next added f = (f.frames, (f.lead, f.are), sym f.are)
goes_out AddBefore state frame next added f = (f.frames ++ frame ∷ [], (f.frames, f.lead, f.are, refl), bytes_in-one f.frames frame ∙ ap (λ (l : List ℕ). l ++ frame.1) (sym f.are))
goes_out AddAfter state frame next added f = (frame ∷ f.frames, (f.frames, f.lead, f.are, refl), ap (λ (l : List ℕ). frame.1 ++ l) (sym f.are))

-- one more frame came, and for it these went out
pub relayed_more : {U : Type 0} (wanted : U → ℕ → ℕ → Bool) (Answers : U → Option ℕ → List ℕ → Answer → List ℕ → U → Type 0) (limit : ℕ) (state : Expects) (user : U) (came sent : List (Option ℕ × List ℕ)) (last : Expects) (end : U) (frame : Option ℕ × List ℕ) (next : Expects) (later : U) (out : List (Option ℕ × List ℕ)) → Relayed wanted Answers limit state user came sent last end → IsFrame last frame.0 frame.1 next → (IsAnswered wanted Answers limit last end frame next later out ⊎ IsUnasked wanted end frame later out) → Relayed wanted Answers limit state user (came ++ frame ∷ []) (sent ++ out) next later
relayed_more wanted Answers limit state user [] sent last end frame next later out p f a =
    let whole : sent ++ out ≡ out ++ [] = ap (λ (l : List (Option ℕ × List ℕ)). l ++ out) p.2 ∙ sym (append-nil out) in
    (next, later, out, [], rw p.0 f, rw (p.0, p.1) a, whole, (refl, refl, refl))
relayed_more wanted Answers limit state user (m ∷ ms) sent last end frame next later out p f a =
    let whole : sent ++ out ≡ p.2 ++ (p.3 ++ out) = ap (λ (l : List (Option ℕ × List ℕ)). l ++ out) p.6 ∙ append_assoc p.2 p.3 out in
    (p.0, p.1, p.2, p.3 ++ out, p.4, p.5, whole, relayed_more wanted Answers limit p.0 p.1 ms p.3 last end frame next later out p.7 f a)

-- between frames nothing is given
pub nothing_given : (wants : ℕ → ℕ → Bool) (state : Expects) (given : List ℕ) (left : ℕ) → left ≡ 0 → IsGiven wants state given left → given ≡ []
nothing_given wants state given left e (inl p) = p.0
nothing_given wants state given left e (inr p) = absurd (omega (arith, e, p.more))

-- a frame that isn't wanted whole changes nothing of what is expected
pub unasked_next : (wants : ℕ → ℕ → Bool) (state : Expects) (frame : List ℕ) (tag : Option ℕ) (count : ℕ) → HasHead state frame tag count → is_wanted wants tag count ≡ false → IsNext state frame state
unasked_next wants expects.First frame None count h e = absurd (let clash : true ≡ false = e in cc)
unasked_next wants expects.First frame (Some t) count h e = absurd h
unasked_next wants expects.Tagged frame tag count h e = refl

-- what is given and the next part of it
pub part_goes_on : (wants : ℕ → ℕ → Bool) (old : Relaying) (given bytes : List ℕ) (left : ℕ) → IsGiven wants old.expects given old.left → (BeginsInParts wants old bytes left ⊎ GoesOnInParts old bytes left) → (tag : Option ℕ) × (count : ℕ) × HasHead old.expects (given ++ bytes) tag count × (is_wanted wants tag count ≡ false) × (length (given ++ bytes) + left ≡ count)
part_goes_on wants old given bytes left g (inl p) =
    let nothing : given ≡ [] = nothing_given wants old.expects given old.left p.between g in
    (p.parts.tag, p.count, rw nothing p.parts.head, p.parts.unwanted, rw nothing p.counts)
part_goes_on wants old given bytes left (inl g) (inr p) = absurd (omega (arith, g.1, p.within))
part_goes_on wants old given bytes left (inr g) (inr p) =
    (g.tag, g.count, head_stays old.expects given bytes g.tag g.count g.head, g.unwanted, omega (arith, g.counts, p.counts, length-append given bytes))
