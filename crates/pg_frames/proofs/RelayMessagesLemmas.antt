-- Frames that were passed on are whole frames, and those with tags are messages.
use Rattle.std.proofs.Common.{◌≡◌, ◌+◌, ℕ, pos, Bool, List, [], ◌∷◌, ◌++◌, length, drop, Option, None, Some, inl, inr, refl, sym, ap, ◌∙◌, append_assoc, arith, length-append}
use Rattle.std.proofs.Math.Seq.{drop-append_seam}
use Rattle.pg_base.specs.Cutting.{Begins, Cut}
use Rattle.pg_frames.specs.declared.frontend.frame.Expects.{Expects}
use Rattle.pg_frames.specs.declared.frontend.frame.Expects.TheVariants as expects
use Rattle.pg_frames.specs.Relay.Answer.{bytes_in, messages_in, Lead}
use Rattle.pg_frames.specs.Relay.Head.{IsCounted, IsFrame}
use Rattle.pg_frames.specs.Relay.Pass.{GoOut, Relayed, HasPassed}
use Rattle.pg_frames.specs.Relay.{Relaying}
use Rattle.pg_frames.specs.declared.relay.answer.Answer.{Answer}
use Rattle.pg_frames.specs.declared.relay.answer.Answer.TheVariants.{Keep, Omit, Replace, AddBefore, AddAfter}
use Rattle.pg_frames.proofs.RelayPassLemmas.{lead_append}

-- bytes that are one frame begin with its message
counted_begins : (bytes more : List ℕ) (tag : ℕ) → IsCounted bytes tag (length bytes) → Begins (bytes ++ more) tag (drop 5 bytes) more
counted_begins bytes more tag p =
    let field = p.announces.counted.spelled in
    let rest = p.announces.rest in
    let parts : bytes ≡ (tag ∷ field) ++ rest = p.announces.parts ∙ ap (λ (l : List ℕ). tag ∷ l) p.announces.counted.parts in
    let five : length (tag ∷ field) ≡ 5 = omega (arith, p.announces.counted.wide) in
    let body : drop 5 bytes ≡ rest = ap (λ (l : List ℕ). drop 5 l) parts ∙ sym (ap (λ (n : ℕ). drop n ((tag ∷ field) ++ rest)) five) ∙ drop-append_seam (tag ∷ field) rest in
    let long : length bytes ≡ 5 + length rest = omega (arith, ap length parts, length-append (tag ∷ field) rest, five) in
    let counts : p.announced ≡ 4 + length rest = omega (arith, p.is, long) in
    rw body (record {
      field = field;
      wide = p.announces.counted.wide;
      counts = sym p.announces.counted.is ∙ ap pos counts;
      fits = omega (arith, counts, p.most);
      parts = ap (λ (l : List ℕ). l ++ more) parts ∙ append_assoc (tag ∷ field) rest more ∙ ap (λ (l : List ℕ). tag ∷ l) (sym (append_assoc field rest more));
    })

pub frames_cut : (frames : List (Option ℕ × List ℕ)) (last : Expects) → Lead expects.Tagged frames last → Cut (bytes_in frames) (messages_in frames)
frames_cut [] last p = refl
frames_cut ((None, bytes) ∷ more) last p = absurd p.1.head
frames_cut ((Some tag, bytes) ∷ more) last p =
    (bytes_in more, counted_begins bytes (bytes_in more) tag p.1.head, frames_cut more last (rw p.1.follows at p.2))

-- what goes out in a frame's place leads on as the frame does
out_leads : (answer : Answer) (state : Expects) (frame : Option ℕ × List ℕ) (next : Expects) (added : List ℕ) (out : List (Option ℕ × List ℕ)) → IsFrame state frame.0 frame.1 next → GoOut answer state frame next added out → Lead state out next
out_leads Keep state frame next added out f p = rw p (next, f, refl)
out_leads Omit state frame next added out f p = rw p.1 p.0
out_leads Replace state frame next added out f p = p.0
out_leads AddBefore state frame next added out f p = rw p.3 (lead_append p.0 (frame ∷ []) state state next p.1 (next, f, refl))
out_leads AddAfter state frame next added out f p = rw p.3 (next, f, p.1)

pub relayed_lead : {U : Type 0} (wanted : U → ℕ → ℕ → Bool) (Answers : U → Option ℕ → List ℕ → Answer → List ℕ → U → Type 0) (limit : ℕ) (state : Expects) (user : U) (came sent : List (Option ℕ × List ℕ)) (last : Expects) (end : U) → Relayed wanted Answers limit state user came sent last end → Lead state came last × Lead state sent last
relayed_lead wanted Answers limit state user [] sent last end p = (p.0, rw p.2 p.0)
relayed_lead wanted Answers limit state user (frame ∷ more) sent last end p =
    let tail = relayed_lead wanted Answers limit p.0 p.1 more p.3 last end p.7 in
    let out : Lead state p.2 p.0 =
    elim p.5 [
      | inl a ↦ out_leads a.answer state frame p.0 a.added p.2 p.4 a.go_out
      | inr a ↦ rw a.goes_out (p.0, p.4, refl)
    ] in
    ((p.0, p.4, tail.0), rw p.6 (lead_append p.2 p.3 state p.0 last out tail.1))

kept_out : (answer : Answer) (state : Expects) (frame : Option ℕ × List ℕ) (next : Expects) (added : List ℕ) (out : List (Option ℕ × List ℕ)) → answer ≡ Keep → GoOut answer state frame next added out → out ≡ frame ∷ []
kept_out answer state frame next added out e p = rw e at p

kept_sent : {U : Type 0} (wanted : U → ℕ → ℕ → Bool) (Answers : U → Option ℕ → List ℕ → Answer → List ℕ → U → Type 0) → ((user : U) (tag : Option ℕ) (frame : List ℕ) (answer : Answer) (added : List ℕ) (later : U) → Answers user tag frame answer added later → answer ≡ Keep) → (limit : ℕ) (state : Expects) (user : U) (came sent : List (Option ℕ × List ℕ)) (last : Expects) (end : U) → Relayed wanted Answers limit state user came sent last end → sent ≡ came
kept_sent wanted Answers keeps limit state user [] sent last end p = p.2
kept_sent wanted Answers keeps limit state user (frame ∷ more) sent last end p =
    let tail = kept_sent wanted Answers keeps limit p.0 p.1 more p.3 last end p.7 in
    let out : p.2 ≡ frame ∷ [] =
    elim p.5 [
      | inl a ↦ kept_out a.answer state frame p.0 a.added p.2 (keeps user frame.0 frame.1 a.answer a.added p.1 a.answers) a.go_out
      | inr a ↦ a.goes_out
    ] in
    p.6 ∙ ap (λ (l : List (Option ℕ × List ℕ)). l ++ p.3) out ∙ ap (λ (l : List (Option ℕ × List ℕ)). frame ∷ l) tail

pub kept_passed : {U : Type 0} (wanted : U → ℕ → ℕ → Bool) (Answers : U → Option ℕ → List ℕ → Answer → List ℕ → U → Type 0) → ((user : U) (tag : Option ℕ) (frame : List ℕ) (answer : Answer) (added : List ℕ) (later : U) → Answers user tag frame answer added later → answer ≡ Keep) → (start : Expects) (first : U) (bytes out : List ℕ) (user : U) (relay : Relaying) → HasPassed wanted Answers start first bytes out user relay → bytes ≡ out ++ relay.held
kept_passed wanted Answers keeps start first bytes out user relay p =
    let same : p.sent ≡ p.came = kept_sent wanted Answers keeps relay.limit start first p.came p.sent relay.expects user p.relayed in
    p.bytes_are ∙ sym (append_assoc (bytes_in p.came) p.given relay.held) ∙ ap (λ (l : List (Option ℕ × List ℕ)). bytes_in l ++ p.given ++ relay.held) (sym same) ∙ ap (λ (l : List ℕ). l ++ relay.held) (sym p.out_is)
