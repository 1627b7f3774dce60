-- What a reader takes from the front, and that its answer is the one that is due.
use Rattle.std.proofs.Common.{◌≡◌, ◌+◌, ◌-◌, ℕ, List, ◌++◌, length, take, drop, Option, Some, None, Result, Ok, Err, IfOk, IfErr, IfSome, IfNone, IsSome, refl, sym, ap, ◌∙◌, append_assoc, arith}
use Rattle.std.specs.Result.{MatchResult}
use Rattle.std.proofs.lemmas.List.{drop-take}
use Rattle.std.proofs.Math.Seq.{drop-append-add, drop-append_seam, take-append_seam}
use Rattle.pg_base.specs.Format.{frontend_tag}
use Rattle.pg_frames.proofs.FramingLemmas.{begins_fits}
use Rattle.pg_frames.proofs.StreamLemmas.{taken}
use Rattle.pg_server.specs.declared.frontend.error.FrontendFault.{FrontendFault}
use Rattle.pg_frames.specs.declared.frontend.error.FrontendError.{FrontendError}
use Rattle.pg_frames.specs.declared.frontend.error.FrontendError.TheVariants.{Protocol, OutOfMemory}
use Rattle.pg_frames.specs.declared.frontend.frame.Expects.{Expects}
use Rattle.pg_frames.specs.declared.frontend.frame.Expects.TheVariants as expects
use Rattle.pg_frames.specs.declared.frontend.message.ClientMessage.{ClientMessage}
use Rattle.pg_frames.specs.declared.frontend.message.ClientMessageKind.{ClientMessageKind}
use Rattle.pg_frames.specs.declared.frontend.message.ClientMessageKind.TheVariants as kinds
use Rattle.pg_frames.specs.Frontend.Frame.{StandsFirst, BeginsWith, Whole, WantsMore, IsStreamFault}
use Rattle.pg_frames.specs.Frontend.Reader.{Reading, Takes, IsReaderError, awaiting, header}
use Rattle.pg_frames.proofs.FrontendFrameLemmas.{first_fits, begins_wants_none, fault_not_begins, whole_wants_none, fault_not_whole, fault_wants_none, one_fault}

-- what stands before the body, the body and the rest are all the bytes
pub fits : (limit : ℕ) (state : Expects) (bytes : List ℕ) (kind : ClientMessageKind) (body rest : List ℕ) (next : Expects) → BeginsWith limit state bytes kind body rest next → length bytes ≡ header kind + length body + length rest
fits limit expects.First bytes kinds.First body rest next p = first_fits limit bytes body rest p.0
fits limit expects.First bytes (kinds.Tagged format) body rest next p = absurd p
fits limit expects.Tagged bytes kinds.First body rest next p = absurd p
fits limit expects.Tagged bytes (kinds.Tagged format) body rest next p = begins_fits bytes (frontend_tag format) body rest p.0

-- the body of a first message at the front stands after four bytes, and then comes the rest
first_stands_at : (limit : ℕ) (bytes body rest : List ℕ) → StandsFirst limit bytes body rest → (drop 4 (take (4 + length body) bytes) ≡ body) × (drop (4 + length body) bytes ≡ rest)
first_stands_at limit bytes body rest p =
    let parts : bytes ≡ p.field ++ (body ++ rest) = p.parts ∙ append_assoc p.field body rest in
    let after : drop 4 bytes ≡ body ++ rest = rw parts (sym (ap (λ (n : ℕ). drop n (p.field ++ (body ++ rest))) p.wide) ∙ drop-append_seam p.field (body ++ rest)) in (
      drop-take 4 (length body) bytes ∙ rw after (take-append_seam body rest),
      rw parts (sym (ap (λ (n : ℕ). drop (n + length body) (p.field ++ (body ++ rest))) p.wide) ∙ drop-append-add p.field (body ++ rest) (length body) ∙ drop-append_seam body rest),
    )

first_taken : (limit : ℕ) (bytes body rest : List ℕ) (end : ℕ) → StandsFirst limit bytes body rest → end ≡ length bytes - length rest → (drop 4 (take end bytes) ≡ body) × (drop end bytes ≡ rest)
first_taken limit bytes body rest end p is =
    let same : end ≡ 4 + length body = omega (arith, is, first_fits limit bytes body rest p) in
    rw same (first_stands_at limit bytes body rest p)

-- a message is what stands up to its end, but for what is before its body
pub taken_with : (limit : ℕ) (state : Expects) (bytes : List ℕ) (kind : ClientMessageKind) (body rest : List ℕ) (next : Expects) (end : ℕ) (contents left : List ℕ)
    → BeginsWith limit state bytes kind body rest next → end ≡ length bytes - length rest → contents ≡ drop (header kind) (take end bytes) → left ≡ drop end bytes → BeginsWith limit state bytes kind contents left next
taken_with limit expects.First bytes kinds.First body rest next end contents left p is c l =
    let at = first_taken limit bytes body rest end p.0 is in
    rw (c ∙ at.0, l ∙ at.1) p
taken_with limit expects.First bytes (kinds.Tagged format) body rest next end contents left p is c l = absurd p
taken_with limit expects.Tagged bytes kinds.First body rest next end contents left p is c l = absurd p
taken_with limit expects.Tagged bytes (kinds.Tagged format) body rest next end contents left p is c l =
    (rw (c, l) (taken bytes (frontend_tag format) body rest end p.0 is), p.1)

-- a reader that was this and then is what is left has taken that message
pub takes : (old new : Reading) (limit : ℕ) (state : Expects) (stream bytes : List ℕ) (kind : ClientMessageKind) (body rest : List ℕ) (next : Expects) (end : ℕ) (contents left : List ℕ)
    → old ≡ awaiting limit state bytes → new ≡ awaiting limit next left → stream ≡ bytes → BeginsWith limit state stream kind body rest next → end ≡ length stream - length rest → contents ≡ drop (header kind) (take end bytes) → left ≡ drop end bytes → Takes old (record { kind = kind; contents = contents }) new
takes old new limit state stream bytes kind body rest next end contents left o n s p is c l =
    let begins = taken_with limit state bytes kind body rest next end contents left (rw s at p) (rw s at is) c l in
    rw (o, n) (record { begins = begins; limit = refl })

-- what the answers say
abbrev pub IsMessage : Reading → Reading → Result (Option ClientMessage) FrontendError → Type 0
IsMessage old new r = IfOk r (λ some. IfSome some (λ message. Takes old message new))

abbrev pub IsPartial : Reading → Reading → Result (Option ClientMessage) FrontendError → Type 0
IsPartial old new r = IfOk r (λ some. IfNone some (WantsMore old.limit old.expects old.bytes × (new ≡ old)))

pub whole_due : (old new : Reading) (r : Result (Option ClientMessage) FrontendError) → IsPartial old new r → IfErr r (IsReaderError old) → Whole old.limit old.expects old.bytes → MatchResult r IsSome (λ e. e ≡ OutOfMemory)
whole_due old new (Ok (Some m)) p e w = refl
whole_due old new (Ok None) p e w = absurd (whole_wants_none old.limit old.expects old.bytes w p.0)
whole_due old new (Err (Protocol f)) p e w = absurd (fault_not_whole old.limit old.expects old.bytes f e w)
whole_due old new (Err OutOfMemory) p e w = refl

pub partial_due : (old new : Reading) (r : Result (Option ClientMessage) FrontendError) → IsMessage old new r → IfErr r (IsReaderError old) → WantsMore old.limit old.expects old.bytes → r ≡ Ok None
partial_due old new (Ok (Some m)) p e w = absurd (begins_wants_none old.limit old.expects old.bytes m.kind m.contents new.bytes new.expects p.begins w)
partial_due old new (Ok None) p e w = refl
partial_due old new (Err (Protocol f)) p e w = absurd (fault_wants_none old.limit old.expects old.bytes f e w)
partial_due old new (Err OutOfMemory) p e w = absurd (whole_wants_none old.limit old.expects old.bytes e w)

pub fault_due : (old new : Reading) (r : Result (Option ClientMessage) FrontendError) → IsMessage old new r → IsPartial old new r → IfErr r (IsReaderError old) → (fault : FrontendFault) → IsStreamFault old.limit old.expects old.bytes fault → r ≡ Err (Protocol fault)
fault_due old new (Ok (Some m)) q p e fault f = absurd (fault_not_begins old.limit old.expects old.bytes fault f m.kind m.contents new.bytes new.expects q.begins)
fault_due old new (Ok None) q p e fault f = absurd (fault_wants_none old.limit old.expects old.bytes fault f p.0)
fault_due old new (Err (Protocol g)) q p e fault f = let one = one_fault old.limit old.expects old.bytes g fault e f in rw one refl
fault_due old new (Err OutOfMemory) q p e fault f = absurd (fault_not_whole old.limit old.expects old.bytes fault f e)
