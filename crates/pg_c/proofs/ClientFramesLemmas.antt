-- Where the message at the front of a client's stream is, and how many bytes it needs.
use Rattle.std.proofs.Common.{inl, inr, ◌≡◌, ℕ, ◌+◌, pos, Some, List, ◌++◌, length, drop, get_or, refl, sym, subst, ◌∙◌, arith, append_assoc, length-append}
use Rattle.std.proofs.lemmas.List.{drop_at}
use Rattle.pg_base.specs.Cutting.{Begins}
use Rattle.pg_base.specs.Format.{frontend_tag}
use Rattle.pg_base.specs.declared.format.FrontendMessageFormat.{FrontendMessageFormat}
use Rattle.pg_frames.specs.Framing.{Announces}
use Rattle.pg_frames.specs.Frontend.Frame.{BeginsFirst, BeginsTagged, StandsFirst, WantsMoreTagged}
use Rattle.pg_frames.specs.declared.frontend.frame.Expects.{Expects}
use Rattle.pg_frames.specs.declared.frontend.message.ClientMessageKind.{ClientMessageKind}
use Rattle.pg_frames.specs.declared.frontend.message.ClientMessageKind.TheVariants as kinds
use Rattle.pg_c.specs.Client.Frames.{Needs}
use Rattle.pg_c.specs.Place.{bytes_in}
use Rattle.pg_c.specs.Read.Frame as read
use Rattle.pg_c.proofs.PlaceLemmas.{bytes_are}
use Rattle.pg_frames.proofs.FramingLemmas.{one_announced, announces_fits}

-- ---- a first message

pub stands_first : (limit : ℕ) (bytes : List ℕ) (kind : ClientMessageKind) (body rest : List ℕ) (next : Expects) → BeginsFirst limit bytes kind body rest next → StandsFirst limit bytes body rest
stands_first limit bytes kinds.First body rest next p = p.0
stands_first limit bytes (kinds.Tagged format) body rest next p = absurd p

-- where its body is, and what follows it
pub first_at : (limit : ℕ) (bytes body rest : List ℕ) → StandsFirst limit bytes body rest → (bytes_in bytes 4 (length body) ≡ Some body) × (drop (4 + length body) bytes ≡ rest)
first_at limit bytes body rest p =
    let parts : bytes ≡ p.field ++ (body ++ rest) = p.parts ∙ append_assoc p.field body rest in
    (bytes_are bytes p.field body rest 4 parts p.wide, rw p.parts (drop_at (p.field ++ body) rest (4 + length body) (omega (arith, p.wide, length-append p.field body))))

-- ---- a message with a tag

pub begins_tagged : (bytes : List ℕ) (kind : ClientMessageKind) (body rest : List ℕ) (next : Expects) → BeginsTagged bytes kind body rest next
    → (format : FrontendMessageFormat) × Begins bytes (frontend_tag format) body rest
begins_tagged bytes kinds.First body rest next p = absurd p
begins_tagged bytes (kinds.Tagged format) body rest next p = (format, p.0)

pub tag_is : (bytes : List ℕ) (tag : ℕ) (body rest : List ℕ) → Begins bytes tag body rest → get_or bytes 0 0 ≡ tag
tag_is bytes tag body rest p = rw p.parts refl

-- it needs as many bytes as one of any tag
pub needs_tagged : (bytes : List ℕ) (needed : ℕ) → WantsMoreTagged bytes → read.Needs bytes needed → Needs bytes needed
needs_tagged bytes needed wants (inl header) = inl header
needs_tagged bytes needed (inl short) (inr b) = absurd (omega (arith, short, announces_fits bytes b.tag (pos b.announced) b.announces))
needs_tagged bytes needed (inr g) (inr b) =
    let same : pos b.announced ≡ pos g.announced = (one_announced bytes b.tag g.tag (pos b.announced) (pos g.announced) b.announces g.announces).1 in
    let count : b.announced ≡ g.announced = cc same in
    inr (record { format = g.known.0; announced = g.announced; announces = subst (λ (tag : ℕ). Announces bytes tag (pos g.announced)) (sym g.known.1) g.announces; least = g.least; short = g.short; all = omega (arith, b.all, count) })
