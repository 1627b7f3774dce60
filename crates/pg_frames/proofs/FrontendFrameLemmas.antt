-- The front of a client's stream is one of three: a whole message, one that goes on, or a fault.
use Rattle.std.proofs.Common.{◌≡◌, ◌≢◌, ◌+◌, ◌≤◌, ℕ, ℤ, pos, List, ◌++◌, length, inl, inr, refl, sym, ap, ◌∙◌, append_assoc, arith, rules, length-append}
use Rattle.std.proofs.lemmas.Int.{ints}
use Rattle.pg_base.specs.Cutting.{Begins}
use Rattle.pg_base.specs.Format.{frontend_tag}
use Rattle.pg_base.specs.Numbers.{int}
use Rattle.pg_base.specs.Reading.{Number}
use Rattle.pg_base.specs.declared.format.FrontendMessageFormat.{FrontendMessageFormat}
use Rattle.pg_base.proofs.CuttingLemmas.{parts_at, one_first}
use Rattle.pg_base.proofs.ReadingLemmas.{one_number, one_signed, signed_fits}
use Rattle.pg_frames.specs.Framing as streams
use Rattle.pg_frames.proofs.FramingLemmas as tagged
use Rattle.pg_frames.proofs.FramingLemmas.{signed_stays}
use Rattle.pg_server.specs.declared.frontend.error.FrontendFault.{FrontendFault}
use Rattle.pg_server.specs.declared.frontend.error.FrontendFault.TheVariants.{BadLength, FirstTooLong}
use Rattle.pg_frames.specs.declared.frontend.frame.Expects.{Expects}
use Rattle.pg_frames.specs.declared.frontend.frame.Expects.TheVariants as expects
use Rattle.pg_frames.specs.declared.frontend.message.ClientMessageKind.{ClientMessageKind}
use Rattle.pg_frames.specs.declared.frontend.message.ClientMessageKind.TheVariants as kinds
use Rattle.pg_frames.specs.Frontend.Frame.{AsksForEncryption, Follows, StandsFirst, BeginsWith, Whole, AnnouncesFirst, WantsMoreFirst, of_client, WantsMore, IsFirstFault, IsStreamFault}

-- kinds with one tag are one kind
pub one_tag : (a b : FrontendMessageFormat) → frontend_tag a ≡ frontend_tag b → a ≡ b
one_tag a b = search rules

-- first messages: the first four bytes announce one length
pub one_length : (bytes : List ℕ) (x y : ℤ) → AnnouncesFirst bytes x → AnnouncesFirst bytes y → x ≡ y
one_length bytes x y p q = (one_signed 4 bytes x y p.rest q.rest p.counted q.counted).0

first_announces : (limit : ℕ) (bytes body rest : List ℕ) → StandsFirst limit bytes body rest → AnnouncesFirst bytes (pos (4 + length body))
first_announces limit bytes body rest p = record {
  rest = body ++ rest;
  counted = record { spelled = p.field; wide = p.wide; is = sym p.counts; parts = p.parts ∙ append_assoc p.field body rest };
}

pub first_fits : (limit : ℕ) (bytes body rest : List ℕ) → StandsFirst limit bytes body rest → length bytes ≡ 4 + length body + length rest
first_fits limit bytes body rest p =
    omega (arith, ap length p.parts, length-append (p.field ++ body) rest, length-append p.field body, p.wide)

announced_first_fits : (bytes : List ℕ) (announced : ℤ) → AnnouncesFirst bytes announced → 4 ≤ length bytes
announced_first_fits bytes announced p = omega (arith, signed_fits 4 bytes announced p.rest p.counted)

first_wants_none : (limit : ℕ) (bytes body rest : List ℕ) → StandsFirst limit bytes body rest → WantsMoreFirst limit bytes → ⊥
first_wants_none limit bytes body rest p (inl short) = omega (arith, short, first_fits limit bytes body rest p)
first_wants_none limit bytes body rest p (inr on) =
    let counts : pos (4 + length body) ≡ pos on.announced = one_length bytes (pos (4 + length body)) (pos on.announced) (first_announces limit bytes body rest p) on.announces in
    let same : 4 + length body ≡ on.announced = cc in
    omega (arith, same, on.short, first_fits limit bytes body rest p)

first_fault_not_whole : (limit : ℕ) (bytes : List ℕ) (fault : FrontendFault) → IsFirstFault limit bytes fault → (body rest : List ℕ) → StandsFirst limit bytes body rest → ⊥
first_fault_not_whole limit bytes fault (inl f) body rest p =
    let counts = one_length bytes (pos (4 + length body)) f.announced (first_announces limit bytes body rest p) f.announces in
    omega (arith, ints, counts, f.low, p.least)
first_fault_not_whole limit bytes fault (inr f) body rest p =
    let counts : pos (4 + length body) ≡ pos f.announced = one_length bytes (pos (4 + length body)) (pos f.announced) (first_announces limit bytes body rest p) f.announces in
    let same : 4 + length body ≡ f.announced = cc in
    omega (arith, same, f.high, p.most)

first_fault_wants_none : (limit : ℕ) (bytes : List ℕ) (fault : FrontendFault) → IsFirstFault limit bytes fault → WantsMoreFirst limit bytes → ⊥
first_fault_wants_none limit bytes fault (inl f) (inl short) = omega (arith, short, announced_first_fits bytes f.announced f.announces)
first_fault_wants_none limit bytes fault (inr f) (inl short) = omega (arith, short, announced_first_fits bytes (pos f.announced) f.announces)
first_fault_wants_none limit bytes fault (inl f) (inr on) =
    let counts = one_length bytes (pos on.announced) f.announced on.announces f.announces in
    omega (arith, ints, counts, f.low, on.least)
first_fault_wants_none limit bytes fault (inr f) (inr on) =
    let counts : pos on.announced ≡ pos f.announced = one_length bytes (pos on.announced) (pos f.announced) on.announces f.announces in
    let same : on.announced ≡ f.announced = cc in
    omega (arith, same, f.high, on.most)

one_first_fault : (limit : ℕ) (bytes : List ℕ) (f g : FrontendFault) → IsFirstFault limit bytes f → IsFirstFault limit bytes g → f ≡ g
one_first_fault limit bytes f g (inl p) (inl q) = p.is ∙ ap BadLength (one_length bytes p.announced q.announced p.announces q.announces) ∙ sym q.is
one_first_fault limit bytes f g (inl p) (inr q) =
    let counts = one_length bytes p.announced (pos q.announced) p.announces q.announces in
    absurd (omega (arith, ints, counts, p.low, q.least))
one_first_fault limit bytes f g (inr p) (inl q) =
    let counts = one_length bytes q.announced (pos p.announced) q.announces p.announces in
    absurd (omega (arith, ints, counts, q.low, p.least))
one_first_fault limit bytes f g (inr p) (inr q) =
    let counts : pos p.announced ≡ pos q.announced = one_length bytes (pos p.announced) (pos q.announced) p.announces q.announces in
    let same : p.announced ≡ q.announced = cc in
    p.is ∙ ap (λ (n : ℕ). FirstTooLong n limit) same ∙ sym q.is

-- a message with a tag is one that a client sends
tagged_whole : (bytes : List ℕ) (format : FrontendMessageFormat) (body rest : List ℕ) → Begins bytes (frontend_tag format) body rest → streams.Whole of_client bytes
tagged_whole bytes format body rest p = record { tag = frontend_tag format; body = body; rest = rest; known = (format, refl); begins = p }

-- whichever is expected
pub begins_wants_none : (limit : ℕ) (state : Expects) (bytes : List ℕ) (kind : ClientMessageKind) (body rest : List ℕ) (next : Expects) → BeginsWith limit state bytes kind body rest next → WantsMore limit state bytes → ⊥
begins_wants_none limit expects.First bytes kinds.First body rest next p w = first_wants_none limit bytes body rest p.0 w
begins_wants_none limit expects.First bytes (kinds.Tagged format) body rest next p w = p
begins_wants_none limit expects.Tagged bytes kinds.First body rest next p w = p
begins_wants_none limit expects.Tagged bytes (kinds.Tagged format) body rest next p w = tagged.whole_wants_none of_client bytes (tagged_whole bytes format body rest p.0) w

pub fault_not_begins : (limit : ℕ) (state : Expects) (bytes : List ℕ) (fault : FrontendFault) → IsStreamFault limit state bytes fault → (kind : ClientMessageKind) (body rest : List ℕ) (next : Expects) → BeginsWith limit state bytes kind body rest next → ⊥
fault_not_begins limit expects.First bytes fault f kinds.First body rest next p = first_fault_not_whole limit bytes fault f body rest p.0
fault_not_begins limit expects.First bytes fault f (kinds.Tagged format) body rest next p = p
fault_not_begins limit expects.Tagged bytes fault f kinds.First body rest next p = p
fault_not_begins limit expects.Tagged bytes fault f (kinds.Tagged format) body rest next p = tagged.fault_not_whole of_client bytes fault f (tagged_whole bytes format body rest p.0)

pub whole_wants_none : (limit : ℕ) (state : Expects) (bytes : List ℕ) → Whole limit state bytes → WantsMore limit state bytes → ⊥
whole_wants_none limit state bytes p w = begins_wants_none limit state bytes p.kind p.body p.rest p.next p.begins w

pub fault_not_whole : (limit : ℕ) (state : Expects) (bytes : List ℕ) (fault : FrontendFault) → IsStreamFault limit state bytes fault → Whole limit state bytes → ⊥
fault_not_whole limit state bytes fault f p = fault_not_begins limit state bytes fault f p.kind p.body p.rest p.next p.begins

pub fault_wants_none : (limit : ℕ) (state : Expects) (bytes : List ℕ) (fault : FrontendFault) → IsStreamFault limit state bytes fault → WantsMore limit state bytes → ⊥
fault_wants_none limit expects.First bytes fault f w = first_fault_wants_none limit bytes fault f w
fault_wants_none limit expects.Tagged bytes fault f w = tagged.fault_wants_none of_client bytes fault f w

pub one_fault : (limit : ℕ) (state : Expects) (bytes : List ℕ) (f g : FrontendFault) → IsStreamFault limit state bytes f → IsStreamFault limit state bytes g → f ≡ g
one_fault limit expects.First bytes f g p q = one_first_fault limit bytes f g p q
one_fault limit expects.Tagged bytes f g p q = tagged.one_fault of_client bytes f g p q

-- a body is followed by one of both
one_next : (body : List ℕ) (a b : Expects) → Follows body a → Follows body b → a ≡ b
one_next body expects.First expects.First p q = refl
one_next body expects.First expects.Tagged p q = absurd (q p)
one_next body expects.Tagged expects.First p q = absurd (p q)
one_next body expects.Tagged expects.Tagged p q = refl

one_standing : (limit : ℕ) (bytes a b x y : List ℕ) → StandsFirst limit bytes a x → StandsFirst limit bytes b y → (a ≡ b) × (x ≡ y)
one_standing limit bytes a b x y p q =
    let whole : p.field ++ a ++ x ≡ q.field ++ b ++ y = sym p.parts ∙ q.parts in
    let fields = parts_at p.field q.field (a ++ x) (b ++ y) (p.wide ∙ sym q.wide) (sym (append_assoc p.field a x) ∙ whole ∙ append_assoc q.field b y) in
    let counts : pos (4 + length a) ≡ pos (4 + length b) = sym p.counts ∙ ap int fields.0 ∙ q.counts in
    let lengths : 4 + length a ≡ 4 + length b = cc in
    let bodies = parts_at a b x y (omega (arith, lengths)) fields.1 in
    (bodies.0, bodies.1)

-- the bytes begin with one message
pub one_message : (limit : ℕ) (state : Expects) (bytes : List ℕ) (j k : ClientMessageKind) (a b x y : List ℕ) (m n : Expects) → BeginsWith limit state bytes j a x m → BeginsWith limit state bytes k b y n → (j ≡ k) × (a ≡ b) × (x ≡ y) × (m ≡ n)
one_message limit expects.First bytes kinds.First kinds.First a b x y m n p q =
    let one = one_standing limit bytes a b x y p.0 q.0 in
    (refl, one.0, one.1, one_next b m n (rw one.0 at p.1) q.1)
one_message limit expects.First bytes kinds.First (kinds.Tagged g) a b x y m n p q = absurd q
one_message limit expects.First bytes (kinds.Tagged f) k a b x y m n p q = absurd p
one_message limit expects.Tagged bytes kinds.First k a b x y m n p q = absurd p
one_message limit expects.Tagged bytes (kinds.Tagged f) kinds.First a b x y m n p q = absurd q
one_message limit expects.Tagged bytes (kinds.Tagged f) (kinds.Tagged g) a b x y m n p q =
    let one = one_first bytes (frontend_tag f) (frontend_tag g) a b x y p.0 q.0 in
    (ap kinds.Tagged (one_tag f g one.0), one.1, one.2, p.1 ∙ sym q.1)

-- what comes next changes nothing of what is announced
pub first_announces_stays : (bytes more : List ℕ) (announced : ℤ) → AnnouncesFirst bytes announced → AnnouncesFirst (bytes ++ more) announced
first_announces_stays bytes more announced p = record { rest = p.rest ++ more; counted = signed_stays 4 bytes more announced p.rest p.counted }

pub fault_stays : (limit : ℕ) (state : Expects) (bytes more : List ℕ) (fault : FrontendFault) → IsStreamFault limit state bytes fault → IsStreamFault limit state (bytes ++ more) fault
fault_stays limit expects.First bytes more fault (inl f) = inl (record { announced = f.announced; announces = first_announces_stays bytes more f.announced f.announces; low = f.low; is = f.is })
fault_stays limit expects.First bytes more fault (inr f) = inr (record { announced = f.announced; announces = first_announces_stays bytes more (pos f.announced) f.announces; least = f.least; high = f.high; is = f.is })
fault_stays limit expects.Tagged bytes more fault f = tagged.fault_stays of_client bytes more fault f

-- a code that is neither asks for no encryption
pub asks_for_none : (body : List ℕ) (code : ℕ) (rest : List ℕ) → Number 4 body code rest → code ≢ 80877103 → code ≢ 80877104 → AsksForEncryption body → ⊥
asks_for_none body code rest p ssl gss q =
    let same : code ≡ q.code = (one_number 4 body code q.code rest q.rest p q.stands).0 in
    elim q.is [ inl e ↦ ssl (same ∙ e) | inr e ↦ gss (same ∙ e) ]
