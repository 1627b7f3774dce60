-- A message at the front of a server's stream: where its parts stand, and how many bytes it takes.
use Rattle.std.proofs.Common.{◌≡◌, ◌+◌, ◌-◌, ◌<◌, ◌≤◌, ℕ, ℤ, pos, List, ◌∷◌, ◌++◌, length, take, drop, inl, inr, refl, sym, ap, ◌∙◌, append_assoc, arith, length-drop, Option, Some, None, Bor, IfSome}
use Rattle.std.specs.List.{IsSplitAt}
use Rattle.std.specs.Option.{MatchOption}
use Rattle.std.proofs.lemmas.List.{drop-take, drop_at, take_all, take-append-drop}
use Rattle.std.proofs.Math.Seq.{drop-append-add, drop-append_seam, take-append_seam}
use Rattle.pg_base.specs.Cutting.{max_length, Begins}
use Rattle.pg_base.specs.Reading.{Signed}
use Rattle.pg_base.specs.Format.{backend_tag}
use Rattle.pg_base.specs.declared.format.BackendMessageFormat.{BackendMessageFormat}
use Rattle.pg_frames.specs.Framing.{Announces}
use Rattle.pg_frames.specs.Stream.{Whole, TakesJust, TakesAtLeast, WantsMore}
use Rattle.pg_frames.proofs.FramingLemmas.{one_announced, begins_fits, announces_fits, announces_stays}

-- a message of a kind that is known is one that a server sends
pub known_whole : (bytes : List ℕ) (format : BackendMessageFormat) (body rest : List ℕ) → Begins bytes (backend_tag format) body rest → Whole bytes
known_whole bytes format body rest p = record { tag = backend_tag format; body = body; rest = rest; known = (format, refl); begins = p }

-- what is announced stands in the first five bytes
announced_at : (bytes : List ℕ) (tag : ℕ) (z : ℤ) → Announces bytes tag z → (bytes ≡ tag ∷ drop 1 bytes) × Signed 4 (drop 1 bytes) z (drop 5 bytes)
announced_at bytes tag z p =
    let after : drop 1 bytes ≡ p.after = ap (drop 1) p.parts in
    let rest : drop 5 bytes ≡ p.rest = ap (drop 5) p.parts ∙ ap (drop 4) p.counted.parts ∙ drop_at p.counted.spelled p.rest 4 p.counted.wide in
    (p.parts ∙ ap (λ (l : List ℕ). tag ∷ l) (sym after), rw (after, rest) p.counted)

-- the bytes after them are split into the body and what comes after the message
pub body_there : (N : Type 0) (bytes : List ℕ) (tag : ℕ) (z : ℤ) (mid : ℕ) (found : Option (Bor (List ℕ) × Bor (List ℕ))) → Announces bytes tag z → z ≡ pos (4 + mid) → 4 + mid ≤ max_length
    → MatchOption found N (λ p. IsSplitAt (take (length bytes - 5) (drop 5 bytes)) mid p.0.now p.1.now) → IfSome found (λ parts. Begins bytes tag parts.0.now parts.1.now)
body_there N bytes tag z mid None a e fits s = tt
body_there N bytes tag z mid (Some p) a e fits s =
    let all : take (length bytes - 5) (drop 5 bytes) ≡ drop 5 bytes = take_all (length bytes - 5) (drop 5 bytes) (omega (arith, length-drop 5 bytes)) in
    let at = announced_at bytes tag z a in
    let field = at.1.spelled in
    let split : IsSplitAt (drop 5 bytes) mid p.0.now p.1.now = rw all at s in
    let both : drop 5 bytes ≡ p.0.now ++ p.1.now = rw (split.1, split.2) (sym (take-append-drop mid (drop 5 bytes))) in
    record {
      field = field;
      wide = at.1.wide;
      counts = sym at.1.is ∙ e ∙ ap (λ (n : ℕ). pos (4 + n)) (sym split.3);
      fits = omega (arith, split.3, fits);
      parts = at.0 ∙ ap (λ (l : List ℕ). tag ∷ l) (at.1.parts ∙ ap (λ (l : List ℕ). field ++ l) both ∙ sym (append_assoc field p.0.now p.1.now));
    }

-- the body of a message at the front stands after five bytes, and then comes the rest
stands_at : (bytes : List ℕ) (tag : ℕ) (body rest : List ℕ) → Begins bytes tag body rest → (drop 5 (take (5 + length body) bytes) ≡ body) × (drop (5 + length body) bytes ≡ rest)
stands_at bytes tag body rest p =
    let head : List ℕ = tag ∷ p.field in
    let parts : bytes ≡ head ++ (body ++ rest) = p.parts ∙ ap (λ (l : List ℕ). tag ∷ l) (append_assoc p.field body rest) in
    let five : length head ≡ 5 = omega (arith, p.wide) in
    let after : drop 5 bytes ≡ body ++ rest = rw parts (sym (ap (λ (n : ℕ). drop n (head ++ (body ++ rest))) five) ∙ drop-append_seam head (body ++ rest)) in (
      drop-take 5 (length body) bytes ∙ rw after (take-append_seam body rest),
      rw parts (sym (ap (λ (n : ℕ). drop (n + length body) (head ++ (body ++ rest))) five) ∙ drop-append-add head (body ++ rest) (length body) ∙ drop-append_seam body rest),
    )

-- a message is what stands up to its end, but for its header
pub taken : (bytes : List ℕ) (tag : ℕ) (body rest : List ℕ) (end : ℕ) → Begins bytes tag body rest → end ≡ length bytes - length rest → Begins bytes tag (drop 5 (take end bytes)) (drop end bytes)
taken bytes tag body rest end p is =
    let at = stands_at bytes tag body rest p in
    let same : end ≡ 5 + length body = omega (arith, is, begins_fits bytes tag body rest p) in
    rw (same, at.0, at.1) p

-- the same of the bytes that a reader holds
pub taken_from : (old stream contents left : List ℕ) (tag : ℕ) (body rest : List ℕ) (end : ℕ) → Begins stream tag body rest → end ≡ length stream - length rest → stream ≡ old → contents ≡ drop 5 (take end old) → left ≡ drop end old → Begins old tag contents left
taken_from old stream contents left tag body rest end p is same c l =
    rw (c, l) (taken old tag body rest end (rw same at p) (rw same at is))

-- a message at the front takes as many bytes, whatever comes next
pub just_stays : (old more new : List ℕ) (count : ℕ) → new ≡ old ++ more → TakesJust old count → TakesJust new count
just_stays old more new count fed p =
    record { tag = p.tag; announced = p.announced; announces = rw fed (announces_stays old more p.tag (pos p.announced) p.announces); known = p.known; least = p.least; is = p.is }

-- fewer bytes want more
pub too_few : (bytes : List ℕ) (count : ℕ) → TakesAtLeast bytes count → length bytes < count → WantsMore bytes
too_few bytes count (inl few) short = inl (omega (arith, few, short))
too_few bytes count (inr p) short = inr (record { tag = p.tag; announced = p.announced; announces = p.announces; known = p.known; least = p.least; short = omega (arith, short, p.is) })

-- a message that wants more takes as many bytes as its head announces
pub takes_announced : (bytes : List ℕ) (tag : ℕ) (announced : ℤ) (n : ℕ) → WantsMore bytes → Announces bytes tag announced → announced ≡ pos n → TakesAtLeast bytes (1 + n)
takes_announced bytes tag announced n (inl short) a is = absurd (omega (arith, short, announces_fits bytes tag announced a))
takes_announced bytes tag announced n (inr on) a is =
    let one = one_announced bytes tag on.tag announced (pos on.announced) a on.announces in
    let both : pos n ≡ pos on.announced = sym is ∙ one.1 in
    let same : n ≡ on.announced = cc in
    inr (record { tag = on.tag; announced = on.announced; announces = on.announces; known = on.known; least = on.least; is = ap (λ (m : ℕ). 1 + m) same })
