-- What is found at a place.
use Rattle.std.proofs.Common.{◌≡◌, ℕ, ◌+◌, ◌-◌, ◌≤◌, true, Some, List, [], ◌∷◌, ◌++◌, length, refl, sym, ap, ◌∙◌, arith, append_assoc, append-nil, length-append}
use Rattle.std.specs.Prelude.{nat_le, slice_range}
use Rattle.std.proofs.lemmas.Bool.{le-leb}
use Rattle.std.proofs.lemmas.List.{take_at, drop_at}
use Rattle.pg_base.specs.Reading.{Text}
use Rattle.pg_format.specs.Format.{Means}
use Rattle.pg_format.specs.Messages.{Notification, notification, Cancel, Setting, backend_key}
use Rattle.pg_receive.specs.Authentication.Raw.{Request, raw_request}
use Rattle.pg_receive.specs.CommandComplete.{tag_text}
use Rattle.pg_receive.specs.ParameterStatus.{raw_parameter_status}
use Rattle.pg_c.specs.Place.{bytes_in}

-- bytes that are there
pub bytes_found : (body value : List ℕ) (at : ℕ) → at + length value ≤ length body → slice_range body at (at + length value) ≡ value → bytes_in body at (length value) ≡ Some value
bytes_found body value at inside is =
    let test : nat_le (at + length value) (length body) ≡ true = le-leb (at + length value) (length body) inside in
    rw (test, is) refl

pub bytes_are : (body front value back : List ℕ) (at : ℕ) → body ≡ front ++ (value ++ back) → length front ≡ at → bytes_in body at (length value) ≡ Some value
bytes_are body front value back at e wide =
    let count : at + length value - at ≡ length value = omega arith in
    let inside : at + length value ≤ length body = omega (arith, ap length e, wide, length-append front (value ++ back), length-append value back) in
    let found : slice_range body at (at + length value) ≡ value = rw (e, count, drop_at front (value ++ back) at wide) (take_at value back (length value) refl) in
    bytes_found body value at inside found

-- a text at the front, and one after it
pub two_texts : (body front texts first after second rest : List ℕ) (at : ℕ) → body ≡ front ++ texts → length front ≡ at → Text texts first after → Text after second rest
    → (bytes_in body at (length first) ≡ Some first) × (bytes_in body (at + length first + 1) (length second) ≡ Some second)
two_texts body front texts first after second rest at e wide p q =
    let until : body ≡ front ++ (first ++ 0 ∷ after) = e ∙ ap (λ (l : List ℕ). front ++ l) p.parts in
    let inner : first ++ 0 ∷ after ≡ (first ++ 0 ∷ []) ++ (second ++ 0 ∷ rest) =
    ap (λ (l : List ℕ). first ++ 0 ∷ l) q.parts ∙ sym (append_assoc first (0 ∷ []) (second ++ 0 ∷ rest)) in
    let whole : body ≡ (front ++ (first ++ 0 ∷ [])) ++ (second ++ 0 ∷ rest) =
    until ∙ ap (λ (l : List ℕ). front ++ l) inner ∙ sym (append_assoc front (first ++ 0 ∷ []) (second ++ 0 ∷ rest)) in
    let before : length (front ++ (first ++ 0 ∷ [])) ≡ at + length first + 1 = omega (arith, length-append front (first ++ 0 ∷ []), length-append first (0 ∷ []), wide) in
    (bytes_are body front first (0 ∷ after) at until wide, bytes_are body (front ++ (first ++ 0 ∷ [])) second (0 ∷ rest) (at + length first + 1) whole before)

pub notified_at : (body : List ℕ) (v : Notification) → Means notification body v
    → (bytes_in body 4 (length v.channel) ≡ Some v.channel) × (bytes_in body (4 + length v.channel + 1) (length v.payload) ≡ Some v.payload)
notified_at body v p = two_texts body p.1.first.spelled p.1.mid v.channel p.1.second.mid v.payload p.0 4 p.1.first.parts p.1.first.wide p.1.second.first p.1.second.second

pub setting_at : (body : List ℕ) (s : Setting) → Means raw_parameter_status body s
    → (bytes_in body 0 (length s.name) ≡ Some s.name) × (bytes_in body (length s.name + 1) (length s.value) ≡ Some s.value)
setting_at body s p =
    let zero : 0 + length s.name ≡ length s.name = omega arith in
    let at = two_texts body [] body s.name p.1.mid s.value p.0 0 refl refl p.1.first p.1.second in
    (at.0, rw zero at at.1)

pub tag_at : (body text : List ℕ) → Means tag_text body text → bytes_in body 0 (length text) ≡ Some text
tag_at body text p = bytes_are body [] text (0 ∷ p.0) 0 p.1.parts refl

-- all that follows a number of four bytes
after_number : (body spelled content mid : List ℕ) → body ≡ spelled ++ mid → length spelled ≡ 4 → content ≡ mid → bytes_in body 4 (length content) ≡ Some content
after_number body spelled content mid parts wide is =
    let whole : body ≡ spelled ++ (content ++ []) = rw (append-nil content, is) parts in
    bytes_are body spelled content [] 4 whole wide

pub content_at : (body : List ℕ) (r : Request) → Means raw_request body r → bytes_in body 4 (length r.content) ≡ Some r.content
content_at body r p = after_number body p.first.spelled r.content p.mid p.first.parts p.first.wide p.second.0

pub key_at : (body : List ℕ) (k : Cancel) → Means backend_key body k → bytes_in body 4 (length k.secret_key) ≡ Some k.secret_key
key_at body k p = after_number body p.first.spelled k.secret_key p.mid p.first.parts p.first.wide p.second.0.0
