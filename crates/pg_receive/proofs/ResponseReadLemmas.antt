-- The fields of a body are read one by one, and their places are kept.
use Rattle.std.proofs.Common.{◌≡◌, ℕ, ◌+◌, ◌-◌, ◌<◌, ◌≤◌, ◌==◌, nat_lt, Bool, true, false, ◌&&◌, List, [], ◌∷◌, ◌++◌, length, drop, Option, Some, None, inl, inr, refl, sym, ap, ◌∙◌, arith, append_assoc, length-append}
use Rattle.std.specs.Prelude.{if◌then◌else◌}
use Rattle.std.specs.Str.{is_utf8}
use Rattle.std.proofs.lemmas.Bool.{eqb-true, cases_Bool, cases_lt, lt-ltb, le-ltb}
use Rattle.std.proofs.lemmas.List.{take_at, drop_at, length-take, length-drop}
use Rattle.std.proofs.lemmas.Str.{IsUtf8-nil, IsUtf8-from_is_utf8}
use Rattle.pg_base.specs.declared.error.ProtocolFault.{ProtocolFault}
use Rattle.pg_receive.specs.declared.message.response.severity.PgSeverity.{PgSeverity}
use Rattle.pg_receive.specs.Response.Fields.{BeginsWithField, fields_in}
use Rattle.pg_receive.specs.Response.Severity.{severity_of_word}
use Rattle.pg_format.specs.Format.{IsFaultOf}
use Rattle.pg_receive.specs.Response.{notices}
use Rattle.pg_format.specs.Notices.{is_nonempty, is_full, field_fault, text_fault, code_letter, message_letter, localized_letter, severity_letter}
use Rattle.pg_receive.specs.Response.Places.{Place, bytes_in, IsPlaceIn}
use Rattle.pg_receive.proofs.ResponseFieldsLemmas.{fields_at, notice_breaks}
use Rattle.pg_receive.proofs.ResponseLemmas.{Left, left_all, left_more, left_past, left_fault}

-- what was read of a body whose rest is left
pub record Kept (body rest : List ℕ) (message code : Place) (severity localized : Option PgSeverity) : Type 0 where
  pub front : List ℕ
  pub parts : body ≡ front ++ rest
  pub message_in : IsPlaceIn body message
  pub code_in : IsPlaceIn body code
  pub left : Left (fields_in body) (fields_in rest) (bytes_in body message) (bytes_in body code) severity localized

abbrev pub no_place : Place
no_place = record { start = 0; end = 0 }

pub kept_all : (body : List ℕ) → Kept body body no_place no_place None None
kept_all body =
    let nowhere : IsPlaceIn body no_place = record { ordered = omega arith; within = omega arith; utf8 = IsUtf8-nil } in
    record { front = []; parts = refl; message_in = nowhere; code_in = nowhere; left = left_all (fields_in body) }

-- a value is where its field is, after the letter
pub value_at : (body rest front : List ℕ) (letter : ℕ) (value after : List ℕ) (start : ℕ) → body ≡ front ++ rest → BeginsWithField rest letter value after → start ≡ length front + 1
    → (bytes_in body (record { start = start; end = start + length value }) ≡ value) × (start + length value ≤ length body)
value_at body rest front letter value after start parts field is =
    let whole : body ≡ (front ++ letter ∷ []) ++ (value ++ 0 ∷ after) = parts ∙ ap (λ (more : List ℕ). front ++ more) field.parts ∙ sym (append_assoc front (letter ∷ []) (value ++ 0 ∷ after)) in
    let long : length (front ++ letter ∷ []) ≡ start = omega (arith, length-append front (letter ∷ [])) in
    let len : start + length value - start ≡ length value = omega arith in (
      rw (whole, drop_at (front ++ letter ∷ []) (value ++ 0 ∷ after) start long, len) (take_at value (0 ∷ after) (length value) refl),
      omega (arith, ap length whole, length-append (front ++ letter ∷ []) (value ++ 0 ∷ after), length-append value (0 ∷ after)),
    )

clean_text : (value : List ℕ) → text_fault value ≡ None → is_utf8 value ≡ true
clean_text value h = elim (cases_Bool (is_utf8 value)) [ inl utf8 ↦ utf8 | inr other ↦ let e = rw other at h in cc e ]

clean_message : (letter : ℕ) (value : List ℕ) → (letter == message_letter) ≡ true → field_fault (letter, value) ≡ None → is_utf8 value ≡ true
clean_message letter value e h = clean_text value (rw (eqb-true letter message_letter e) at h)

clean_code : (letter : ℕ) (value : List ℕ) → (letter == code_letter) ≡ true → field_fault (letter, value) ≡ None → is_utf8 value ≡ true
clean_code letter value e h = clean_text value (rw (eqb-true letter code_letter e) at h)

-- the place of the last value, and what is there
seen_place : (body : List ℕ) (taken : Bool) (value : List ℕ) (place old new : Place) → bytes_in body place ≡ value → new ≡ (if taken then place else old)
    → bytes_in body new ≡ (if taken then value else bytes_in body old)
seen_place body true value place old new at e = rw e at
seen_place body false value place old new at e = rw e refl

place_in : (body : List ℕ) (taken : Bool) (place old new : Place) → IsPlaceIn body old → (taken ≡ true → IsPlaceIn body place) → new ≡ (if taken then place else old) → IsPlaceIn body new
place_in body true place old new was is e = rw e (is refl)
place_in body false place old new was is e = rw e was

nonempty_length : (bytes : List ℕ) → 0 < length bytes → is_nonempty bytes ≡ true
nonempty_length [] h = absurd (omega (arith, h))
nonempty_length (byte ∷ bytes) h = refl

regroup : (front : List ℕ) (letter : ℕ) (value after : List ℕ) → front ++ (letter ∷ (value ++ 0 ∷ after)) ≡ (front ++ ((letter ∷ value) ++ 0 ∷ [])) ++ after
regroup front letter value after = simp append_assoc

nonempty_place : (body : List ℕ) (place : Place) → IsPlaceIn body place → is_nonempty (bytes_in body place) ≡ nat_lt place.start place.end
nonempty_place body place h =
    elim (cases_lt place.start place.end) [
      | inl some_are ↦
          rw (lt-ltb place.start place.end some_are)
          (nonempty_length (bytes_in body place) (omega (arith, length-take (place.end - place.start) (drop place.start body), length-drop place.start body, h.within)))
      | inr none_are ↦ let none : place.end - place.start ≡ 0 = omega arith in rw (le-ltb place.start place.end none_are, none) refl
    ]

-- enough was read where neither place is empty
pub full_places : (body : List ℕ) (message code : Place) → IsPlaceIn body message → IsPlaceIn body code
    → is_full (bytes_in body message) (bytes_in body code) [] ≡ (nat_lt message.start message.end && nat_lt code.start code.end)
full_places body message code m c = rw (nonempty_place body message m, nonempty_place body code c) refl

pub record Taken (letter : ℕ) (value : List ℕ) (place message code message' code' : Place) (severity localized severity' localized' : Option PgSeverity) : Type 0 where
  pub clean : field_fault (letter, value) ≡ None
  pub severity_is : severity' ≡ (if letter == severity_letter then severity_of_word value else severity)
  pub localized_is : localized' ≡ (if letter == localized_letter then severity_of_word value else localized)
  pub message_is : message' ≡ (if letter == message_letter then place else message)
  pub code_is : code' ≡ (if letter == code_letter then place else code)

pub kept_more : (body rest : List ℕ) (letter : ℕ) (value after : List ℕ) (start : ℕ) (message code message' code' : Place) (severity localized severity' localized' : Option PgSeverity)
    → is_full (bytes_in body message) (bytes_in body code) [] ≡ false → start ≡ length body - length rest + 1
    → BeginsWithField rest letter value after → Taken letter value (record { start = start; end = start + length value }) message code message' code' severity localized severity' localized'
    → Kept body rest message code severity localized → Kept body after message' code' severity' localized'
kept_more body rest letter value after start message code message' code' severity localized severity' localized' partial start_is field taken kept =
    let place : Place = record { start = start; end = start + length value } in
    let at_front : start ≡ length kept.front + 1 = omega (arith, ap length kept.parts, length-append kept.front rest) in
    let there = value_at body rest kept.front letter value after start kept.parts field at_front in
    let is_in : is_utf8 value ≡ true → IsPlaceIn body place = λ utf8. record { ordered = omega arith; within = there.1; utf8 = rw there.0 (IsUtf8-from_is_utf8 value utf8) } in
    record {
      front = kept.front ++ ((letter ∷ value) ++ 0 ∷ []);
      parts = kept.parts ∙ ap (λ (more : List ℕ). kept.front ++ more) field.parts ∙ regroup kept.front letter value after;
      message_in = place_in body (letter == message_letter) place message message' kept.message_in (λ e. is_in (clean_message letter value e taken.clean)) taken.message_is;
      code_in = place_in body (letter == code_letter) place code code' kept.code_in (λ e. is_in (clean_code letter value e taken.clean)) taken.code_is;
      left =
          rw (seen_place body (letter == message_letter) value place message message' there.0 taken.message_is, seen_place body (letter == code_letter) value place code code' there.0 taken.code_is, taken.severity_is, taken.localized_is)
          (left_more (fields_in body) (letter, value) (fields_in after) (bytes_in body message) (bytes_in body code) severity localized partial taken.clean (rw (fields_at rest letter value after field) at kept.left));
    }

-- the value of the next field is at its place
pub kept_place : (body rest : List ℕ) (letter : ℕ) (value after : List ℕ) (start : ℕ) (message code : Place) (severity localized : Option PgSeverity) → start ≡ length body - length rest + 1
    → BeginsWithField rest letter value after → Kept body rest message code severity localized
    → (bytes_in body (record { start = start; end = start + length value }) ≡ value) × (start + length value ≤ length body)
kept_place body rest letter value after start message code severity localized start_is field kept =
    value_at body rest kept.front letter value after start kept.parts field (omega (arith, ap length kept.parts, length-append kept.front rest))

pub kept_past : (body rest : List ℕ) (letter : ℕ) (value after : List ℕ) (message code : Place) (severity localized : Option PgSeverity)
    → is_full (bytes_in body message) (bytes_in body code) [] ≡ true → BeginsWithField rest letter value after → Kept body rest message code severity localized → Kept body after message code severity localized
kept_past body rest letter value after message code severity localized full field kept = record {
  front = kept.front ++ ((letter ∷ value) ++ 0 ∷ []);
  parts = kept.parts ∙ ap (λ (more : List ℕ). kept.front ++ more) field.parts ∙ regroup kept.front letter value after;
  message_in = kept.message_in;
  code_in = kept.code_in;
  left = left_past (fields_in body) (fields_in rest) (fields_in after) (bytes_in body message) (bytes_in body code) severity localized full kept.left;
}

pub kept_fault : (body rest : List ℕ) (letter : ℕ) (value after : List ℕ) (message code : Place) (severity localized : Option PgSeverity) (fault : ProtocolFault)
    → is_full (bytes_in body message) (bytes_in body code) [] ≡ false → BeginsWithField rest letter value after → field_fault (letter, value) ≡ Some fault
    → Kept body rest message code severity localized → IsFaultOf notices body fault
kept_fault body rest letter value after message code severity localized fault partial field is kept =
    notice_breaks body fault (left_fault (fields_in body) (letter, value) (fields_in after) (bytes_in body message) (bytes_in body code) severity localized fault partial is (rw (fields_at rest letter value after field) at kept.left))
