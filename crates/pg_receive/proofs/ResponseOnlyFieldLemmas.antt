-- What is read in the only field of a letter.
use Rattle.std.proofs.Common.{◌≡◌, ℕ, ◌==◌, ◌≤◌, false, List, [], ◌∷◌, length, Option, Some, None, unwrap_or, inl, inr, refl, sym, ap, ◌∙◌, arith}
use Rattle.std.proofs.lemmas.Bool.{cases_Bool, eqb-true}
use Rattle.pg_receive.specs.Response.Fields.{first_value, first_text, text_of, of_letter, fields_in}
use Rattle.pg_format.specs.Notices.{Field, field_fault, text_fault, is_full, code_letter, message_letter}
use Rattle.std.specs.Option.{option_or}
use Rattle.std.specs.Str.{is_utf8}
use Rattle.pg_base.specs.declared.error.ProtocolFault.{ProtocolFault}
use Rattle.pg_format.specs.Keyed.{plain, last, first_fault_of}
use Rattle.pg_format.specs.Format.{Means}
use Rattle.pg_receive.specs.Response.{NoticeValue, notices}
use Rattle.pg_receive.proofs.ResponseFieldsLemmas.{notice_is}
use Rattle.pg_receive.proofs.ResponseLemmas.{part_after, part_step, part_full, part_end, part_of_all, seen}

-- fields without the letter leave what was seen before them
seen_before : (letter : ℕ) (before message code : List ℕ) (fields : List Field) → length (of_letter letter fields) ≡ 0
    → last plain before letter (part_after message code fields) ≡ before
seen_before letter before message code [] h = rw (part_end message code) refl
seen_before letter before message code (field ∷ fields) h =
    elim (cases_Bool (is_full message code [])) [
      | inl full ↦ rw (part_full message code (field ∷ fields) full) refl
      | inr partial ↦ elim (cases_Bool (field.0 == letter)) [
        | inl is ↦ absurd (omega (arith, rw is at h))
        | inr other ↦ rw (part_step message code field fields partial, last, other) (seen_before letter before (seen plain message message_letter field) (seen plain code code_letter field) fields (rw other at h))
      ]
    ]

only_message : (code : List ℕ) (fields : List Field) → length (of_letter message_letter fields) ≤ 1
    → last plain [] message_letter (part_after [] code fields) ≡ unwrap_or (first_value message_letter fields) []
only_message code [] h = rw (part_end [] code) refl
only_message code (field ∷ fields) h =
    elim (cases_Bool (field.0 == message_letter)) [
      | inl is ↦ rw (part_step [] code field fields refl, last, is) (seen_before message_letter field.1 field.1 (seen plain code code_letter field) fields (omega (arith, rw is at h)))
      | inr other ↦ rw (part_step [] code field fields refl, last, other) (only_message (seen plain code code_letter field) fields (rw other at h))
    ]

no_code : (message : List ℕ) → is_full message [] [] ≡ false
no_code [] = refl
no_code (byte ∷ bytes) = refl

only_code : (message : List ℕ) (fields : List Field) → length (of_letter code_letter fields) ≤ 1
    → last plain [] code_letter (part_after message [] fields) ≡ unwrap_or (first_value code_letter fields) []
only_code message [] h = rw (part_end message []) refl
only_code message (field ∷ fields) h =
    elim (cases_Bool (field.0 == code_letter)) [
      | inl is ↦ rw (part_step message [] field fields (no_code message), last, is) (seen_before code_letter field.1 (seen plain message message_letter field) field.1 fields (omega (arith, rw is at h)))
      | inr other ↦ rw (part_step message [] field fields (no_code message), last, other) (only_code (seen plain message message_letter field) fields (rw other at h))
    ]

pub message_of_one : (body : List ℕ) (notice : NoticeValue) → Means notices body notice → length (of_letter message_letter notice.fields) ≤ 1
    → notice.message ≡ unwrap_or (first_value message_letter notice.fields) []
message_of_one body notice p h =
    let is = notice_is body notice p in
    rw (is.1, part_of_all (fields_in body)) (only_message [] (fields_in body) (rw is.1 at h))

pub code_of_one : (body : List ℕ) (notice : NoticeValue) → Means notices body notice → length (of_letter code_letter notice.fields) ≤ 1
    → notice.code ≡ unwrap_or (first_value code_letter notice.fields) []
code_of_one body notice p h =
    let is = notice_is body notice p in
    rw (is.1, part_of_all (fields_in body)) (only_code [] (fields_in body) (rw is.1 at h))

none_of_or : (a b : Option ProtocolFault) → option_or a b ≡ None → (a ≡ None) × (b ≡ None)
none_of_or None b h = (refl, h)
none_of_or (Some x) b h = cc h

-- a field that was read without a fault is a text
clean_is_text : (letter : ℕ) (value : List ℕ) → text_fault value ≡ None → text_of value ≡ Some value
clean_is_text letter value h = elim (cases_Bool (is_utf8 value)) [ inl utf8 ↦ rw utf8 refl | inr other ↦ let e = rw other at h in cc e ]

-- a message is read before reading stops, and so is a text
message_is_text : (code : List ℕ) (fields : List Field) → first_fault_of field_fault (part_after [] code fields) ≡ None → first_text message_letter fields ≡ first_value message_letter fields
message_is_text code [] h = refl
message_is_text code (field ∷ fields) h =
    let step = part_step [] code field fields refl in
    let both = none_of_or (field_fault field) _ (rw step at h) in
    elim (cases_Bool (field.0 == message_letter)) [
      | inl is ↦ rw is (clean_is_text field.0 field.1 (rw (eqb-true field.0 message_letter is) at both.0))
      | inr other ↦ rw other (message_is_text (seen plain code code_letter field) fields (rw other at both.1))
    ]

code_is_text : (message : List ℕ) (fields : List Field) → first_fault_of field_fault (part_after message [] fields) ≡ None → first_text code_letter fields ≡ first_value code_letter fields
code_is_text message [] h = refl
code_is_text message (field ∷ fields) h =
    let step = part_step message [] field fields (no_code message) in
    let both = none_of_or (field_fault field) _ (rw step at h) in
    elim (cases_Bool (field.0 == code_letter)) [
      | inl is ↦ rw is (clean_is_text field.0 field.1 (rw (eqb-true field.0 code_letter is) at both.0))
      | inr other ↦ rw other (code_is_text (seen plain message message_letter field) fields (rw other at both.1))
    ]

pub message_by_get : (body : List ℕ) (notice : NoticeValue) → Means notices body notice → length (of_letter message_letter notice.fields) ≤ 1
    → notice.message ≡ unwrap_or (first_text message_letter notice.fields) []
message_by_get body notice p h =
    let is = notice_is body notice p in
    let text : first_text message_letter notice.fields ≡ first_value message_letter notice.fields =
    rw is.1 (message_is_text [] (fields_in body) (rw (part_of_all (fields_in body)) at is.0)) in
    message_of_one body notice p h ∙ ap (λ (found : Option (List ℕ)). unwrap_or found []) (sym text)

pub code_by_get : (body : List ℕ) (notice : NoticeValue) → Means notices body notice → length (of_letter code_letter notice.fields) ≤ 1
    → notice.code ≡ unwrap_or (first_text code_letter notice.fields) []
code_by_get body notice p h =
    let is = notice_is body notice p in
    let text : first_text code_letter notice.fields ≡ first_value code_letter notice.fields =
    rw is.1 (code_is_text [] (fields_in body) (rw (part_of_all (fields_in body)) at is.0)) in
    code_of_one body notice p h ∙ ap (λ (found : Option (List ℕ)). unwrap_or found []) (sym text)
