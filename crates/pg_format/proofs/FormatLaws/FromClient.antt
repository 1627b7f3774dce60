-- The laws of the messages of a client: each has one spelling.
use Rattle.std.specs.Prelude.{◌≡◌, ◌≢◌, ℕ, ◌-◌, ◌==◌, Bool, true, false, List, [], ◌∷◌, ◌++◌, Some, None, ◌⊎◌, if◌then◌else◌}
use Rattle.std.proofs.Common.{refl, sym, ◌∙◌, inl, inr, arith}
use Rattle.std.proofs.lemmas.Bool.{eqb-true}
use Rattle.pg_base.specs.Reading.{BeginsWith, Text}
use Rattle.pg_base.specs.declared.error.ProtocolFault.TheVariants.{UnknownLetter, UnknownCode}
use Rattle.pg_base.specs.declared.format.FrontendMessageFormat.{FrontendMessageFormat}
use Rattle.pg_base.specs.declared.format.FrontendMessageFormat.TheVariants as frontend
use Rattle.pg_format.specs.Format.{Lawful, Canonical, Total, IsRead, IsBroken}
use Rattle.pg_format.specs.Format.Lists.{until_zero}
use Rattle.pg_format.specs.Messages.{format_codes, bind, empty, Target, statement, portal, target_of, target_letter, targeted, execute, function_call, parse, text, sasl_initial_response, sasl_response, setting, opening, cancelling, tls, gssapi, settings_of, cancelled, asks_tls, asks_gssapi, by_code, with_code, first_message, from_client}
use Rattle.pg_format.proofs.FormatLaws.Parts.{lawful_until_nul, canonical_until_nul, total_until_nul, lawful_unsigned, canonical_unsigned, total_unsigned, lawful_remaining, canonical_remaining, total_remaining, lawful_one_of, canonical_one_of, total_one_of, lawful_success, canonical_success, total_success, lawful_fail_before, total_fail_before}
use Rattle.pg_format.proofs.FormatLaws.Sequences.{◌l⨾◌, ◌c⨾◌, ◌t⨾◌, lawful_dep_pair, total_dep_pair, lawful_record_of, canonical_record_of, total_record_of, lawful_mapped, total_mapped, lawful_case_of, total_case_of, lawful_choose, total_choose}
use Rattle.pg_format.proofs.FormatLaws.Tests.{lawful_only, Takes}
use Rattle.pg_format.proofs.FormatLaws.Ends.{lawful_exactly, canonical_exactly, total_exactly}
use Rattle.pg_format.proofs.FormatLaws.Lists.{lawful_counted, canonical_counted, total_counted, lawful_counted_least, canonical_counted_least, total_counted_least, lawful_until_zero, total_until_zero}
use Rattle.pg_format.proofs.FormatLaws.Nullable.{lawful_value, canonical_value, total_value}
use Rattle.pg_format.proofs.FormatLaws.FromServer.{lawful_backend_key, total_backend_key}
use Rattle.pg_format.proofs.FormatLaws.Takes.{takes_until_nul, takes_unsigned, takes_pair, takes_only}

lawful_codes : Lawful format_codes
lawful_codes = lawful_counted_least 2 (takes_unsigned 2) (lawful_unsigned 2 tt)

canonical_codes : Canonical format_codes
canonical_codes = canonical_counted_least (canonical_unsigned 2 tt) 2

total_codes : Total format_codes
total_codes = total_counted_least (total_unsigned 2) 2

pub lawful_bind : Lawful bind
lawful_bind =
    lawful_exactly (lawful_record_of _ (λ a b e i. record { portal = (e i).0; statement = (e i).1.0; formats = (e i).1.1.0; values = (e i).1.1.1.0; result_formats = (e i).1.1.1.1 })
    (lawful_until_nul l⨾ lawful_until_nul l⨾ lawful_codes l⨾ lawful_counted lawful_value l⨾ lawful_codes))

pub canonical_bind : Canonical bind
canonical_bind = canonical_exactly (canonical_record_of _ (canonical_until_nul c⨾ canonical_until_nul c⨾ canonical_codes c⨾ canonical_counted canonical_value c⨾ canonical_codes))

pub total_bind : Total bind
total_bind =
    total_exactly (total_record_of _ (λ a. record { portal = a.0; statement = a.1.0; formats = a.1.1.0; values = a.1.1.1.0; result_formats = a.1.1.1.1 }) (λ a. refl)
    (total_until_nul t⨾ total_until_nul t⨾ total_codes t⨾ total_counted total_value t⨾ total_codes))

pub lawful_empty : Lawful empty
lawful_empty = lawful_exactly (lawful_success tt)

pub canonical_empty : Canonical empty
canonical_empty = canonical_exactly (canonical_success tt)

pub total_empty : Total empty
total_empty = total_exactly (total_success tt)

target_again : (t : Target) → target_of (target_letter t) ≡ Some t
target_again statement = refl
target_again portal = refl

portal_or_none : (letter : ℕ) (b : Bool) → (letter == 80) ≡ b → (t : Target) → (if b then Some portal else None) ≡ Some t → target_letter t ≡ letter
portal_or_none letter true e statement p = absurd (cc p)
portal_or_none letter true e portal p = sym (eqb-true letter 80 e)
portal_or_none letter false e t p = absurd (cc p)

statement_or_other : (letter : ℕ) (b : Bool) → (letter == 83) ≡ b → (t : Target) → (if b then Some statement else (if letter == 80 then Some portal else None)) ≡ Some t → target_letter t ≡ letter
statement_or_other letter true e statement p = sym (eqb-true letter 83 e)
statement_or_other letter true e portal p = absurd (cc p)
statement_or_other letter false e t p = portal_or_none letter (letter == 80) refl t p

pub lawful_targeted : Lawful targeted
lawful_targeted = lawful_exactly (lawful_record_of _ (λ a b e i. record { target = (e i).0; name = (e i).1 }) (lawful_one_of target_of target_letter UnknownLetter target_again l⨾ lawful_until_nul))

pub canonical_targeted : Canonical targeted
canonical_targeted = canonical_exactly (canonical_record_of _ (canonical_one_of target_of target_letter UnknownLetter (λ letter t p. statement_or_other letter (letter == 83) refl t p) c⨾ canonical_until_nul))

pub total_targeted : Total targeted
total_targeted = total_exactly (total_record_of _ (λ a. record { target = a.0; name = a.1 }) (λ a. refl) (total_one_of target_of target_letter UnknownLetter t⨾ total_until_nul))

pub lawful_execute : Lawful execute
lawful_execute = lawful_exactly (lawful_record_of _ (λ a b e i. record { portal = (e i).0; limit = (e i).1 }) (lawful_until_nul l⨾ lawful_unsigned 4 tt))

pub canonical_execute : Canonical execute
canonical_execute = canonical_exactly (canonical_record_of _ (canonical_until_nul c⨾ canonical_unsigned 4 tt))

pub total_execute : Total execute
total_execute = total_exactly (total_record_of _ (λ a. record { portal = a.0; limit = a.1 }) (λ a. refl) (total_until_nul t⨾ total_unsigned 4))

pub lawful_function_call : Lawful function_call
lawful_function_call =
    lawful_exactly (lawful_record_of _ (λ a b e i. record { object_id = (e i).0; formats = (e i).1.0; arguments = (e i).1.1.0; result_format = (e i).1.1.1 })
    (lawful_unsigned 4 tt l⨾ lawful_codes l⨾ lawful_counted lawful_value l⨾ lawful_unsigned 2 tt))

pub canonical_function_call : Canonical function_call
canonical_function_call = canonical_exactly (canonical_record_of _ (canonical_unsigned 4 tt c⨾ canonical_codes c⨾ canonical_counted canonical_value c⨾ canonical_unsigned 2 tt))

pub total_function_call : Total function_call
total_function_call =
    total_exactly (total_record_of _ (λ a. record { object_id = a.0; formats = a.1.0; arguments = a.1.1.0; result_format = a.1.1.1 }) (λ a. refl)
    (total_unsigned 4 t⨾ total_codes t⨾ total_counted total_value t⨾ total_unsigned 2))

pub lawful_parse : Lawful parse
lawful_parse =
    lawful_exactly (lawful_record_of _ (λ a b e i. record { statement = (e i).0; query = (e i).1.0; types = (e i).1.1 })
    (lawful_until_nul l⨾ lawful_until_nul l⨾ lawful_counted_least 4 (takes_unsigned 4) (lawful_unsigned 4 tt)))

pub canonical_parse : Canonical parse
canonical_parse = canonical_exactly (canonical_record_of _ (canonical_until_nul c⨾ canonical_until_nul c⨾ canonical_counted_least (canonical_unsigned 4 tt) 4))

pub total_parse : Total parse
total_parse =
    total_exactly (total_record_of _ (λ a. record { statement = a.0; query = a.1.0; types = a.1.1 }) (λ a. refl)
    (total_until_nul t⨾ total_until_nul t⨾ total_counted_least (total_unsigned 4) 4))

pub lawful_text : Lawful text
lawful_text = lawful_exactly lawful_until_nul

pub canonical_text : Canonical text
canonical_text = canonical_exactly canonical_until_nul

pub total_text : Total text
total_text = total_exactly total_until_nul

pub lawful_sasl_initial_response : Lawful sasl_initial_response
lawful_sasl_initial_response = lawful_exactly (lawful_record_of _ (λ a b e i. record { mechanism = (e i).0; response = (e i).1 }) (lawful_until_nul l⨾ lawful_value))

pub canonical_sasl_initial_response : Canonical sasl_initial_response
canonical_sasl_initial_response = canonical_exactly (canonical_record_of _ (canonical_until_nul c⨾ canonical_value))

pub total_sasl_initial_response : Total sasl_initial_response
total_sasl_initial_response = total_exactly (total_record_of _ (λ a. record { mechanism = a.0; response = a.1 }) (λ a. refl) (total_until_nul t⨾ total_value))

pub lawful_sasl_response : Lawful sasl_response
lawful_sasl_response = lawful_remaining

-- ---- without a tag

pub lawful_setting : Lawful setting
lawful_setting = lawful_only (λ s. s.0 ≢ []) (lawful_until_nul l⨾ lawful_until_nul)

-- where a setting is read no empty name is
pub setting_goes_on : (bytes rest : List ℕ) (s : List ℕ × List ℕ) → setting.Reads bytes s rest → ¬ (BeginsWith 0 bytes)
setting_goes_on bytes rest ([], value) p e = p.1 refl
setting_goes_on [] rest (c ∷ name, value) p e = e
setting_goes_on (b ∷ bytes) rest (c ∷ name, value) p e = p.0.first.clean.0 (let heads : b ≡ c = cc (p.0.first.parts) in sym heads ∙ e)

setting_named : (bytes name after : List ℕ) → Text bytes name after → ¬ (BeginsWith 0 bytes) → name ≢ []
setting_named [] name after p on e = let clash : [] ≡ name ++ 0 ∷ after = p.parts in absurd (let none : [] ≡ 0 ∷ after = rw e at clash in cc)
setting_named (b ∷ bytes) name after p on e = on (let parts : b ∷ bytes ≡ 0 ∷ after = rw e at p.parts in let heads : b ≡ 0 = cc in heads)

setting_or_fault : (len : ℕ) (bytes : List ℕ) → ¬ (BeginsWith 0 bytes) → IsRead setting bytes ⊎ IsBroken setting len bytes
setting_or_fault len bytes on =
    elim ((total_until_nul t⨾ total_until_nul).decides len bytes) [
      | inl p ↦ inl (p.0, p.1, (p.2, setting_named bytes p.0.0 p.2.mid p.2.first on))
      | inr p ↦ inr p
    ]

setting_takes : Takes 1 setting
setting_takes = takes_only 1 (λ s. s.0 ≢ []) (record { takes = λ bytes rest s p. omega (arith, (takes_pair 1 1 takes_until_nul takes_until_nul).takes bytes rest s p) })

pub lawful_settings : Lawful (until_zero setting)
lawful_settings = lawful_until_zero lawful_setting setting_goes_on

total_settings : Total (until_zero setting)
total_settings = total_until_zero setting_takes setting_or_fault

lawful_by_code : (code : ℕ) → Lawful (by_code code)
lawful_by_code code =
    lawful_choose _ (lawful_case_of cancelling cancelled lawful_backend_key)
    (lawful_choose _ (lawful_case_of (λ _. tls) asks_tls lawful_empty)
    (lawful_choose _ (lawful_case_of (λ _. gssapi) asks_gssapi lawful_empty)
    (lawful_choose _ (lawful_case_of (opening (code - 196608)) settings_of (lawful_exactly lawful_settings))
    (lawful_fail_before 0 (λ _. UnknownCode code)))))

total_by_code : (code : ℕ) → Total (by_code code)
total_by_code code =
    total_choose _ (total_case_of cancelling cancelled total_backend_key)
    (total_choose _ (total_case_of (λ _. tls) asks_tls total_empty)
    (total_choose _ (total_case_of (λ _. gssapi) asks_gssapi total_empty)
    (total_choose _ (total_case_of (opening (code - 196608)) settings_of (total_exactly total_settings))
    (total_fail_before 0 (λ _. UnknownCode code)))))

pub lawful_first_message : Lawful first_message
lawful_first_message = lawful_mapped (λ v. v.1) with_code (lawful_dep_pair by_code (lawful_unsigned 4 tt) lawful_by_code)

pub total_first_message : Total first_message
total_first_message = total_mapped (λ v. v.1) with_code (total_dep_pair by_code (total_unsigned 4) total_by_code)

-- ---- by the kind of message

pub lawful_client : (kind : FrontendMessageFormat) → Lawful (from_client kind).format
lawful_client frontend.Bind = lawful_bind
lawful_client frontend.Close = lawful_targeted
lawful_client frontend.Describe = lawful_targeted
lawful_client frontend.Execute = lawful_execute
lawful_client frontend.Flush = lawful_empty
lawful_client frontend.FunctionCall = lawful_function_call
lawful_client frontend.Parse = lawful_parse
lawful_client frontend.Query = lawful_text
lawful_client frontend.Sync = lawful_empty
lawful_client frontend.Terminate = lawful_empty
lawful_client frontend.CopyDone = lawful_empty
lawful_client frontend.CopyData = lawful_remaining
lawful_client frontend.CopyFail = lawful_text
lawful_client frontend.PasswordPolymorphic = lawful_remaining

pub canonical_client : (kind : FrontendMessageFormat) → Canonical (from_client kind).format
canonical_client frontend.Bind = canonical_bind
canonical_client frontend.Close = canonical_targeted
canonical_client frontend.Describe = canonical_targeted
canonical_client frontend.Execute = canonical_execute
canonical_client frontend.Flush = canonical_empty
canonical_client frontend.FunctionCall = canonical_function_call
canonical_client frontend.Parse = canonical_parse
canonical_client frontend.Query = canonical_text
canonical_client frontend.Sync = canonical_empty
canonical_client frontend.Terminate = canonical_empty
canonical_client frontend.CopyDone = canonical_empty
canonical_client frontend.CopyData = canonical_remaining
canonical_client frontend.CopyFail = canonical_text
canonical_client frontend.PasswordPolymorphic = canonical_remaining

pub total_client : (kind : FrontendMessageFormat) → Total (from_client kind).format
total_client frontend.Bind = total_bind
total_client frontend.Close = total_targeted
total_client frontend.Describe = total_targeted
total_client frontend.Execute = total_execute
total_client frontend.Flush = total_empty
total_client frontend.FunctionCall = total_function_call
total_client frontend.Parse = total_parse
total_client frontend.Query = total_text
total_client frontend.Sync = total_empty
total_client frontend.Terminate = total_empty
total_client frontend.CopyDone = total_empty
total_client frontend.CopyData = total_remaining
total_client frontend.CopyFail = total_text
total_client frontend.PasswordPolymorphic = total_remaining
