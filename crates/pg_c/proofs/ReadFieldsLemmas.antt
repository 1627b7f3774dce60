-- The fields of an error or a notice are given one by one.
use Rattle.std.proofs.Common.{inl, inr, pos, Result, Ok, Err, IfOk, IfErr, OnOk, ◌≡◌, ℕ, ◌+◌, ◌<◌, ◌≤◌, Some, List, [], ◌∷◌, ◌++◌, length, set, refl, sym, ap, ◌∙◌, arith, append_assoc, length-append}
use Rattle.std.proofs.lemmas.Bool.{cases_lt}
use Rattle.pg_receive.specs.Response.Fields.{BeginsWithField, fields_in}
use Rattle.pg_receive.proofs.ResponseFieldsLemmas.{fields_at}
use Rattle.pg_base.specs.declared.error.ProtocolFault.{ProtocolFault}
use Rattle.pg_base.specs.declared.error.ProtocolFault.TheVariants.{BodyTooLong}
use Rattle.pg_format.specs.Format.{Means, IsFaultOf, ReadsAs}
use Rattle.pg_format.specs.Notices.{read_part}
use Rattle.pg_format.specs.Received.{max_body}
use Rattle.pg_receive.specs.Response.{notice_of, notices, severities}
use Rattle.pg_receive.specs.Response.Severity.{severity_number}
use Rattle.pg_receive.specs.declared.message.response.severity.PgSeverity.{PgSeverity}
use Rattle.pg_c.specs.Read.{IsBodyFault, ReadsBody}
use Rattle.pg_c.specs.Read.Fields.{field_in, IsSeverityOf}
use Rattle.pg_c.specs.declared.read.fields.PgmsgField.{PgmsgField}
use Rattle.pg_c.proofs.ReadListsLemmas.{GivesAll, one_more, no_more}
use Rattle.pg_c.proofs.PlaceLemmas.{bytes_are}

abbrev pub GivesFields : List ℕ → List ℕ → ℕ → ℕ → List PgmsgField → List PgmsgField → Type 0
GivesFields body rest at count old new = GivesAll fields_in (field_in body) body body rest at count old new

module _ (body rest : List ℕ) (at count : ℕ) (old new : List PgmsgField) (letter : ℕ) (value after : List ℕ) (p : GivesFields body rest at count old new) (q : BeginsWithField rest letter value after) where
  abbrev place : PgmsgField
  place = record { letter = letter; value = record { at = at + 1; len = length value } }

  abbrev spelled : List ℕ
  spelled = letter ∷ (value ++ 0 ∷ [])

  rest_is : rest ≡ spelled ++ after
  rest_is = q.parts ∙ ap (λ (l : List ℕ). letter ∷ l) (sym (append_assoc value (0 ∷ []) after))

  place_is : field_in body place ≡ Some (letter, value)
  place_is =
      let front : List ℕ = p.before ++ letter ∷ [] in
      let wide : length front ≡ at + 1 = omega (arith, p.up_to, length-append p.before (letter ∷ [])) in
      let parts : body ≡ front ++ (value ++ 0 ∷ after) = p.parts ∙ ap (λ (l : List ℕ). p.before ++ l) q.parts ∙ sym (append_assoc p.before (letter ∷ []) (value ++ 0 ∷ after)) in
      rw (bytes_are body front value (0 ∷ after) (at + 1) parts wide) refl

  wide : length spelled ≡ length value + 2
  wide = omega (arith, length-append value (0 ∷ []))

  first : fields_in rest ≡ (letter, value) ∷ fields_in after
  first = fields_at rest letter value after q

  pub one_more_field : count < length new → GivesFields body after (at + (length value + 2)) (count + 1) old (set new count place)
  one_more_field lt = rw (← wide) (one_more fields_in (field_in body) body body rest at count old new p place (letter, value) spelled after rest_is place_is first (omega (arith, wide)) lt)

  pub no_more_field : length new ≤ count → GivesFields body after (at + (length value + 2)) (count + 1) old new
  no_more_field le = rw (← wide) (no_more fields_in (field_in body) body body rest at count old new p (letter, value) spelled after rest_is first (omega (arith, wide)) le)

-- ---- how grave it is

severity_is : (body : List ℕ) (severity : PgSeverity) → Means severities body severity → IsSeverityOf body (pos (severity_number severity))
severity_is body severity p = record {
  notice = notice_of p.0 (read_part p.0);
  means = (p.0, p.1, refl);
  number = ap (λ (s : PgSeverity). pos (severity_number s)) p.2;
}

answers_within : (body : List ℕ) (answer : Result PgSeverity ProtocolFault) → length body ≤ max_body → ReadsAs severities (λ severity. severity) body answer → ReadsBody severities (λ severity. severity) body answer
answers_within body (Ok severity) within p = (within, p)
answers_within body (Err fault) within p = inr (within, p)

pub severity_read : (body : List ℕ) (answer : Result PgSeverity ProtocolFault) → (max_body < length body → answer ≡ Err (BodyTooLong (length body))) → (length body ≤ max_body → ReadsAs severities (λ severity. severity) body answer)
    → ReadsBody severities (λ severity. severity) body answer
severity_read body answer long read =
    elim (cases_lt max_body (length body)) [
      | inl beyond ↦ rw (long beyond) (inl (beyond, refl))
      | inr within ↦ answers_within body answer within (read within)
    ]

pub severity_known : (body : List ℕ) (answer : Result PgSeverity ProtocolFault) → ReadsBody severities (λ severity. severity) body answer → IfOk answer (λ severity. IsSeverityOf body (pos (severity_number severity)))
severity_known body (Ok severity) p = severity_is body severity p.1
severity_known body (Err fault) p = tt

pub severity_within : (body : List ℕ) (answer : Result PgSeverity ProtocolFault) → ReadsBody severities (λ severity. severity) body answer → OnOk answer (length body ≤ max_body)
severity_within body (Ok severity) p = p.0
severity_within body (Err fault) p = tt

pub severity_broken : (body : List ℕ) (answer : Result PgSeverity ProtocolFault) → ReadsBody severities (λ severity. severity) body answer → IfErr answer (IsBodyFault (IsFaultOf notices) body)
severity_broken body (Ok severity) p = tt
severity_broken body (Err fault) p = p
