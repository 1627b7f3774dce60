-- The fields of a body are what its texts mean, and those that the page reads.
use Rattle.std.proofs.Common.{◌≡◌, ℕ, ◌*◌, ◌≤◌, List, [], ◌∷◌, ◌++◌, Option, Some, None, unwrap_or, length, refl, ap, ◌∙◌, inr, arith}
use Rattle.std.specs.Option.{option_or}
use Rattle.pg_base.specs.declared.error.ProtocolFault.{ProtocolFault}
use Rattle.pg_base.specs.Numbers.{num}
use Rattle.pg_base.specs.Reading.{HoldsNo, Text}
use Rattle.pg_format.specs.Format.{Means, IsFaultOf}
use Rattle.pg_format.specs.Format.Lists.{AreInOrder}
use Rattle.pg_format.specs.Keyed.{first_fault_of}
use Rattle.pg_format.specs.Messages.{field}
use Rattle.pg_format.specs.Notices.{Field, read_part, field_fault, notice_fault}
use Rattle.pg_receive.specs.declared.message.response.severity.PgSeverity.{PgSeverity}
use Rattle.pg_receive.specs.declared.message.response.severity.PgSeverity.TheVariants.{Log}
use Rattle.pg_receive.specs.Response.Fields.{BeginsWithField, AreFields, field_of, fields_in}
use Rattle.pg_receive.specs.Response.{severities, NoticeValue, Read, notice_of, notices}
use Rattle.pg_format.proofs.EndedTextsLemmas.{IsMeaning, meanings_clean, meanings_none, meanings_begin, meanings_are, only_meanings, half_as_many}

abbrev Begins : List ℕ → Field → List ℕ → Type 0
Begins bytes f rest = BeginsWithField bytes f.0 f.1 rest

-- a field is a text that begins with its letter
begins_field : (bytes text rest : List ℕ) (f : Field) → Text bytes text rest → field_of text ≡ Some f → Begins bytes f rest
begins_field bytes [] rest f h e = cc e
begins_field bytes (letter ∷ value) rest f h e =
    let is : (letter, value) ≡ f = cc e in
    rw (← is) (record { lettered = h.clean.0; clean = h.clean.1; parts = h.parts })

field_meaning : IsMeaning field_of Begins
field_meaning = record {
  begins = begins_field;
  text = λ bytes f rest h. (f.0 ∷ f.1, record { clean = (h.lettered, h.clean); parts = h.parts }, refl);
  empty = refl;
}

pub fields_at : (bytes : List ℕ) (letter : ℕ) (value rest : List ℕ) → BeginsWithField bytes letter value rest → fields_in bytes ≡ (letter, value) ∷ fields_in rest
fields_at bytes letter value rest h = meanings_begin field_of Begins field_meaning bytes (letter, value) rest h

pub no_fields_clean : (bytes : List ℕ) → HoldsNo 0 bytes → fields_in bytes ≡ []
no_fields_clean bytes h = meanings_clean field_of bytes h

pub no_fields_empty : (bytes rest : List ℕ) → Text bytes [] rest → fields_in bytes ≡ []
no_fields_empty bytes rest h = meanings_none field_of bytes [] rest h refl

pub are_fields : (bytes : List ℕ) → AreFields bytes (fields_in bytes)
are_fields bytes = meanings_are field_of Begins field_meaning bytes

pub one_fields : (bytes : List ℕ) (fields : List Field) → AreFields bytes fields → fields ≡ fields_in bytes
one_fields bytes fields h = only_meanings field_of Begins field_meaning bytes fields h

pub half_fields : (bytes : List ℕ) → 2 * length (fields_in bytes) ≤ length bytes
half_fields bytes = half_as_many field_of Begins field_meaning bytes

-- ---- the fields of the page

one_byte : (spelled : List ℕ) (n : ℕ) → length spelled ≡ 1 → n ≡ num spelled → spelled ≡ n ∷ []
one_byte [] n wide is = absurd (omega (arith, wide))
one_byte (b ∷ []) n wide is = let same : b ≡ n = omega (arith, is) in ap (λ (k : ℕ). k ∷ []) same
one_byte (b ∷ c ∷ more) n wide is = absurd (omega (arith, wide))

field_reads : (bytes : List ℕ) (f : Field) (rest : List ℕ) → Begins bytes f rest → field.Reads bytes f rest
field_reads bytes f rest p = (
  record {
    mid = f.1 ++ 0 ∷ rest;
    first = record { spelled = f.0 ∷ []; wide = refl; is = omega arith; parts = p.parts };
    second = record { clean = p.clean; parts = refl };
  },
  p.lettered,
)

reads_field : (bytes : List ℕ) (f : Field) (rest : List ℕ) → field.Reads bytes f rest → Begins bytes f rest
reads_field bytes f rest p =
    let letter = p.0.first in
    let text = p.0.second in
    let front : letter.spelled ≡ f.0 ∷ [] = one_byte letter.spelled f.0 letter.wide letter.is in
    record {
      lettered = p.1;
      clean = text.clean;
      parts = letter.parts ∙ ap (λ (l : List ℕ). l ++ p.0.mid) front ∙ ap (λ (l : List ℕ). f.0 ∷ l) text.parts;
    }

fields_order : (bytes : List ℕ) (fields : List Field) → AreFields bytes fields → AreInOrder field bytes fields
fields_order bytes [] h = λ f rest p. h f rest (reads_field bytes f rest p)
fields_order bytes (f ∷ more) h = (h.0, field_reads bytes f h.0 h.1, fields_order h.0 more h.2)

order_fields : (bytes : List ℕ) (fields : List Field) → AreInOrder field bytes fields → AreFields bytes fields
order_fields bytes [] h = λ f rest p. h f rest (field_reads bytes f rest p)
order_fields bytes (f ∷ more) h = (h.0, reads_field bytes f h.0 h.1, order_fields h.0 more h.2)

pub means_notice : (body : List ℕ) (v : NoticeValue) → first_fault_of field_fault (read_part (fields_in body)) ≡ None → v ≡ notice_of (fields_in body) (read_part (fields_in body)) → Means notices body v
unfolding notice_fault
means_notice body v clean is = (fields_in body, ((fields_order body (fields_in body) (are_fields body), refl), clean), is)

pub notice_breaks : (body : List ℕ) (fault : ProtocolFault) → first_fault_of field_fault (read_part (fields_in body)) ≡ Some fault → IsFaultOf notices body fault
unfolding notice_fault
notice_breaks body fault is = inr (record { value = fields_in body; rest = []; reads = (fields_order body (fields_in body) (are_fields body), refl); is = is })

-- what a body means is what is read of its fields
pub notice_is : (body : List ℕ) (v : NoticeValue) → Means notices body v → (first_fault_of field_fault (read_part (fields_in body)) ≡ None) × (v ≡ notice_of (fields_in body) (read_part (fields_in body)))
unfolding notice_fault
notice_is body v p =
    let same : p.0 ≡ fields_in body = one_fields body p.0 (order_fields body p.0 p.1.0.0) in
    (rw same at p.1.1, p.2 ∙ ap (λ (fields : List Field). notice_of fields (read_part fields)) same)

pub read_means : (body message code : List ℕ) (severity localized : Option PgSeverity) → Read (fields_in body) message code severity localized
    → Means notices body (record { fields = fields_in body; severity = unwrap_or (option_or severity localized) Log; message = message; code = code })
read_means body message code severity localized p =
    means_notice body _ p.clean (λ i. record {
      fields = fields_in body;
      severity = unwrap_or (option_or (p.severities i) (p.words i)) Log;
      message = p.messages i;
      code = p.codes i;
    })

-- how grave a notice is
pub severity_means : (body : List ℕ) (notice : NoticeValue) → Means notices body notice → Means severities body notice.severity
severity_means body notice p = (p.0, p.1, ap (λ (n : NoticeValue). n.severity) p.2)
