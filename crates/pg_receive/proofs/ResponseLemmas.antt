-- What is read of the fields that are left is what is read of all.
use Rattle.std.proofs.Common.{◌≡◌, ℕ, ◌==◌, Bool, true, false, List, [], ◌∷◌, map, Option, Some, None, unwrap_or, cond, refl, sym, ◌∙◌}
use Rattle.std.specs.Prelude.{find, option_map, if◌then◌else◌}
use Rattle.pg_base.specs.declared.error.ProtocolFault.{ProtocolFault}
use Rattle.pg_receive.specs.declared.message.response.severity.PgSeverity.{PgSeverity}
use Rattle.pg_format.specs.Notices.{Field, is_full, fronts, read_part, field_fault, code_letter, message_letter, localized_letter, severity_letter}
use Rattle.pg_format.specs.Keyed.{plain, last, first_fault_of}
use Rattle.pg_receive.specs.Response.Severity.{severity_of_word}
use Rattle.pg_receive.specs.Response.{Read}

-- the part of these fields that is read after others with this last message and code
pub part_after : List ℕ → List ℕ → List Field → List Field
part_after message code fields = unwrap_or (find (is_full message code) (fronts fields)) fields

pub part_of_all : (fields : List Field) → read_part fields ≡ part_after [] [] fields
unfolding part_after read_part
part_of_all fields = refl

find-map : {X Y : Type 0} (test : Y → Bool) (f : X → Y) (xs : List X) → find test (map f xs) ≡ option_map f (find (λ x. test (f x)) xs)
find-map test f [] = refl
find-map test f (x ∷ xs) =
    elim (test (f x)) as (λ b. cond b (Some (f x)) (find test (map f xs)) ≡ option_map f (cond b (Some x) (find (λ y. test (f y)) xs))) [ true ↦ refl | false ↦ find-map test f xs ]

unwrap_or-map : {X : Type 0} (f : X → X) (found : Option X) (x : X) → unwrap_or (option_map f found) (f x) ≡ f (unwrap_or found x)
unwrap_or-map f None x = refl
unwrap_or-map f (Some y) x = refl

-- what a field makes of a value of its letter
abbrev pub seen : {A : Type 0} → (List ℕ → A) → A → ℕ → Field → A
seen view default letter field = if field.0 == letter then view field.1 else default

pub part_step : (message code : List ℕ) (field : Field) (fields : List Field) → is_full message code [] ≡ false
    → part_after message code (field ∷ fields) ≡ field ∷ part_after (seen plain message message_letter field) (seen plain code code_letter field) fields
unfolding part_after
part_step message code field fields h =
    rw (h, find-map (is_full message code) (λ (front : List Field). field ∷ front) (fronts fields))
    (unwrap_or-map (λ (front : List Field). field ∷ front) (find (is_full (seen plain message message_letter field) (seen plain code code_letter field)) (fronts fields)) fields)

pub part_full : (message code : List ℕ) (fields : List Field) → is_full message code [] ≡ true → part_after message code fields ≡ []
unfolding part_after
part_full message code [] h = rw h refl
part_full message code (field ∷ fields) h = rw h refl

pub part_end : (message code : List ℕ) → part_after message code [] ≡ []
unfolding part_after
part_end message code = elim (is_full message code []) as (λ b. unwrap_or {T = List Field} (cond b (Some []) None) [] ≡ []) [ true ↦ refl | false ↦ refl ]

-- with what was read so far, the fields that are left say what all say
pub record Left (all left : List Field) (message code : List ℕ) (severity localized : Option PgSeverity) : Type 0 where
  pub faults : first_fault_of field_fault (part_after message code left) ≡ first_fault_of field_fault (read_part all)
  pub messages : last plain message message_letter (part_after message code left) ≡ last plain [] message_letter (read_part all)
  pub codes : last plain code code_letter (part_after message code left) ≡ last plain [] code_letter (read_part all)
  pub severities : last severity_of_word severity severity_letter (part_after message code left) ≡ last severity_of_word None severity_letter (read_part all)
  pub words : last severity_of_word localized localized_letter (part_after message code left) ≡ last severity_of_word None localized_letter (read_part all)

pub left_all : (all : List Field) → Left all all [] [] None None
unfolding part_after read_part
left_all all = record { faults = refl; messages = refl; codes = refl; severities = refl; words = refl }

pub left_more : (all : List Field) (field : Field) (fields : List Field) (message code : List ℕ) (severity localized : Option PgSeverity) → is_full message code [] ≡ false → field_fault field ≡ None
    → Left all (field ∷ fields) message code severity localized
    → Left all fields (seen plain message message_letter field) (seen plain code code_letter field) (seen severity_of_word severity severity_letter field) (seen severity_of_word localized localized_letter field)
left_more all field fields message code severity localized h clean l =
    let step = part_step message code field fields h in
    record {
      faults = rw (step, clean) at l.faults;
      messages = rw step at l.messages;
      codes = rw step at l.codes;
      severities = rw step at l.severities;
      words = rw step at l.words;
    }

pub left_fault : (all : List Field) (field : Field) (fields : List Field) (message code : List ℕ) (severity localized : Option PgSeverity) (fault : ProtocolFault) → is_full message code [] ≡ false
    → field_fault field ≡ Some fault → Left all (field ∷ fields) message code severity localized → first_fault_of field_fault (read_part all) ≡ Some fault
left_fault all field fields message code severity localized fault h is l = sym (rw (part_step message code field fields h, is) at l.faults)

-- where enough was read, it doesn't matter which fields are left
pub left_past : (all left other : List Field) (message code : List ℕ) (severity localized : Option PgSeverity) → is_full message code [] ≡ true → Left all left message code severity localized
    → Left all other message code severity localized
left_past all left other message code severity localized h l =
    let same : part_after message code left ≡ part_after message code other = part_full message code left h ∙ sym (part_full message code other h) in
    record {
      faults = rw same at l.faults;
      messages = rw same at l.messages;
      codes = rw same at l.codes;
      severities = rw same at l.severities;
      words = rw same at l.words;
    }

-- where nothing is left to be read, all is read
pub read_all : (all : List Field) (message code : List ℕ) (severity localized : Option PgSeverity) → Left all [] message code severity localized → Read all message code severity localized
read_all all message code severity localized l =
    let none = part_end message code in
    record {
      clean = sym (rw none at l.faults);
      messages = rw none at l.messages;
      codes = rw none at l.codes;
      severities = rw none at l.severities;
      words = rw none at l.words;
    }
