-- How the data of a COPY is spelled: the codes are read after their count.
use Rattle.std.proofs.Common.{◌≡◌, ℕ, ◌+◌, ◌*◌, ◌<◌, ◌≤◌, ℤ, List, length, drop, refl, ap, arith, inl, inr, length-drop}
use Rattle.pg_format.specs.Format.{Means}
use Rattle.pg_format.specs.Format.Parts.{be_i8, be_i16}
use Rattle.pg_format.specs.Format.Sequences.{◌⨾◌}
use Rattle.pg_format.specs.Format.Lists.{times}
use Rattle.pg_format.specs.Format.Places.{IsReadAt}
use Rattle.pg_format.specs.Messages.{columns_of, copy_response}
use Rattle.pg_format.proofs.FormatLaws.Parts.{lawful_signed}
use Rattle.pg_format.proofs.FormatLaws.Sequences.{◌l⨾◌}
use Rattle.pg_receive.specs.Copy.{FormatsNeedsNoMemory}

-- the format and the count of a body
abbrev pub Counts : List ℕ → ℤ → ℤ → Type 0
Counts body format count = (be_i8 ⨾ be_i16).Reads body (format, count) (drop 3 body)

pub counts_at : (body : List ℕ) (format count : ℤ) → be_i8.Reads body format (drop 1 body) → be_i16.Reads (drop 1 body) count (drop 3 body) → Counts body format count
counts_at body format count p q = record { mid = drop 1 body; first = p; second = q }

pub response_at : (body : List ℕ) (format count : ℤ) (n end : ℕ) (codes : List ℤ) → Counts body format count → n ≡ columns_of count → IsReadAt (times n be_i16) body 3 codes end
    → Means copy_response body (record { format = format; num_columns = count; format_codes = codes })
response_at body format count n end codes p e q =
    let codes_are : IsReadAt (times (columns_of count) be_i16) body 3 codes end = rw e at q in
    (drop end body, record { mid = p.mid; first = p.first; second = record { mid = drop 3 body; first = p.second; second = codes_are.reads } }, refl)

-- a count of codes that the body holds asks for memory
pub codes_ask_for_memory : (body : List ℕ) (format count : ℤ) → Counts body format count → 3 + 2 * columns_of count ≤ length body → 0 < columns_of count → ¬ (FormatsNeedsNoMemory body)
codes_ask_for_memory body format count counts holds more (inl short) = omega (arith, holds, short)
codes_ask_for_memory body format count counts holds more (inr free) =
    let both = (lawful_signed 1 tt l⨾ lawful_signed 2 tt).one_value body (drop 3 body) free.after (format, count) (free.format, free.count) counts free.counts in
    let counts_are : count ≡ free.count = ap (λ (v : ℤ × ℤ). v.1) both.0 in
    let codes : columns_of count ≡ columns_of free.count = ap columns_of counts_are in
    elim free.why [
      | inl fewer ↦ omega (arith, fewer, codes, holds, ap length both.1, length-drop 3 body)
      | inr none_are ↦ omega (arith, none_are, codes, more)
    ]
