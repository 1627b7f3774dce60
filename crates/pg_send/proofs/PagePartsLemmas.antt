-- The parts of a body by a reader part by part, and by the page: names, numbers after their count, and values.
use Rattle.std.proofs.Common.{◌≡◌, inl, inr, ℕ, zero, suc, ◌<◌, ◌≤◌, ℤ, pos, negsuc, List, [], ◌∷◌, ◌++◌, length, get_or, decimal, Option, Some, None, refl, sym, ap, ◌∙◌, arith, rules, append_assoc}
use Rattle.std.specs.List.{flat_map}
use Rattle.std.proofs.lemmas.Fmt.{decimal-digits_value}
use Rattle.std.proofs.lemmas.List.{append-nil}
use Rattle.std.proofs.lemmas.Str.Parse.{IsNumeralModel, numerals_by_weight}
use Rattle.pg_base.specs.Atoi.{AreDigits, decimal_value}
use Rattle.pg_base.specs.Id.{name}
use Rattle.pg_base.specs.Reading.{Signed, BeginsWith, Text, Id, Numbers, Counted, Value, Values}
use Rattle.pg_base.proofs.IdLemmas.{name_of_other}
use Rattle.pg_format.specs.Format.Parts.{unsigned}
use Rattle.pg_format.specs.Format.Lists.{AreRead, AllFit, times, counted_least}
use Rattle.pg_format.specs.Format.Nullable.{value, value_after}
use Rattle.pg_format.proofs.FormatLaws.Lists.{lawful_times}
use Rattle.pg_format.proofs.FormatLaws.Nullable.{lawful_value}
use Rattle.pg_send.specs.Page.{IsWritten}

-- ---- names

own : IsNumeralModel AreDigits decimal_value
own = numerals_by_weight AreDigits (search rules) decimal_value (search rules)

some_digits : (ds : List ℕ) → 1 ≤ decimal_value ds → 0 < length ds
some_digits [] h = absurd (omega (arith, h))
some_digits (d ∷ ds) h = omega arith

no_zero : (ds : List ℕ) → ¬ (BeginsWith 48 ds) → get_or ds 0 0 ≡ 48 → length ds ≡ 1
no_zero [] h e = absurd (omega (arith, e))
no_zero (d ∷ ds) h e = absurd (h e)

-- an id has one name
name_of_id : (prefix text : List ℕ) (id : ℕ) → Id prefix text id → text ≡ name prefix id
name_of_id prefix text id (inl none) = none.0 ∙ ap (name prefix) (sym none.1)
name_of_id prefix text id (inr p) =
    let digits : decimal id ≡ p.digits = rw (p.is) (decimal-digits_value own p.digits p.are_digits (some_digits p.digits (omega (arith, p.low, p.is))) (no_zero p.digits p.no_leading_zero) (omega (arith, p.high, p.is))) in
    p.parts ∙ ap (λ (l : List ℕ). prefix ++ l) (sym digits) ∙ sym (name_of_other prefix id (λ e. omega (arith, p.low, e)))

pub text_of_id : (prefix bytes text rest : List ℕ) (id : ℕ) → Text bytes text rest → Id prefix text id → Text bytes (name prefix id) rest
text_of_id prefix bytes text rest id t p = rw (name_of_id prefix text id p) at t

-- ---- numbers after their count

numbers_read : (width : ℕ) (ns bytes rest : List ℕ) → Numbers width bytes ns rest → AreRead (unsigned width) bytes ns rest
numbers_read width [] bytes rest p = p
numbers_read width (n ∷ ns) bytes rest p = (p.0, p.1, numbers_read width ns p.0 rest p.2)

pub counted_read : (width : ℕ) (bytes ns rest : List ℕ) → Counted width bytes ns rest → (counted_least width (unsigned width)).Reads bytes ns rest
counted_read width bytes ns rest p = ((length ns, ns), record { mid = p.after; first = p.count; second = (refl, numbers_read width ns p.after rest p.numbers) }, refl)

-- ---- values

value_read : (bytes rest : List ℕ) → Value bytes rest → (v : Option (List ℕ)) × value.Reads bytes v rest
value_read bytes rest p =
    elim p.counts [
      | inl null ↦ (
        None,
        (
          (negsuc 0, None),
          record {
            mid = rest;
            first = record { spelled = p.field; wide = p.wide; is = sym null.0; parts = p.parts ∙ ap (λ (l : List ℕ). (p.field ++ l) ++ rest) null.1 ∙ ap (λ (l : List ℕ). l ++ rest) (append-nil p.field) };
            second = (refl, refl);
          },
          refl,
        ),
      )
      | inr counts ↦ (
        Some p.value,
        (
          (pos (length p.value), Some p.value),
          record {
            mid = p.value ++ rest;
            first = record { spelled = p.field; wide = p.wide; is = sym counts; parts = p.parts ∙ append_assoc p.field p.value rest };
            second = (p.value, (refl, refl), refl);
          },
          refl,
        ),
      )
    ]

pub values_read : (count : ℕ) (bytes rest : List ℕ) → Values count bytes rest → (vs : List (Option (List ℕ))) × (length vs ≡ count) × AreRead value bytes vs rest
values_read zero bytes rest p = ([], refl, p)
values_read (suc count) bytes rest p =
    let one = value_read bytes p.0 p.1 in
    let more = values_read count p.0 rest p.2 in
    (one.0 ∷ more.0, ap suc more.1, (p.0, one.1, more.2))

value_spelled : (z : ℤ) (bytes mid rest : List ℕ) (v : Option (List ℕ)) → Signed 4 bytes z mid → (value_after z).Reads mid v rest → Value bytes rest
value_spelled (pos n) bytes mid rest v p q = record {
  field = p.spelled;
  value = q.0;
  wide = p.wide;
  counts = inr (sym p.is ∙ ap pos (sym q.1.0));
  parts = p.parts ∙ ap (λ (l : List ℕ). p.spelled ++ l) q.1.1 ∙ sym (append_assoc p.spelled q.0 rest);
}
value_spelled (negsuc zero) bytes mid rest v p q = record {
  field = p.spelled;
  value = [];
  wide = p.wide;
  counts = inl (sym p.is, refl);
  parts = p.parts ∙ ap (λ (l : List ℕ). p.spelled ++ l) (sym q.1) ∙ ap (λ (l : List ℕ). l ++ rest) (sym (append-nil p.spelled));
}
value_spelled (negsuc (suc n)) bytes mid rest v p q = absurd q

values_spelled : (vs : List (Option (List ℕ))) (bytes rest : List ℕ) → AreRead value bytes vs rest → Values (length vs) bytes rest
values_spelled [] bytes rest p = p
values_spelled (v ∷ vs) bytes rest p = (p.0, value_spelled p.1.0.0 bytes p.1.1.mid p.0 p.1.0.1 p.1.1.first p.1.1.second, values_spelled vs p.0 rest p.2)

-- what fits before some bytes fits before others
value_fits : (v : Option (List ℕ)) (r s : List ℕ) → value.Fits v r → value.Fits v s
value_fits None r s p = p
value_fits (Some v) r s p = p

pub values_fit : (vs : List (Option (List ℕ))) (r s : List ℕ) → AllFit value vs r → AllFit value vs s
values_fit [] r s p = tt
values_fit (v ∷ vs) r s p = (value_fits v (flat_map value.Writes vs ++ r) (flat_map value.Writes vs ++ s) p.0, values_fit vs r s p.1)

-- bytes that are written of so many values are so many
pub values_of : (count : ℕ) (bytes : List ℕ) (vs : List (Option (List ℕ))) → IsWritten (times count value) bytes vs → Values count bytes []
values_of count bytes vs p =
    let read = (lawful_times lawful_value count).written vs [] p.fits in
    rw read.0 at (values_spelled vs bytes [] (rw (p.is, ← append-nil (flat_map value.Writes vs)) read.1))
