-- A column is read from a body at an offset.
use Rattle.std.proofs.Common.{◌≡◌, ℕ, ◌+◌, ◌≤◌, ℤ, List, ◌++◌, length, take, drop, sym, ap, ◌∙◌, arith, append_assoc, length-take, length-drop}
use Rattle.std.proofs.lemmas.List.{take-append-drop, drop-drop}
use Rattle.pg_base.specs.Reading.{Number, Signed}
use Rattle.pg_format.specs.Format.{Format}
use Rattle.pg_format.specs.Format.Places.{IsReadAt}
use Rattle.pg_format.specs.Messages.{Column, numbers_of, numbers}
use Rattle.pg_receive.specs.RowDescription.Raw.{column_named_by}

-- numbers of bytes that go on
pub longer_number : (width : ℕ) (bytes : List ℕ) (n : ℕ) (rest more : List ℕ) → Number width bytes n rest → Number width (bytes ++ more) n (rest ++ more)
longer_number width bytes n rest more p =
    record { spelled = p.spelled; wide = p.wide; is = p.is; parts = ap (λ (l : List ℕ). l ++ more) p.parts ∙ append_assoc p.spelled rest more }

pub longer_signed : (width : ℕ) (bytes : List ℕ) (z : ℤ) (rest more : List ℕ) → Signed width bytes z rest → Signed width (bytes ++ more) z (rest ++ more)
longer_signed width bytes z rest more p =
    record { spelled = p.spelled; wide = p.wide; is = p.is; parts = ap (λ (l : List ℕ). l ++ more) p.parts ∙ append_assoc p.spelled rest more }

pub length-numbers : (body bytes : List ℕ) (after : ℕ) → after + 18 ≤ length body → bytes ≡ take 18 (drop after body) → length bytes ≡ 18
length-numbers body bytes after fits are = omega (arith, ap length are, length-take 18 (drop after body), length-drop after body)

pub column_is_at : (text : Format (List ℕ)) (body : List ℕ) (at after : ℕ) (name bytes : List ℕ) (c : Column) → text.Reads (drop at body) name (drop after body)
    → after + 18 ≤ length body → bytes ≡ take 18 (drop after body) → c.name ≡ name → ((more : List ℕ) → numbers.Reads (bytes ++ more) (numbers_of c) more) → IsReadAt (column_named_by text) body at c (after + 18)
column_is_at text body at after name bytes c named fits are name_is numbered =
    let split : drop after body ≡ bytes ++ drop (after + 18) body =
    sym (take-append-drop 18 (drop after body)) ∙ ap (λ (l : List ℕ). l ++ drop 18 (drop after body)) (sym are) ∙ ap (λ (l : List ℕ). bytes ++ l) (drop-drop 18 after body) in
    record { within = fits; reads = record { mid = drop after body; first = rw name_is named; second = rw split (numbered (drop (after + 18) body)) } }
