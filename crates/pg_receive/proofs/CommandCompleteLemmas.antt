-- What follows the last space.
use Rattle.std.proofs.Common.{◌≡◌, ℕ, unwrap_or, ◌+◌, ◌-◌, eqb, true, List, [], ◌∷◌, ◌++◌, Option, Some, None, length, get_or, take, drop, option_and_then, ◌⊎◌, refl, sym, ap, ◌∙◌, arith, inl, inr}
use Rattle.std.proofs.lemmas.Bool.{eqb-true, eq-eqb, ne_eqb, cases_eq}
use Rattle.std.proofs.lemmas.List.{take_all, length-drop, get_or-drop}
use Rattle.memchr.specs.Find.{Nowhere, Passes, is_byte, NoneAfter}
use Rattle.pg_base.specs.Reading.{HoldsNo}
use Rattle.pg_base.specs.Atoi.{Atoi}
use Rattle.pg_base.proofs.ReadingLemmas.{holds_no, no_part}
use Rattle.pg_receive.specs.CommandComplete.{max_rows, space, after_last, row_count, AfterLastSpace, IsRowsAffected}
use Rattle.pg_receive.specs.Decimal.{leading_decimal}
use Rattle.pg_receive.proofs.DecimalLemmas.{number_is, number_is_there}
use Rattle.pg_format.proofs.TextLemmas.{around, nowhere_holds_no}

one_tail : (front other x y : List ℕ) → HoldsNo 32 x → HoldsNo 32 y → front ++ 32 ∷ x ≡ other ++ 32 ∷ y → x ≡ y
one_tail [] [] x y p q e = cc
one_tail [] (c ∷ other) x y p q e = absurd (no_part 32 x other y p (let tails : x ≡ other ++ 32 ∷ y = cc in tails))
one_tail (c ∷ front) [] x y p q e = absurd (no_part 32 y front x q (let tails : y ≡ front ++ 32 ∷ x = cc in tails))
one_tail (c ∷ front) (d ∷ other) x y p q e = one_tail front other x y p q (let tails : front ++ 32 ∷ x ≡ other ++ 32 ∷ y = cc in tails)

pub after_last_space : (tag : List ℕ) (at : ℕ) → NoneAfter (Passes (is_byte 32) tag) 0 (length tag) at → eqb (get_or tag at 0) 32 ≡ true
    → AfterLastSpace tag (take (length tag - (at + 1)) (drop (at + 1) tag))
after_last_space tag at h is =
    let tail = drop (at + 1) tag in
    let whole : take (length tag - (at + 1)) tail ≡ tail = take_all (length tag - (at + 1)) tail (omega (arith, length-drop (at + 1) tag)) in
    let there : get_or tag at 0 ≡ 32 = eqb-true (get_or tag at 0) 32 is in
    rw whole (record {
      front = take at tag;
      parts = rw there at (around at tag h.high);
      last = holds_no 32 tail (λ k lt e.
          let at_is : get_or tag (at + 1 + k) 0 ≡ 32 = sym (get_or-drop (at + 1) tag k 0) ∙ e in
          h.after (at + 1 + k) (omega arith) (omega (arith, lt, length-drop (at + 1) tag)) (eq-eqb (get_or tag (at + 1 + k) 0) 32 at_is));
    })

after_last-none : (byte : ℕ) (bytes : List ℕ) → HoldsNo byte bytes → after_last byte bytes ≡ None
after_last-none byte [] h = refl
after_last-none byte (b ∷ bytes) h = rw (after_last-none byte bytes h.1, ne_eqb b byte h.0) refl

after_last-at : (byte : ℕ) (front tail : List ℕ) → HoldsNo byte tail → after_last byte (front ++ byte ∷ tail) ≡ Some tail
after_last-at byte [] tail h = rw (after_last-none byte tail h, eq-eqb byte byte refl) refl
after_last-at byte (b ∷ front) tail h = rw (after_last-at byte front tail h) refl

pub rows_after : (tag tail : List ℕ) (rows : ℕ) → AfterLastSpace tag tail → rows ≡ unwrap_or (leading_decimal max_rows tail) 0 → rows ≡ row_count tag
rows_after tag tail rows after is =
    is ∙ ap (λ (found : Option (List ℕ)). unwrap_or (option_and_then (leading_decimal max_rows) found) 0) (sym (ap (after_last space) after.parts ∙ after_last-at space after.front tail after.last))

pub no_rows : (tag : List ℕ) → Nowhere (Passes (is_byte 32) tag) 0 (length tag) → 0 ≡ row_count tag
no_rows tag h =
    ap (λ (found : Option (List ℕ)). unwrap_or (option_and_then (leading_decimal max_rows) found) 0) (sym (after_last-none space tag (nowhere_holds_no 32 tag h)))

-- a tag has a last space, or none
last_or_none : (tag : List ℕ) → HoldsNo space tag ⊎ ((tail : List ℕ) × AfterLastSpace tag tail)
last_or_none [] = inl tt
last_or_none (byte ∷ tag) =
    elim (last_or_none tag) [
      | inr found ↦ inr (found.0, record { front = byte ∷ found.1.front; parts = ap (λ (l : List ℕ). byte ∷ l) found.1.parts; last = found.1.last })
      | inl clean ↦ elim (cases_eq byte space) [
        | inl is ↦ inr (tag, record { front = []; parts = ap (λ (b : ℕ). b ∷ tag) is; last = clean })
        | inr other ↦ inl (other, clean)
      ]
    ]

-- the number after the last space
number_after : (tag tail : List ℕ) (found : Option ℕ) (rows : ℕ) → AfterLastSpace tag tail → Atoi max_rows tail found → rows ≡ unwrap_or found 0 → IsRowsAffected tag rows
number_after tag tail (Some n) rows after number is = inl (record { tail = tail; after = after; number = rw is number })
number_after tag tail None rows after number is = inr (
  is,
  λ other q.
      rw (one_tail q.front after.front other tail q.last after.last (sym q.parts ∙ after.parts)) number,
)

pub rows_are : (tag : List ℕ) → IsRowsAffected tag (row_count tag)
rows_are tag =
    elim (last_or_none tag) [
      | inl clean ↦ inr (
        ap (λ (found : Option (List ℕ)). unwrap_or (option_and_then (leading_decimal max_rows) found) 0) (after_last-none space tag clean),
        λ tail q. absurd (no_part 32 tag q.front tail clean q.parts),
      )
      | inr found ↦ number_after tag found.0 (leading_decimal max_rows found.0) (row_count tag) found.1 (number_is_there max_rows found.0)
          (sym (rows_after tag found.0 (unwrap_or (leading_decimal max_rows found.0) 0) found.1 refl))
    ]

one_rows : (tag : List ℕ) (m n : ℕ) → IsRowsAffected tag m → IsRowsAffected tag n → m ≡ n
one_rows tag m n (inr p) (inr q) = p.0 ∙ sym q.0
one_rows tag m n (inl p) (inr q) = absurd (q.1 p.tail p.after p.number.0 m p.number.1 p.number.2)
one_rows tag m n (inr p) (inl q) = absurd (p.1 q.tail q.after q.number.0 n q.number.1 q.number.2)
one_rows tag m n (inl p) (inl q) =
    let tails : p.tail ≡ q.tail = one_tail p.after.front q.after.front p.tail q.tail p.after.last q.after.last (sym p.after.parts ∙ q.after.parts) in
    let numbers : Some m ≡ Some n = number_is max_rows p.tail (Some m) p.number ∙ ap (leading_decimal max_rows) tails ∙ sym (number_is max_rows q.tail (Some n) q.number) in
    cc numbers

pub only_rows : (tag : List ℕ) (rows : ℕ) → IsRowsAffected tag rows → rows ≡ row_count tag
only_rows tag rows h = one_rows tag rows (row_count tag) h (rows_are tag)
