-- A list that is walked in its bytes has the values that were read.
use Rattle.std.specs.Prelude.{◌≡◌, ℕ, zero, suc, ◌+◌, ◌-◌, ◌≤◌, List, [], ◌∷◌, length, take, drop, ◌⊎◌}
use Rattle.std.proofs.Common.{refl, ap, ◌∙◌, arith, inl, inr, length-drop}
use Rattle.std.proofs.lemmas.List.{take_all}
use Rattle.pg_base.specs.declared.error.ProtocolFault.{ProtocolFault}
use Rattle.pg_format.specs.Format.{Format, Lawful, Total, IsRead, IsBroken}
use Rattle.pg_format.specs.Format.Lists.{AreRead, times, counted}
use Rattle.pg_format.specs.Format.Parts.{be_u16}
use Rattle.pg_format.specs.Format.Places.{IsReadAt}
use Rattle.pg_format.specs.Items.{Reading}
use Rattle.pg_format.specs.Listed.{value_and, values_in}

module _ {A : Type 0} {g : Format A} (lawful : Lawful g) (total : Total g) where
  one_first : (n : ℕ) (bytes rest : List ℕ) (a : A) (found : IsRead g bytes ⊎ IsBroken g 0 bytes) → g.Reads bytes a rest → value_and g bytes (values_in total n) found ≡ a ∷ values_in total n rest
  one_first n bytes rest a (inl q) p = let one = lawful.one_value bytes q.1 rest q.0 a q.2 p in rw (one.0, one.1) refl
  one_first n bytes rest a (inr q) p = absurd (lawful.never_both 0 bytes rest a q.0 p q.1)

  -- the first of the values, and the others
  pub first_of : (n : ℕ) (bytes rest : List ℕ) (a : A) → g.Reads bytes a rest → values_in total (suc n) bytes ≡ a ∷ values_in total n rest
  first_of n bytes rest a p = one_first n bytes rest a (total.decides 0 bytes) p

  -- what is read is what the bytes hold
  pub values_in-read : (n : ℕ) (bytes : List ℕ) (items : List A) (rest : List ℕ) → length items ≡ n → AreRead g bytes items rest → values_in total n bytes ≡ items
  values_in-read zero bytes [] rest l p = refl
  values_in-read zero bytes (a ∷ items) rest l p = absurd (omega (arith, l))
  values_in-read (suc n) bytes [] rest l p = absurd (omega (arith, l))
  values_in-read (suc n) bytes (a ∷ items) rest l p = first_of n bytes p.0 a p.1 ∙ ap (λ (l : List A). a ∷ l) (values_in-read n p.0 items rest (omega (arith, l)) p.2)

  none_first : (n len : ℕ) (bytes : List ℕ) (fault : ProtocolFault) (found : IsRead g bytes ⊎ IsBroken g 0 bytes) → length (value_and g bytes (values_in total n) found) ≡ suc n → g.Breaks len bytes fault → ⊥
  none_first n len bytes fault (inl q) whole p = lawful.never_both len bytes q.1 q.0 fault q.2 p
  none_first n len bytes fault (inr q) whole p = omega (arith, whole)

  -- where all values are there, none is broken
  pub none_is_broken : (n left len : ℕ) (bytes : List ℕ) (fault : ProtocolFault) → left ≡ suc n → length (values_in total left bytes) ≡ left → g.Breaks len bytes fault → ⊥
  none_is_broken n left len bytes fault more whole p = none_first n len bytes fault (total.decides 0 bytes) (rw more at whole) p

  -- a step: the first value, and the others, which are all there
  pub first_and_others : (left : ℕ) (bytes x : List ℕ) (end : ℕ) (a : A) → x ≡ drop end bytes → left ≡ suc (left - 1) → length (values_in total left bytes) ≡ left → IsReadAt g bytes 0 a end
      → (values_in total left bytes ≡ a ∷ values_in total (left - 1) x) × (length (values_in total (left - 1) x) ≡ left - 1)
  first_and_others left bytes x end a e more whole p =
      let read : g.Reads bytes a x = rw e p.reads in
      let first : values_in total (suc (left - 1)) bytes ≡ a ∷ values_in total (left - 1) x = first_of (left - 1) bytes x a read in
      let same : values_in total left bytes ≡ values_in total (suc (left - 1)) bytes = ap (λ (n : ℕ). values_in total n bytes) more in
      (same ∙ first, omega (arith, ap length (same ∙ first), whole, more))

  -- so many values that are read are those of the list, and it has them all
  pub listed_stand : (reading : Reading) (body x : List ℕ) (at n end : ℕ) (items : List A) → reading ≡ record { body = body; at = at; left = n } → x ≡ drop at body
      → IsReadAt (times reading.left g) reading.body reading.at items end → IsReadAt (times n g) body at (values_in total n x) end × (length (values_in total n x) ≡ n)
  listed_stand reading body x at n end items e f p =
      let read : IsReadAt (times n g) body at items end = rw e at p in
      let same : values_in total n (drop at body) ≡ items = values_in-read n (drop at body) items (drop end body) read.reads.0 read.reads.1 in
      let all : values_in total n x ≡ items = ap (λ (l : List ℕ). values_in total n l) f ∙ same in
      rw all (read, read.reads.0)

  -- the same after their count
  pub counted_stand : (reading : Reading) (body x : List ℕ) (at n m end : ℕ) (items : List A) → reading ≡ record { body = body; at = at + 2; left = n } → x ≡ drop (at + 2) body → n ≡ m
      → be_u16.Reads (drop at body) m (drop (at + 2) body) → IsReadAt (times reading.left g) reading.body reading.at items end → IsReadAt (counted g) body at (values_in total n x) end
  counted_stand reading body x at n m end items e f counts count p =
      let all = (listed_stand reading body x (at + 2) n end items e f p).0 in
      record { within = all.within; reads = ((n, values_in total n x), record { mid = drop (at + 2) body; first = rw counts count; second = all.reads }, refl) }

-- a slice from an index on
pub from_index : (n : ℕ) (bytes : List ℕ) → take (length bytes - n) (drop n bytes) ≡ drop n bytes
from_index n bytes = take_all (length bytes - n) (drop n bytes) (omega (arith, length-drop n bytes))

-- what follows an offset is no longer
pub short_after : (most at : ℕ) (bytes x : List ℕ) → x ≡ drop at bytes → length bytes ≤ most → length x ≤ most
short_after most at bytes x e short = rw e (omega (arith, short, length-drop at bytes))
