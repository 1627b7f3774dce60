-- Where the parts of a body end.
use Rattle.std.proofs.Common.{true, false, ◌≡◌, ◌≢◌, ℕ, zero, suc, ◌+◌, ◌*◌, ◌<◌, ◌≤◌, ℤ, List, [], ◌∷◌, ◌++◌, length, get_or, take, drop, Result, Ok, Err, IfOk, IfErr, refl, sym, ap, subst, ◌∙◌, arith, inl, inr, length-drop}
use Rattle.std.proofs.lemmas.Bool.{ne_eqb}
use Rattle.std.proofs.lemmas.List.{take-append-drop, drop-drop}
use Rattle.std.proofs.Math.Seq.{drop-length}
use Rattle.pg_base.specs.declared.error.ProtocolFault.{ProtocolFault}
use Rattle.pg_base.specs.Error.{IsShort}
use Rattle.pg_base.specs.Numbers.{num, int}
use Rattle.pg_base.specs.Reading.{BeginsWith}
use Rattle.pg_base.proofs.NumbersLemmas.{number_at, signed_at, wide_enough}
use Rattle.pg_format.specs.Format.{Format, IsFaultOf}
use Rattle.pg_format.specs.Format.Lists.{times, counted_least, until_zero}
use Rattle.pg_format.specs.Format.Parts.{until_nul, be_u8, be_u16, be_u32, unsigned, signed}
use Rattle.pg_format.specs.Format.Places.{IsReadAt, BreaksAt, EndsAt}
use Rattle.pg_format.specs.Format.Sequences.{dep_pair}
use Rattle.pg_format.specs.Messages.{field}
use Rattle.pg_format.proofs.FormatLaws.Places.{lacks_at, none_at, one_more_at}
use Rattle.pg_receive.specs.Layout.{name, asked, is_alone, nothing}

-- ---- items after their count

pub counted_end : {A : Type 0} (g : Format A) (least : ℕ) (body : List ℕ) (n end : ℕ) (items : List A) → be_u16.Reads body n (drop 2 body) → IsReadAt (times n g) body 2 items end → EndsAt (counted_least least g) body 0 end
counted_end g least body n end items counted p = record {
  value = items;
  read = record { within = p.within; reads = ((n, items), record { mid = drop 2 body; first = counted; second = p.reads }, refl) };
}

-- items of one length are there where so many bytes are
module _ {A : Type 0} (g : Format A) (width : ℕ) (body : List ℕ) (there : (at : ℕ) → at + width ≤ length body → (a : A) × IsReadAt g body at a (at + width)) where
  one_after : (n first : ℕ) → first + width * suc n ≤ length body → (items : List A) × IsReadAt (times n g) body first items (first + width * n) → (items : List A) × IsReadAt (times (suc n) g) body first items (first + width * suc n)
  one_after n first fits p =
      let at = first + width * n in
      let far : at + width ≡ first + width * suc n = omega arith in
      let next : n + 1 ≡ suc n = omega arith in
      let item = there at (omega (arith, far, fits)) in
      let items = p.0 ++ item.0 ∷ [] in
      let more = one_more_at g body n first at (at + width) p.0 item.0 p.1 item.1 in
      let Ends : ℕ → Type 0 = λ end. IsReadAt (times (suc n) g) body first items end in
      let Read : ℕ → Type 0 = λ k. IsReadAt (times k g) body first items (at + width) in
      (items, subst Ends far (subst Read next more))

  pub all_there : (n first : ℕ) → first + width * n ≤ length body → (items : List A) × IsReadAt (times n g) body first items (first + width * n)
  all_there zero first fits =
      let end : first + width * 0 ≡ first = omega arith in
      ([], rw end (none_at g body first (omega (arith, fits))))
  all_there (suc n) first fits =
      let step : width * suc n ≡ width * n + width = omega arith in
      one_after n first fits (all_there n first (omega (arith, step, fits)))

pub number_there : (width : ℕ) (body : List ℕ) (at : ℕ) → at + width ≤ length body → (n : ℕ) × IsReadAt (unsigned width) body at n (at + width)
number_there width body at fits =
    let n = num (take width (drop at body)) in
    (n, record { within = fits; reads = number_at body at width n fits refl })

pub signed_there : (width : ℕ) (body : List ℕ) (at : ℕ) → at + width ≤ length body → (z : ℤ) × IsReadAt (signed width) body at z (at + width)
signed_there width body at fits =
    let z = int (take width (drop at body)) in
    (z, record { within = fits; reads = signed_at body at width z fits refl })

-- ---- items up to a byte 0

-- some items are read, from one offset to another
abbrev pub Passed : {A : Type 0} → Format A → List ℕ → ℕ → ℕ → Type 0
Passed {A} g body first at = (n : ℕ) × (items : List A) × IsReadAt (times n g) body first items at

pub one_passed : {A : Type 0} (g : Format A) (body : List ℕ) (first at end : ℕ) (item : A) → Passed g body first at → IsReadAt g body at item end → Passed g body first end
one_passed g body first at end item p q = (p.0 + 1, p.1 ++ item ∷ [], one_more_at g body p.0 first at end p.1 item p.2 q)

pub list_breaks : {A : Type 0} (g : Format A) (body : List ℕ) (first at : ℕ) (fault : ProtocolFault) → Passed g body first at → ¬ (BeginsWith 0 (drop at body)) → BreaksAt g body at fault → BreaksAt (until_zero g) body first fault
list_breaks g body first at fault p goes_on breaks = record { some = p.1; mid = drop at body; are_read = p.2.reads.1; goes_on = goes_on; breaks = breaks }

none_goes_on : (bytes : List ℕ) → length bytes < 1 → ¬ (BeginsWith 0 bytes)
none_goes_on [] few = λ e. e
none_goes_on (byte ∷ bytes) few = absurd (omega (arith, few))

-- ---- fields

letter_first : (bytes front : List ℕ) → 1 ≤ length bytes → front ≡ take 1 bytes → bytes ≡ get_or front 0 0 ∷ drop 1 bytes
letter_first [] front some are = absurd (omega (arith, some))
letter_first (byte ∷ bytes) front some are = rw are refl

pub letter_at : (body front : List ℕ) (at : ℕ) → at + 1 ≤ length body → front ≡ take 1 (drop at body) → drop at body ≡ get_or front 0 0 ∷ drop (at + 1) body
letter_at body front at fits are =
    letter_first (drop at body) front (omega (arith, fits, length-drop at body)) are ∙ ap (λ (l : List ℕ). get_or front 0 0 ∷ l) (drop-drop 1 at body)

module _ (body : List ℕ) (at letter : ℕ) (is : drop at body ≡ letter ∷ drop (at + 1) body) (some : letter ≢ 0) where
  letter_read : be_u8.Reads (drop at body) letter (drop (at + 1) body)
  letter_read = record { spelled = letter ∷ []; wide = refl; is = omega arith; parts = is }

  pub field_at : (value : List ℕ) (end : ℕ) → until_nul.Reads (drop (at + 1) body) value (drop end body) → end ≤ length body → IsReadAt field body at (letter, value) end
  field_at value end p within = record { within = within; reads = (record { mid = drop (at + 1) body; first = letter_read; second = p }, some) }

  pub field_breaks : (first : ℕ) (fault : ProtocolFault) → Passed field body first at → until_nul.Breaks (length body) (drop (at + 1) body) fault → BreaksAt (until_zero field) body first fault
  field_breaks first fault p breaks =
      list_breaks field body first at fault p (rw is some) (inr (record { value = letter; mid = drop (at + 1) body; reads = letter_read; breaks = breaks }))

pub no_letter : (body : List ℕ) (first at : ℕ) (fault : ProtocolFault) → at ≤ length body → Passed field body first at → IsShort body at 1 fault → BreaksAt (until_zero field) body first fault
no_letter body first at fault within p short =
    let lacks = lacks_at body at 1 fault within short in
    list_breaks field body first at fault p (none_goes_on (drop at body) lacks.few) (inl lacks)

-- ---- after the number of a method

pub after_method : (body : List ℕ) (method end : ℕ) (v : List (List ℕ)) → be_u32.Reads body method (drop 4 body) → end ≤ length body → (asked method).Reads (drop 4 body) v (drop end body) → EndsAt (dep_pair be_u32 asked) body 0 end
after_method body method end v found within p = record { value = (method, v); read = record { within = within; reads = record { mid = drop 4 body; first = found; second = p } } }

pub fault_after_method : (body : List ℕ) (method : ℕ) (fault : ProtocolFault) → be_u32.Reads body method (drop 4 body) → (asked method).Breaks (length body) (drop 4 body) fault → IsFaultOf (dep_pair be_u32 asked) body fault
fault_after_method body method fault found p = inr (record { value = method; mid = drop 4 body; reads = found; breaks = p })

pub salt_there : (body : List ℕ) → 8 ≤ length body → (v : List (List ℕ)) × (asked 5).Reads (drop 4 body) v (drop 8 body)
salt_there body fits =
    let salt = take 4 (drop 4 body) in
    let parts : drop 4 body ≡ salt ++ drop 8 body = sym (take-append-drop 4 (drop 4 body)) ∙ ap (λ (l : List ℕ). take 4 (drop 4 body) ++ l) (drop-drop 4 4 body) in
    (salt ∷ [], (salt, (wide_enough body 4 4 fits, parts), refl))

pub names_end_there : (body : List ℕ) (method : ℕ) (result : Result ℕ ProtocolFault) → be_u32.Reads body method (drop 4 body) → method ≡ 10 → IfOk result (EndsAt (until_zero name) body 4) → IfOk result (EndsAt (dep_pair be_u32 asked) body 0)
names_end_there body method (Ok end) found is p = after_method body method end p.value found p.read.within (rw is p.read.reads)
names_end_there body method (Err fault) found is p = tt

pub names_break_there : (body : List ℕ) (method : ℕ) (result : Result ℕ ProtocolFault) → be_u32.Reads body method (drop 4 body) → method ≡ 10 → IfErr result (BreaksAt (until_zero name) body 4) → IfErr result (IsFaultOf (dep_pair be_u32 asked) body)
names_break_there body method (Ok end) found is p = tt
names_break_there body method (Err fault) found is p = fault_after_method body method fault found (rw is p)

pub any_there : (body : List ℕ) (method : ℕ) → is_alone method ≡ false → method ≢ 5 → method ≢ 10 → (v : List (List ℕ)) × (asked method).Reads (drop 4 body) v (drop (length body) body)
any_there body method a b c =
    (drop 4 body ∷ [], rw (a, ne_eqb method 5 b, ne_eqb method 10 c) (drop 4 body, (refl, drop-length body), refl))

pub nothing_there : (body : List ℕ) (method : ℕ) → is_alone method ≡ true → (asked method).Reads (drop 4 body) [] (drop 4 body)
nothing_there body method a = rw a (refl, refl)

-- a kind without parts
pub nothing_ends : (body : List ℕ) → EndsAt nothing body 0 0
nothing_ends body = record { value = tt; read = record { within = omega arith; reads = (refl, refl) } }
