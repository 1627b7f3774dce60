-- The laws of formats of lists.
use Rattle.std.specs.Prelude.{◌≡◌, ℕ, zero, suc, ◌+◌, ◌*◌, ◌<◌, ◌≤◌, List, [], ◌∷◌, ◌++◌, length, ◌⊎◌}
use Rattle.std.specs.List.{flat_map}
use Rattle.std.proofs.Common.{refl, sym, ap, ◌∙◌, arith, inl, inr, append_assoc}
use Rattle.std.proofs.lemmas.Bool.{cases_eq}
use Rattle.std.proofs.lemmas.List.{append-nil}
use Rattle.pg_base.specs.Reading.{BeginsWith}
use Rattle.pg_base.specs.declared.error.ProtocolFault.{ProtocolFault}
use Rattle.pg_format.specs.Format.{Format, Lawful, Canonical, Total, IsRead, IsBroken, AreBytes}
use Rattle.pg_format.specs.Format.Parts.{be_u16}
use Rattle.pg_format.specs.Format.Sequences.{dep_pair}
use Rattle.pg_format.specs.Format.Tests.{with_room, only}
use Rattle.pg_format.specs.Format.Lists.{AreRead, OneBreaks, AllFit, AreInOrder, times, with_count, counted, counted_least, counted_long, until_zero, many}
use Rattle.pg_format.proofs.FormatLaws.Parts.{are_bytes_after, lawful_unsigned, canonical_unsigned, total_unsigned}
use Rattle.pg_format.proofs.FormatLaws.Sequences.{lawful_dep_pair, canonical_dep_pair, total_dep_pair, lawful_mapped, canonical_mapped, total_mapped}
use Rattle.pg_format.proofs.FormatLaws.Tests.{Takes, lawful_with_room, canonical_with_room, total_with_room}

module _ {A : Type 0} {g : Format A} (eg : Lawful g) where
  one_list : (v w : List A) (bytes x y : List ℕ) → length v ≡ length w → AreRead g bytes v x → AreRead g bytes w y → (v ≡ w) × (x ≡ y)
  one_list [] [] bytes x y len p q = (refl, p ∙ sym q)
  one_list [] (b ∷ bs) bytes x y len p q = absurd (omega (arith, len))
  one_list (a ∷ as') [] bytes x y len p q = absurd (omega (arith, len))
  one_list (a ∷ as') (b ∷ bs) bytes x y len p q =
      let first = eg.one_value bytes p.0 q.0 a b p.1 q.1 in
      let more = one_list as' bs q.0 x y (omega (arith, len)) (rw first.1 at p.2) q.2 in
      (λ i. first.0 i ∷ more.0 i, more.1)

  one_broken : (n len : ℕ) (bytes : List ℕ) (e f : ProtocolFault) → OneBreaks g n len bytes e → OneBreaks g n len bytes f → e ≡ f
  one_broken zero len bytes e f p q = absurd p
  one_broken (suc n) len bytes e f (inl p) (inl q) = eg.one_fault len bytes e f p q
  one_broken (suc n) len bytes e f (inl p) (inr q) = absurd (eg.never_both len bytes q.mid q.value e q.reads p)
  one_broken (suc n) len bytes e f (inr p) (inl q) = absurd (eg.never_both len bytes p.mid p.value f p.reads q)
  one_broken (suc n) len bytes e f (inr p) (inr q) =
      let first = eg.one_value bytes p.mid q.mid p.value q.value p.reads q.reads in
      one_broken n len q.mid e f (rw first.1 at p.breaks) q.breaks

  none_broken : (n len : ℕ) (bytes rest : List ℕ) (v : List A) (f : ProtocolFault) → length v ≡ n → AreRead g bytes v rest → OneBreaks g n len bytes f → ⊥
  none_broken zero len bytes rest v f l p q = q
  none_broken (suc n) len bytes rest [] f l p q = omega (arith, l)
  none_broken (suc n) len bytes rest (a ∷ more) f l p (inl q) = eg.never_both len bytes p.0 a f p.1 q
  none_broken (suc n) len bytes rest (a ∷ more) f l p (inr q) =
      let first = eg.one_value bytes p.0 q.mid a q.value p.1 q.reads in
      none_broken n len q.mid rest more f (omega (arith, l)) (rw first.1 at p.2) q.breaks

  list_written : (v : List A) (rest : List ℕ) → AllFit g v rest → AreRead g (flat_map g.Writes v ++ rest) v rest
  list_written [] rest fits = refl
  list_written (a ∷ more) rest fits = (
    flat_map g.Writes more ++ rest,
    rw append_assoc (eg.written a (flat_map g.Writes more ++ rest) fits.0),
    list_written more rest fits.1,
  )

  pub lawful_times : (n : ℕ) → Lawful (times n g)
  lawful_times n = record {
    one_value = λ bytes x y a b p q. one_list a b bytes x y (p.0 ∙ sym q.0) p.1 q.1;
    one_fault = one_broken n;
    never_both = λ len bytes rest a f p q. none_broken n len bytes rest a f p.0 p.1 q;
    written = λ a rest fits. (fits.0, list_written a rest fits.1);
  }

  pub lawful_counted : Lawful (counted g)
  lawful_counted = lawful_mapped (λ v. v.1) with_count (lawful_dep_pair (λ n. times n g) (lawful_unsigned 2 tt) lawful_times)

  pub lawful_counted_long : Lawful (counted_long g)
  lawful_counted_long = lawful_mapped (λ v. v.1) with_count (lawful_dep_pair (λ n. times n g) (lawful_unsigned 4 tt) lawful_times)

module _ {A : Type 0} {g : Format A} (cg : Canonical g) where
  same_list : (v : List A) (bytes rest : List ℕ) → AreBytes bytes → AreRead g bytes v rest → bytes ≡ flat_map g.Writes v ++ rest
  same_list [] bytes rest h p = sym p
  same_list (a ∷ more) bytes rest h p =
      let front = cg.same bytes p.0 a h p.1 in
      let back = same_list more p.0 rest (are_bytes_after bytes (g.Writes a) p.0 front h) p.2 in
      front ∙ ap (λ (l : List ℕ). g.Writes a ++ l) back ∙ sym (append_assoc (g.Writes a) (flat_map g.Writes more) rest)

  list_fits : (v : List A) (bytes rest : List ℕ) → AreBytes bytes → AreRead g bytes v rest → AllFit g v rest
  list_fits [] bytes rest h p = tt
  list_fits (a ∷ more) bytes rest h p =
      let after = are_bytes_after bytes (g.Writes a) p.0 (cg.same bytes p.0 a h p.1) h in
      let back = same_list more p.0 rest after p.2 in
      (rw (← back) (cg.fits bytes p.0 a h p.1), list_fits more p.0 rest after p.2)

  pub canonical_times : (n : ℕ) → Canonical (times n g)
  canonical_times n = record {
    same = λ bytes rest a h p. same_list a bytes rest h p.1;
    fits = λ bytes rest a h p. (p.0, list_fits a bytes rest h p.1);
  }

  count_again : (bytes rest : List ℕ) (a : ℕ × List A) → (dep_pair be_u16 (λ n. times n g)).Reads bytes a rest → with_count a.1 ≡ a
  count_again bytes rest a p = λ i. (p.second.0 i, a.1)

  pub canonical_counted : Canonical (counted g)
  canonical_counted = canonical_mapped (λ v. v.1) with_count count_again (canonical_dep_pair (λ n. times n g) (canonical_unsigned 2 tt) canonical_times)

  least_again : (least : ℕ) (bytes rest : List ℕ) (a : ℕ × List A) → (dep_pair be_u16 (λ n. with_room (least * n) (times n g))).Reads bytes a rest → with_count a.1 ≡ a
  least_again least bytes rest a p = λ i. (p.second.0 i, a.1)

  pub canonical_counted_least : (least : ℕ) → Canonical (counted_least least g)
  canonical_counted_least least =
      canonical_mapped (λ v. v.1) with_count (least_again least) (canonical_dep_pair (λ n. with_room (least * n) (times n g)) (canonical_unsigned 2 tt) (λ n. canonical_with_room (least * n) (canonical_times n)))

module _ {A : Type 0} {g : Format A} (tg : Total g) where
  after_one : (n len : ℕ) (bytes mid : List ℕ) (a : A) → g.Reads bytes a mid → IsRead (times n g) mid ⊎ IsBroken (times n g) len mid → IsRead (times (suc n) g) bytes ⊎ IsBroken (times (suc n) g) len bytes
  after_one n len bytes mid a p (inl q) = inl (a ∷ q.0, q.1, (ap suc q.2.0, (mid, p, q.2.1)))
  after_one n len bytes mid a p (inr q) = inr (q.0, inr (record { value = a; mid = mid; reads = p; breaks = q.1 }))

  so_many : (n len : ℕ) (bytes : List ℕ) → IsRead (times n g) bytes ⊎ IsBroken (times n g) len bytes
  so_many zero len bytes = inl ([], bytes, (refl, refl))
  so_many (suc n) len bytes =
      elim (tg.decides len bytes) [
        | inl p ↦ after_one n len bytes p.1 p.0 p.2 (so_many n len p.1)
        | inr p ↦ inr (p.0, inl p.1)
      ]

  pub total_times : (n : ℕ) → Total (times n g)
  total_times n = record { decides = so_many n }

  pub total_counted : Total (counted g)
  total_counted = total_mapped (λ v. v.1) with_count (total_dep_pair (λ n. times n g) (total_unsigned 2) total_times)

  pub total_counted_long : Total (counted_long g)
  total_counted_long = total_mapped (λ v. v.1) with_count (total_dep_pair (λ n. times n g) (total_unsigned 4) total_times)

  pub total_counted_least : (least : ℕ) → Total (counted_least least g)
  total_counted_least least =
      total_mapped (λ v. v.1) with_count (total_dep_pair (λ n. with_room (least * n) (times n g)) (total_unsigned 2) (λ n. total_with_room (least * n) (total_times n)))

-- so many items take so many times as much
module _ {A : Type 0} {g : Format A} (least : ℕ) (takes : Takes least g) where
  items_take : (v : List A) (bytes rest : List ℕ) → AreRead g bytes v rest → least * length v + length rest ≤ length bytes
  items_take [] bytes rest p = omega (arith, ap length p)
  items_take (a ∷ more) bytes rest p =
      let step : least * suc (length more) ≡ least * length more + least = omega arith in
      omega (arith, step, takes.takes bytes p.0 a p.1, items_take more p.0 rest p.2)

  pub times_take : (n : ℕ) → Takes (least * n) (times n g)
  times_take n = record {
    takes = λ bytes rest v p.
        let same : least * length v ≡ least * n = ap (λ (k : ℕ). least * k) p.0 in
        omega (arith, same, items_take v bytes rest p.1);
  }

  pub lawful_counted_least : Lawful g → Lawful (counted_least least g)
  lawful_counted_least eg =
      lawful_mapped (λ v. v.1) with_count (lawful_dep_pair (λ n. with_room (least * n) (times n g)) (lawful_unsigned 2 tt) (λ n. lawful_with_room (least * n) (times_take n) (lawful_times eg n)))

-- ---- as many as stand before a byte 0

module _ {A : Type 0} {g : Format A} (eg : Lawful g) (goes_on : (bytes rest : List ℕ) (a : A) → g.Reads bytes a rest → ¬ (BeginsWith 0 bytes)) where
  ended : (bytes mid rest : List ℕ) → mid ≡ bytes → mid ≡ 0 ∷ rest → BeginsWith 0 bytes
  ended [] mid rest p e = let clash : [] ≡ 0 ∷ rest = sym p ∙ e in absurd cc
  ended (byte ∷ bytes) mid rest p e = let same : byte ∷ bytes ≡ 0 ∷ rest = sym p ∙ e in let heads : byte ≡ 0 = cc in heads

  one_ended : (v w : List A) (bytes x y r s : List ℕ) → AreRead g bytes v x → x ≡ 0 ∷ r → AreRead g bytes w y → y ≡ 0 ∷ s → (v ≡ w) × (r ≡ s)
  one_ended [] [] bytes x y r s p e q f = let same : 0 ∷ r ≡ 0 ∷ s = sym e ∙ p ∙ sym q ∙ f in let tails : r ≡ s = cc in (refl, tails)
  one_ended [] (b ∷ w) bytes x y r s p e q f = absurd (goes_on bytes q.0 b q.1 (ended bytes x r p e))
  one_ended (a ∷ v) [] bytes x y r s p e q f = absurd (goes_on bytes p.0 a p.1 (ended bytes y s q f))
  one_ended (a ∷ v) (b ∷ w) bytes x y r s p e q f =
      let first = eg.one_value bytes p.0 q.0 a b p.1 q.1 in
      let more = one_ended v w q.0 x y r s (rw first.1 at p.2) e q.2 f in
      (λ i. first.0 i ∷ more.0 i, more.1)

  one_unended : (v w : List A) (len : ℕ) (bytes x y : List ℕ) (e f : ProtocolFault) → AreRead g bytes v x → g.Breaks len x e → AreRead g bytes w y → g.Breaks len y f → e ≡ f
  one_unended [] [] len bytes x y e f p b q d = eg.one_fault len bytes e f (rw p at b) (rw q at d)
  one_unended [] (a ∷ w) len bytes x y e f p b q d = absurd (eg.never_both len bytes q.0 a e q.1 (rw p at b))
  one_unended (a ∷ v) [] len bytes x y e f p b q d = absurd (eg.never_both len bytes p.0 a f p.1 (rw q at d))
  one_unended (a ∷ v) (b ∷ w) len bytes x y e f p c q d =
      let first = eg.one_value bytes p.0 q.0 a b p.1 q.1 in
      one_unended v w len q.0 x y e f (rw first.1 at p.2) c q.2 d

  never_unended : (v w : List A) (len : ℕ) (bytes x y r : List ℕ) (f : ProtocolFault) → AreRead g bytes v x → x ≡ 0 ∷ r → AreRead g bytes w y → ¬ (BeginsWith 0 y) → g.Breaks len y f → ⊥
  never_unended [] [] len bytes x y r f p e q on d = on (rw (sym q) at (ended bytes x r p e))
  never_unended [] (a ∷ w) len bytes x y r f p e q on d = goes_on bytes q.0 a q.1 (ended bytes x r p e)
  never_unended (a ∷ v) [] len bytes x y r f p e q on d = eg.never_both len bytes p.0 a f p.1 (rw q at d)
  never_unended (a ∷ v) (b ∷ w) len bytes x y r f p e q on d =
      let first = eg.one_value bytes p.0 q.0 a b p.1 q.1 in
      never_unended v w len q.0 x y r f (rw first.1 at p.2) e q.2 on d

  pub lawful_until_zero : Lawful (until_zero g)
  lawful_until_zero = record {
    one_value = λ bytes x y a b p q. one_ended a b bytes p.mid q.mid x y p.are_read p.ends q.are_read q.ends;
    one_fault = λ len bytes e f p q. one_unended p.some q.some len bytes p.mid q.mid e f p.are_read p.breaks q.are_read q.breaks;
    never_both = λ len bytes rest a f p q. never_unended a q.some len bytes p.mid q.mid rest f p.are_read p.ends q.are_read q.goes_on q.breaks;
    written = λ all rest fits. record {
      mid = 0 ∷ rest;
      are_read = rw append_assoc ((lawful_times eg (length all)).written all (0 ∷ rest) (refl, fits)).1;
      ends = refl;
    };
  }

module _ {A : Type 0} {g : Format A} (takes : Takes 1 g) (decides : (len : ℕ) (bytes : List ℕ) → ¬ (BeginsWith 0 bytes) → IsRead g bytes ⊎ IsBroken g len bytes) where
  after_item : (len : ℕ) (bytes mid : List ℕ) (a : A) → g.Reads bytes a mid → IsRead (until_zero g) mid ⊎ IsBroken (until_zero g) len mid → IsRead (until_zero g) bytes ⊎ IsBroken (until_zero g) len bytes
  after_item len bytes mid a p (inl q) = inl (a ∷ q.0, q.1, record { mid = q.2.mid; are_read = (mid, p, q.2.are_read); ends = q.2.ends })
  after_item len bytes mid a p (inr q) = inr (q.0, record { some = a ∷ q.1.some; mid = q.1.mid; are_read = (mid, p, q.1.are_read); goes_on = q.1.goes_on; breaks = q.1.breaks })

  by_item : (len : ℕ) (bytes : List ℕ) → ¬ (BeginsWith 0 bytes) → ((rest : List ℕ) → length rest < length bytes → IsRead (until_zero g) rest ⊎ IsBroken (until_zero g) len rest) → IsRead g bytes ⊎ IsBroken g len bytes
      → IsRead (until_zero g) bytes ⊎ IsBroken (until_zero g) len bytes
  by_item len bytes on more (inl p) = after_item len bytes p.1 p.0 p.2 (more p.1 (omega (arith, takes.takes bytes p.1 p.0 p.2)))
  by_item len bytes on more (inr p) = inr (p.0, record { some = []; mid = bytes; are_read = refl; goes_on = on; breaks = p.1 })

  by_byte : (most len : ℕ) (bytes : List ℕ) → length bytes < most → IsRead (until_zero g) bytes ⊎ IsBroken (until_zero g) len bytes
  by_byte zero len bytes few = absurd (omega (arith, few))
  by_byte (suc most) len [] few = by_item len [] (λ e. e) (λ rest shorter. by_byte most len rest (omega (arith, few, shorter))) (decides len [] (λ e. e))
  by_byte (suc most) len (byte ∷ bytes) few =
      elim (cases_eq byte 0) [
        | inl e ↦ inl ([], bytes, record { mid = byte ∷ bytes; are_read = refl; ends = ap (λ (b : ℕ). b ∷ bytes) e })
        | inr on ↦ by_item len (byte ∷ bytes) on (λ rest shorter. by_byte most len rest (omega (arith, few, shorter))) (decides len (byte ∷ bytes) on)
      ]

  pub total_until_zero : Total (until_zero g)
  total_until_zero = record { decides = λ len bytes. by_byte (suc (length bytes)) len bytes (omega arith) }

-- ---- as many as there are

-- at the bytes that end what is written none begins
module _ {A : Type 0} {g : Format A} (stop : List ℕ) (eg : Lawful g) (ends : (a : A) (rest : List ℕ) → ¬ (g.Reads stop a rest)) where
  one_order : (v w : List A) (bytes : List ℕ) → AreInOrder g bytes v → AreInOrder g bytes w → v ≡ w
  one_order [] [] bytes p q = refl
  one_order [] (b ∷ bs) bytes p q = absurd (p b q.0 q.1)
  one_order (a ∷ as') [] bytes p q = absurd (q a p.0 p.1)
  one_order (a ∷ as') (b ∷ bs) bytes p q =
      let first = eg.one_value bytes p.0 q.0 a b p.1 q.1 in
      let more = one_order as' bs q.0 (rw first.1 at p.2) q.2 in
      (λ i. first.0 i ∷ more i)

  order_written : (v : List A) → AllFit g v stop → AreInOrder g (flat_map g.Writes v ++ stop) v
  order_written [] fits = ends
  order_written (a ∷ more) fits = (
    flat_map g.Writes more ++ stop,
    rw append_assoc (eg.written a (flat_map g.Writes more ++ stop) fits.0),
    order_written more fits.1,
  )

  pub lawful_many : Lawful (many stop g)
  lawful_many = record {
    one_value = λ bytes x y a b p q. (one_order a b bytes p.0 q.0, p.1 ∙ sym q.1);
    one_fault = λ len bytes e f p q. absurd p;
    never_both = λ len bytes rest a f p q. q;
    written = λ v rest fits. (rw (fits.1, append-nil (flat_map g.Writes v ++ stop)) (order_written v fits.0), fits.1);
  }

-- it is decided whether one begins
pub record Decided {A : Type 0} (g : Format A) : Type 0 where
  pub decides : (bytes : List ℕ) → IsRead g bytes ⊎ ((a : A) (rest : List ℕ) → ¬ (g.Reads bytes a rest))

module _ {A : Type 0} {g : Format A} (Is : A → Type 0) (is_so : (a : A) → Is a ⊎ ¬ (Is a)) (eg : Lawful g) (tg : Total g) where
  by_test : (bytes rest : List ℕ) (a : A) → g.Reads bytes a rest → Is a ⊎ ¬ (Is a) → IsRead (only Is g) bytes ⊎ ((b : A) (x : List ℕ) → ¬ ((only Is g).Reads bytes b x))
  by_test bytes rest a p (inl so) = inl (a, rest, (p, so))
  by_test bytes rest a p (inr not) = inr (λ b x q. let same = eg.one_value bytes rest x a b p q.0 in not (rw same.0 q.1))

  pub decided_only : Decided (only Is g)
  decided_only = record {
    decides = λ bytes.
        elim (tg.decides 0 bytes) [
          | inl p ↦ by_test bytes p.1 p.0 p.2 (is_so p.0)
          | inr p ↦ inr (λ b x q. eg.never_both 0 bytes x b p.0 q.0 p.1)
        ];
  }

module _ {A : Type 0} {g : Format A} (stop : List ℕ) (takes : Takes 1 g) (dg : Decided g) where
  one_more : (bytes : List ℕ) → ((rest : List ℕ) → length rest < length bytes → (v : List A) × AreInOrder g rest v) → IsRead g bytes ⊎ ((a : A) (rest : List ℕ) → ¬ (g.Reads bytes a rest)) → (v : List A) × AreInOrder g bytes v
  one_more bytes more (inl p) =
      let v = more p.1 (omega (arith, takes.takes bytes p.1 p.0 p.2)) in
      (p.0 ∷ v.0, (p.1, p.2, v.1))
  one_more bytes more (inr none) = ([], none)

  all_of : (most : ℕ) (bytes : List ℕ) → length bytes < most → (v : List A) × AreInOrder g bytes v
  all_of zero bytes few = absurd (omega (arith, few))
  all_of (suc most) bytes few = one_more bytes (λ rest shorter. all_of most rest (omega (arith, few, shorter))) (dg.decides bytes)

  pub total_many : Total (many stop g)
  total_many = record { decides = λ len bytes. let all = all_of (suc (length bytes)) bytes (omega arith) in inl (all.0, [], (all.1, refl)) }
