-- The laws of formats after each other, and of values that are made of others.
use Rattle.std.specs.Prelude.{◌≡◌, ℕ, List, ◌++◌, Option, Some, None, Bool, true, false, ◌⊎◌}
use Rattle.std.proofs.Common.{refl, sym, ap, ◌∙◌, inl, inr, append_assoc}
use Rattle.pg_base.specs.declared.error.ProtocolFault.{ProtocolFault}
use Rattle.pg_format.specs.Format.{Format, Lawful, Canonical, Total, IsRead, IsBroken}
use Rattle.pg_format.specs.Format.Sequences.{dep_pair, ◌⨾◌, record_of, mapped, viewed, written_where, FitsWhere, case_of, choose}
use Rattle.pg_format.proofs.FormatLaws.Parts.{are_bytes_after}

module _ {A B : Type 0} {g : Format A} (h : A → Format B) (eg : Lawful g) (eh : (a : A) → Lawful (h a)) where
  -- what holds after one reading of the first holds after the other
  moved : (bytes x y : List ℕ) (a b : A) (C : A → List ℕ → Type 0) → g.Reads bytes a x → g.Reads bytes b y → C a x → C b y
  moved bytes x y a b C p q c = let both = eg.one_value bytes x y a b p q in rw (← both.0, ← both.1) c

  one_pair : (bytes x y : List ℕ) (a b : A × B) → (dep_pair g h).Reads bytes a x → (dep_pair g h).Reads bytes b y → (a ≡ b) × (x ≡ y)
  one_pair bytes x y a b p q =
      let second = moved bytes p.mid q.mid a.0 b.0 (λ v mid. (h v).Reads mid a.1 x) p.first q.first p.second in
      let both = (eh b.0).one_value q.mid x y a.1 b.1 second q.second in
      let firsts = (eg.one_value bytes p.mid q.mid a.0 b.0 p.first q.first).0 in
      (λ i. (firsts i, both.0 i), both.1)

  one_fault : (len : ℕ) (bytes : List ℕ) (e f : ProtocolFault) → (dep_pair g h).Breaks len bytes e → (dep_pair g h).Breaks len bytes f → e ≡ f
  one_fault len bytes e f (inl p) (inl q) = eg.one_fault len bytes e f p q
  one_fault len bytes e f (inl p) (inr q) = absurd (eg.never_both len bytes q.mid q.value e q.reads p)
  one_fault len bytes e f (inr p) (inl q) = absurd (eg.never_both len bytes p.mid p.value f p.reads q)
  one_fault len bytes e f (inr p) (inr q) =
      let second = moved bytes p.mid q.mid p.value q.value (λ v mid. (h v).Breaks len mid e) p.reads q.reads p.breaks in
      (eh q.value).one_fault len q.mid e f second q.breaks

  never_both : (len : ℕ) (bytes rest : List ℕ) (a : A × B) (f : ProtocolFault) → (dep_pair g h).Reads bytes a rest → (dep_pair g h).Breaks len bytes f → ⊥
  never_both len bytes rest a f p (inl q) = eg.never_both len bytes p.mid a.0 f p.first q
  never_both len bytes rest a f p (inr q) =
      let second = moved bytes p.mid q.mid a.0 q.value (λ v mid. (h v).Reads mid a.1 rest) p.first q.reads p.second in
      (eh q.value).never_both len q.mid rest a.1 f second q.breaks

  written : (a : A × B) (rest : List ℕ) → (dep_pair g h).Fits a rest → (dep_pair g h).Reads ((dep_pair g h).Writes a ++ rest) a rest
  written a rest fits = record {
    mid = (h a.0).Writes a.1 ++ rest;
    first = rw append_assoc (eg.written a.0 ((h a.0).Writes a.1 ++ rest) fits.0);
    second = (eh a.0).written a.1 rest fits.1;
  }

  pub lawful_dep_pair : Lawful (dep_pair g h)
  lawful_dep_pair = record { one_value = one_pair; one_fault = one_fault; never_both = never_both; written = written }

pub canonical_dep_pair : {A B : Type 0} {g : Format A} (h : A → Format B) → Canonical g → ((a : A) → Canonical (h a)) → Canonical (dep_pair g h)
canonical_dep_pair {g = g} h cg ch = record {
  same = λ bytes rest a are p.
      let front = cg.same bytes p.mid a.0 are p.first in
      let back = (ch a.0).same p.mid rest a.1 (are_bytes_after bytes (g.Writes a.0) p.mid front are) p.second in
      front ∙ ap (λ (l : List ℕ). g.Writes a.0 ++ l) back ∙ sym (append_assoc (g.Writes a.0) ((h a.0).Writes a.1) rest);
  fits = λ bytes rest a are p.
      let front = cg.same bytes p.mid a.0 are p.first in
      let after = are_bytes_after bytes (g.Writes a.0) p.mid front are in
      let back = (ch a.0).same p.mid rest a.1 after p.second in
      (rw (← back) (cg.fits bytes p.mid a.0 are p.first), (ch a.0).fits p.mid rest a.1 after p.second);
}

module _ {A B : Type 0} {g : Format A} (h : A → Format B) (tg : Total g) (th : (a : A) → Total (h a)) where
  after_first : (len : ℕ) (bytes mid : List ℕ) (a : A) → g.Reads bytes a mid → IsRead (h a) mid ⊎ IsBroken (h a) len mid → IsRead (dep_pair g h) bytes ⊎ IsBroken (dep_pair g h) len bytes
  after_first len bytes mid a p (inl q) = inl ((a, q.0), q.1, record { mid = mid; first = p; second = q.2 })
  after_first len bytes mid a p (inr q) = inr (q.0, inr (record { value = a; mid = mid; reads = p; breaks = q.1 }))

  by_first : (len : ℕ) (bytes : List ℕ) → IsRead g bytes ⊎ IsBroken g len bytes → IsRead (dep_pair g h) bytes ⊎ IsBroken (dep_pair g h) len bytes
  by_first len bytes (inl p) = after_first len bytes p.1 p.0 p.2 ((th p.0).decides len p.1)
  by_first len bytes (inr p) = inr (p.0, inl p.1)

  pub total_dep_pair : Total (dep_pair g h)
  total_dep_pair = record { decides = λ len bytes. by_first len bytes (tg.decides len bytes) }

infixr 5 ◌l⨾◌
pub ◌l⨾◌ : {A B : Type 0} {g : Format A} {h : Format B} → Lawful g → Lawful h → Lawful (g ⨾ h)
◌l⨾◌ {h = h} eg eh = lawful_dep_pair (λ _. h) eg (λ _. eh)

infixr 5 ◌c⨾◌
pub ◌c⨾◌ : {A B : Type 0} {g : Format A} {h : Format B} → Canonical g → Canonical h → Canonical (g ⨾ h)
◌c⨾◌ {h = h} cg ch = canonical_dep_pair (λ _. h) cg (λ _. ch)

infixr 5 ◌t⨾◌
pub ◌t⨾◌ : {A B : Type 0} {g : Format A} {h : Format B} → Total g → Total h → Total (g ⨾ h)
◌t⨾◌ {h = h} tg th = total_dep_pair (λ _. h) tg (λ _. th)

-- ---- values made of others

pub lawful_record_of : {A B : Type 0} {g : Format A} (parts : B → A) → ((a b : B) → parts a ≡ parts b → a ≡ b) → Lawful g → Lawful (record_of parts g)
lawful_record_of parts one eg = record {
  one_value = λ bytes x y a b p q. let both = eg.one_value bytes x y (parts a) (parts b) p q in (one a b both.0, both.1);
  one_fault = eg.one_fault;
  never_both = λ len bytes rest a f p q. eg.never_both len bytes rest (parts a) f p q;
  written = λ a rest fits. eg.written (parts a) rest fits;
}

pub canonical_record_of : {A B : Type 0} {g : Format A} (parts : B → A) → Canonical g → Canonical (record_of parts g)
canonical_record_of parts cg = record {
  same = λ bytes rest a h p. cg.same bytes rest (parts a) h p;
  fits = λ bytes rest a h p. cg.fits bytes rest (parts a) h p;
}

pub total_record_of : {A B : Type 0} {g : Format A} (parts : B → A) (whole : A → B) → ((a : A) → parts (whole a) ≡ a) → Total g → Total (record_of parts g)
total_record_of parts whole again tg = record {
  decides = λ len bytes.
      elim (tg.decides len bytes) [
        | inl p ↦ inl (whole p.0, p.1, rw again p.2)
        | inr p ↦ inr p
      ];
}

pub lawful_mapped : {A B : Type 0} {g : Format A} (f : A → B) (back : B → A) → Lawful g → Lawful (mapped f back g)
lawful_mapped f back eg = record {
  one_value = λ bytes x y a b p q. let both = eg.one_value bytes x y p.0 q.0 p.1 q.1 in (p.2 ∙ ap f both.0 ∙ sym q.2, both.1);
  one_fault = eg.one_fault;
  never_both = λ len bytes rest a e p q. eg.never_both len bytes rest p.0 e p.1 q;
  written = λ v rest fits. (back v, eg.written (back v) rest fits.0, sym fits.1);
}

pub lawful_viewed : {A B : Type 0} {g : Format A} (f : A → B) → Lawful g → Lawful (viewed f g)
lawful_viewed f eg = record {
  one_value = λ bytes x y a b p q. let both = eg.one_value bytes x y p.0 q.0 p.1 q.1 in (p.2 ∙ ap f both.0 ∙ sym q.2, both.1);
  one_fault = eg.one_fault;
  never_both = λ len bytes rest a e p q. eg.never_both len bytes rest p.0 e p.1 q;
  written = λ v rest fits. absurd fits;
}

-- where going back gives what was read
pub canonical_mapped : {A B : Type 0} {g : Format A} (f : A → B) (back : B → A) → ((bytes rest : List ℕ) (a : A) → g.Reads bytes a rest → back (f a) ≡ a) → Canonical g → Canonical (mapped f back g)
canonical_mapped {g = g} f back again cg = record {
  same = λ bytes rest v h p.
      let e : p.0 ≡ back v = sym (again bytes rest p.0 p.1) ∙ ap back (sym p.2) in
      cg.same bytes rest p.0 h p.1 ∙ ap (λ a. g.Writes a ++ rest) e;
  fits = λ bytes rest v h p.
      let e : p.0 ≡ back v = sym (again bytes rest p.0 p.1) ∙ ap back (sym p.2) in
      (rw (← e) (cg.fits bytes rest p.0 h p.1), ap f (sym e) ∙ sym p.2);
}

pub total_mapped : {A B : Type 0} {g : Format A} (f : A → B) (back : B → A) → Total g → Total (mapped f back g)
total_mapped f back tg = record {
  decides = λ len bytes.
      elim (tg.decides len bytes) [
        | inl p ↦ inl (f p.0, p.1, (p.0, p.2, refl))
        | inr p ↦ inr p
      ];
}

module _ {A B : Type 0} {g : Format A} (f : A → B) (back : B → Option A) (eg : Lawful g) where
  written_case : (v : B) (rest : List ℕ) (o : Option A) → FitsWhere (λ a. g.Fits a rest × (f a ≡ v)) o → (case_of f back g).Reads (written_where g.Writes o ++ rest) v rest
  written_case v rest None fits = absurd fits
  written_case v rest (Some a) fits = (a, eg.written a rest fits.0, sym fits.1)

  pub lawful_case_of : Lawful (case_of f back g)
  lawful_case_of = record {
    one_value = λ bytes x y a b p q. let both = eg.one_value bytes x y p.0 q.0 p.1 q.1 in (p.2 ∙ ap f both.0 ∙ sym q.2, both.1);
    one_fault = eg.one_fault;
    never_both = λ len bytes rest a e p q. eg.never_both len bytes rest p.0 e p.1 q;
    written = λ v rest fits. written_case v rest (back v) fits;
  }

pub canonical_case_of : {A B : Type 0} {g : Format A} (f : A → B) (back : B → Option A) → ((a : A) → back (f a) ≡ Some a) → Canonical g → Canonical (case_of f back g)
canonical_case_of f back again cg = record {
  same = λ bytes rest v h p.
      let e : back v ≡ Some p.0 = ap back p.2 ∙ again p.0 in
      rw e (cg.same bytes rest p.0 h p.1);
  fits = λ bytes rest v h p.
      let e : back v ≡ Some p.0 = ap back p.2 ∙ again p.0 in
      rw e (cg.fits bytes rest p.0 h p.1, sym p.2);
}

pub total_case_of : {A B : Type 0} {g : Format A} (f : A → B) (back : B → Option A) → Total g → Total (case_of f back g)
total_case_of f back tg = record {
  decides = λ len bytes.
      elim (tg.decides len bytes) [
        | inl p ↦ inl (f p.0, p.1, (p.0, p.2, refl))
        | inr p ↦ inr p
      ];
}

pub lawful_choose : {A : Type 0} {g h : Format A} (b : Bool) → Lawful g → Lawful h → Lawful (choose b g h)
lawful_choose true eg eh = eg
lawful_choose false eg eh = eh

pub total_choose : {A : Type 0} {g h : Format A} (b : Bool) → Total g → Total h → Total (choose b g h)
total_choose true tg th = tg
total_choose false tg th = th
