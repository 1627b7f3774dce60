-- The laws of formats of values that are tested.
use Rattle.std.specs.Prelude.{◌≡◌, ℕ, ◌+◌, ◌<◌, ◌≤◌, List, [], ◌∷◌, ◌++◌, length, Option, Some, None, Bool, true, false, ◌⊎◌, IsUtf8}
use Rattle.std.specs.Str.{is_utf8}
use Rattle.std.proofs.Common.{refl, sym, ap, ◌∙◌, arith, inl, inr}
use Rattle.std.proofs.lemmas.Bool.{cases_lt, cases_eq}
use Rattle.std.proofs.lemmas.Str.{IsUtf8-from_is_utf8, is_utf8-from_IsUtf8}
use Rattle.pg_base.specs.Reading.{BeginsWith}
use Rattle.pg_base.specs.declared.error.ProtocolFault.{ProtocolFault}
use Rattle.pg_base.specs.declared.error.ProtocolFault.TheVariants.{NotUtf8}
use Rattle.pg_format.specs.Format.{Format, Lawful, Canonical, Total, IsRead, IsBroken}
use Rattle.pg_format.specs.Format.Tests.{verify, utf8, checked, only, with_room, ReadsUnless, unless}
use Rattle.pg_format.proofs.FormatLaws.Parts.{lawful_until_nul, total_until_nul, lacks}

module _ {A : Type 0} {g : Format A} (Is : A → Type 0) (wrong : ProtocolFault) where
  module _ (eg : Lawful g) where
    one_fault : (len : ℕ) (bytes : List ℕ) (e f : ProtocolFault) → (verify Is wrong g).Breaks len bytes e → (verify Is wrong g).Breaks len bytes f → e ≡ f
    one_fault len bytes e f (inl p) (inl q) = eg.one_fault len bytes e f p q
    one_fault len bytes e f (inl p) (inr q) = absurd (eg.never_both len bytes q.rest q.value e q.reads p)
    one_fault len bytes e f (inr p) (inl q) = absurd (eg.never_both len bytes p.rest p.value f p.reads q)
    one_fault len bytes e f (inr p) (inr q) = p.is ∙ sym q.is

    never_both : (len : ℕ) (bytes rest : List ℕ) (a : A) (f : ProtocolFault) → (verify Is wrong g).Reads bytes a rest → (verify Is wrong g).Breaks len bytes f → ⊥
    never_both len bytes rest a f p (inl q) = eg.never_both len bytes rest a f p.0 q
    never_both len bytes rest a f p (inr q) =
        let same = eg.one_value bytes rest q.rest a q.value p.0 q.reads in
        q.is_not (rw same.0 at p.1)

    pub lawful_verify : Lawful (verify Is wrong g)
    lawful_verify = record {
      one_value = λ bytes x y a b p q. eg.one_value bytes x y a b p.0 q.0;
      one_fault = one_fault;
      never_both = never_both;
      written = λ v rest fits. (eg.written v rest fits.0, fits.1);
    }

  pub canonical_verify : Canonical g → Canonical (verify Is wrong g)
  canonical_verify cg = record {
    same = λ bytes rest a h p. cg.same bytes rest a h p.0;
    fits = λ bytes rest a h p. (cg.fits bytes rest a h p.0, p.1);
  }

  module _ (is_so : (a : A) → Is a ⊎ ¬ (Is a)) (tg : Total g) where
    by_test : (len : ℕ) (bytes rest : List ℕ) (a : A) → g.Reads bytes a rest → Is a ⊎ ¬ (Is a) → IsRead (verify Is wrong g) bytes ⊎ IsBroken (verify Is wrong g) len bytes
    by_test len bytes rest a p (inl so) = inl (a, rest, (p, so))
    by_test len bytes rest a p (inr not) = inr (wrong, inr (record { value = a; rest = rest; reads = p; is_not = not; is = refl }))

    by_value : (len : ℕ) (bytes : List ℕ) → IsRead g bytes ⊎ IsBroken g len bytes → IsRead (verify Is wrong g) bytes ⊎ IsBroken (verify Is wrong g) len bytes
    by_value len bytes (inl p) = by_test len bytes p.1 p.0 p.2 (is_so p.0)
    by_value len bytes (inr p) = inr (p.0, inl p.1)

    pub total_verify : Total (verify Is wrong g)
    total_verify = record { decides = λ len bytes. by_value len bytes (tg.decides len bytes) }

pub lawful_utf8 : Lawful utf8
lawful_utf8 = lawful_verify IsUtf8 NotUtf8 lawful_until_nul

utf8_by : (text : List ℕ) (b : Bool) → is_utf8 text ≡ b → IsUtf8 text ⊎ ¬ (IsUtf8 text)
utf8_by text true e = inl (IsUtf8-from_is_utf8 text e)
utf8_by text false e = inr (λ is. absurd (cc (sym e ∙ is_utf8-from_IsUtf8 text is)))

pub utf8_or_not : (text : List ℕ) → IsUtf8 text ⊎ ¬ (IsUtf8 text)
utf8_or_not text = utf8_by text (is_utf8 text) refl

pub total_utf8 : Total utf8
total_utf8 = total_verify IsUtf8 NotUtf8 utf8_or_not total_until_nul

-- ---- faults of their own

clash : (o : Option ProtocolFault) (f : ProtocolFault) → o ≡ None → o ≡ Some f → ⊥
clash o f p q = cc (sym p ∙ q)

one_some : (e f : ProtocolFault) → Some e ≡ Some f → e ≡ f
one_some e f p = cc

module _ {A : Type 0} {g : Format A} (own : A → Option ProtocolFault) where
  module _ (eg : Lawful g) where
    one_own : (len : ℕ) (bytes : List ℕ) (e f : ProtocolFault) → (checked own g).Breaks len bytes e → (checked own g).Breaks len bytes f → e ≡ f
    one_own len bytes e f (inl p) (inl q) = eg.one_fault len bytes e f p q
    one_own len bytes e f (inl p) (inr q) = absurd (eg.never_both len bytes q.rest q.value e q.reads p)
    one_own len bytes e f (inr p) (inl q) = absurd (eg.never_both len bytes p.rest p.value f p.reads q)
    one_own len bytes e f (inr p) (inr q) =
        let same = eg.one_value bytes p.rest q.rest p.value q.value p.reads q.reads in
        one_some e f (sym p.is ∙ ap own same.0 ∙ q.is)

    own_or_value : (len : ℕ) (bytes rest : List ℕ) (a : A) (f : ProtocolFault) → (checked own g).Reads bytes a rest → (checked own g).Breaks len bytes f → ⊥
    own_or_value len bytes rest a f p (inl q) = eg.never_both len bytes rest a f p.0 q
    own_or_value len bytes rest a f p (inr q) =
        let same = eg.one_value bytes rest q.rest a q.value p.0 q.reads in
        clash (own a) f p.1 (ap own same.0 ∙ q.is)

    pub lawful_checked : Lawful (checked own g)
    lawful_checked = record {
      one_value = λ bytes x y a b p q. eg.one_value bytes x y a b p.0 q.0;
      one_fault = one_own;
      never_both = own_or_value;
      written = λ v rest fits. (eg.written v rest fits.0, fits.1);
    }

  pub canonical_checked : Canonical g → Canonical (checked own g)
  canonical_checked cg = record {
    same = λ bytes rest a h p. cg.same bytes rest a h p.0;
    fits = λ bytes rest a h p. (cg.fits bytes rest a h p.0, p.1);
  }

  module _ (tg : Total g) where
    by_own : (len : ℕ) (bytes rest : List ℕ) (a : A) (found : Option ProtocolFault) → own a ≡ found → g.Reads bytes a rest → IsRead (checked own g) bytes ⊎ IsBroken (checked own g) len bytes
    by_own len bytes rest a None e p = inl (a, rest, (p, e))
    by_own len bytes rest a (Some f) e p = inr (f, inr (record { value = a; rest = rest; reads = p; is = e }))

    own_of : (len : ℕ) (bytes : List ℕ) → IsRead g bytes ⊎ IsBroken g len bytes → IsRead (checked own g) bytes ⊎ IsBroken (checked own g) len bytes
    own_of len bytes (inl p) = by_own len bytes p.1 p.0 (own p.0) refl p.2
    own_of len bytes (inr p) = inr (p.0, inl p.1)

    pub total_checked : Total (checked own g)
    total_checked = record { decides = λ len bytes. own_of len bytes (tg.decides len bytes) }

-- ---- values that are read or not

pub lawful_only : {A : Type 0} {g : Format A} (Is : A → Type 0) → Lawful g → Lawful (only Is g)
lawful_only Is eg = record {
  one_value = λ bytes x y a b p q. eg.one_value bytes x y a b p.0 q.0;
  one_fault = eg.one_fault;
  never_both = λ len bytes rest a f p q. eg.never_both len bytes rest a f p.0 q;
  written = λ v rest fits. (eg.written v rest fits.0, fits.1);
}

-- ---- room

-- a value takes so many bytes or more
pub record Takes {A : Type 0} (needed : ℕ) (g : Format A) : Type 0 where
  pub takes : (bytes rest : List ℕ) (a : A) → g.Reads bytes a rest → needed + length rest ≤ length bytes

module _ {A : Type 0} {g : Format A} (needed : ℕ) where
  module _ (takes : Takes needed g) (eg : Lawful g) where
    one_short : (len : ℕ) (bytes : List ℕ) (e f : ProtocolFault) → (with_room needed g).Breaks len bytes e → (with_room needed g).Breaks len bytes f → e ≡ f
    one_short len bytes e f (inl p) (inl q) = p.is ∙ sym q.is
    one_short len bytes e f (inl p) (inr q) = absurd (omega (arith, p.few, q.0))
    one_short len bytes e f (inr p) (inl q) = absurd (omega (arith, q.few, p.0))
    one_short len bytes e f (inr p) (inr q) = eg.one_fault len bytes e f p.1 q.1

    short_or_value : (len : ℕ) (bytes rest : List ℕ) (a : A) (f : ProtocolFault) → g.Reads bytes a rest → (with_room needed g).Breaks len bytes f → ⊥
    short_or_value len bytes rest a f p (inl q) = omega (arith, q.few, takes.takes bytes rest a p)
    short_or_value len bytes rest a f p (inr q) = eg.never_both len bytes rest a f p q.1

    pub lawful_with_room : Lawful (with_room needed g)
    lawful_with_room = record { one_value = eg.one_value; one_fault = one_short; never_both = short_or_value; written = eg.written }

  pub canonical_with_room : Canonical g → Canonical (with_room needed g)
  canonical_with_room cg = record { same = cg.same; fits = cg.fits }

  module _ (tg : Total g) where
    by_room : (len : ℕ) (bytes : List ℕ) → (length bytes < needed) ⊎ (needed ≤ length bytes) → IsRead g bytes ⊎ IsBroken g len bytes → IsRead (with_room needed g) bytes ⊎ IsBroken (with_room needed g) len bytes
    by_room len bytes (inl few) found = let lack = lacks needed len bytes few in inr (lack.0, inl lack.1)
    by_room len bytes (inr enough) (inl p) = inl p
    by_room len bytes (inr enough) (inr p) = inr (p.0, inr (enough, p.1))

    pub total_with_room : Total (with_room needed g)
    total_with_room = record { decides = λ len bytes. by_room len bytes (cases_lt (length bytes) needed) (tg.decides len bytes) }

-- ---- values that stand unless another byte does

begins_or_not : (stop : ℕ) (bytes : List ℕ) → BeginsWith stop bytes ⊎ ¬ (BeginsWith stop bytes)
begins_or_not stop [] = inr (λ p. p)
begins_or_not stop (byte ∷ bytes) = cases_eq byte stop

module _ {A : Type 0} {g : Format A} (stop : ℕ) where
  module _ (eg : Lawful g) where
    one_unless : (bytes x y : List ℕ) (a b : Option A) → ReadsUnless stop g bytes a x → ReadsUnless stop g bytes b y → (a ≡ b) × (x ≡ y)
    one_unless bytes x y None None p q = (refl, p.1 ∙ sym q.1)
    one_unless bytes x y None (Some b) p q = absurd (q.0 p.0)
    one_unless bytes x y (Some a) None p q = absurd (p.0 q.0)
    one_unless bytes x y (Some a) (Some b) p q = let both = eg.one_value bytes x y a b p.1 q.1 in (ap Some both.0, both.1)

    unless_or_fault : (len : ℕ) (bytes rest : List ℕ) (a : Option A) (f : ProtocolFault) → ReadsUnless stop g bytes a rest → (unless stop g).Breaks len bytes f → ⊥
    unless_or_fault len bytes rest None f p q = q.0 p.0
    unless_or_fault len bytes rest (Some a) f p q = eg.never_both len bytes rest a f p.1 q.1

    unless_written : (a : Option A) (rest : List ℕ) → (unless stop g).Fits a rest → (unless stop g).Reads ((unless stop g).Writes a ++ rest) a rest
    unless_written None rest fits = (fits, refl)
    unless_written (Some a) rest fits = (fits.0, eg.written a rest fits.1)

    pub lawful_unless : Lawful (unless stop g)
    lawful_unless = record {
      one_value = one_unless;
      one_fault = λ len bytes e f p q. eg.one_fault len bytes e f p.1 q.1;
      never_both = unless_or_fault;
      written = unless_written;
    }

  module _ (tg : Total g) where
    by_front : (len : ℕ) (bytes : List ℕ) → BeginsWith stop bytes ⊎ ¬ (BeginsWith stop bytes) → IsRead g bytes ⊎ IsBroken g len bytes → IsRead (unless stop g) bytes ⊎ IsBroken (unless stop g) len bytes
    by_front len bytes (inl begins) found = inl (None, bytes, (begins, refl))
    by_front len bytes (inr other) (inl p) = inl (Some p.0, p.1, (other, p.2))
    by_front len bytes (inr other) (inr p) = inr (p.0, (other, p.1))

    pub total_unless : Total (unless stop g)
    total_unless = record { decides = λ len bytes. by_front len bytes (begins_or_not stop bytes) (tg.decides len bytes) }
