-- The laws of the ends of bodies.
use Rattle.std.specs.Prelude.{◌≡◌, ℕ, List, [], ◌∷◌, length, ◌⊎◌}
use Rattle.std.proofs.Common.{refl, sym, ap, ◌∙◌, arith, inl, inr}
use Rattle.pg_base.specs.declared.error.ProtocolFault.{ProtocolFault}
use Rattle.pg_base.specs.declared.error.ProtocolFault.TheVariants.{TrailingBytes}
use Rattle.pg_format.specs.Format.{Format, Lawful, Canonical, Total, IsRead, IsBroken}
use Rattle.pg_format.specs.Format.Parts.{offset}
use Rattle.pg_format.specs.Format.Ends.{exactly, loosely}

module _ {A : Type 0} {g : Format A} (eg : Lawful g) where
  one_fault : (len : ℕ) (bytes : List ℕ) (e f : ProtocolFault) → (exactly g).Breaks len bytes e → (exactly g).Breaks len bytes f → e ≡ f
  one_fault len bytes e f (inl p) (inl q) = eg.one_fault len bytes e f p q
  one_fault len bytes e f (inl p) (inr q) = absurd (eg.never_both len bytes q.mid q.value e q.reads p)
  one_fault len bytes e f (inr p) (inl q) = absurd (eg.never_both len bytes p.mid p.value f p.reads q)
  one_fault len bytes e f (inr p) (inr q) =
      let same = eg.one_value bytes p.mid q.mid p.value q.value p.reads q.reads in
      p.breaks.is ∙ ap (λ (l : List ℕ). TrailingBytes (offset len l)) same.1 ∙ sym q.breaks.is

  never_both : (len : ℕ) (bytes rest : List ℕ) (a : A) (f : ProtocolFault) → (exactly g).Reads bytes a rest → (exactly g).Breaks len bytes f → ⊥
  never_both len bytes rest a f p (inl q) = eg.never_both len bytes [] a f p.0 q
  never_both len bytes rest a f p (inr q) =
      let same = eg.one_value bytes [] q.mid a q.value p.0 q.reads in
      omega (arith, q.breaks.some, ap length same.1)

  pub lawful_exactly : Lawful (exactly g)
  lawful_exactly = record {
    one_value = λ bytes x y a b p q. ((eg.one_value bytes [] [] a b p.0 q.0).0, p.1 ∙ sym q.1);
    one_fault = one_fault;
    never_both = never_both;
    written = λ v rest fits. (rw fits.1 (eg.written v [] fits.0), fits.1);
  }

  pub lawful_loosely : Lawful (loosely g)
  lawful_loosely = record {
    one_value = λ bytes x y a b p q. ((eg.one_value bytes p.0 q.0 a b p.1 q.1).0, p.2 ∙ sym q.2);
    one_fault = eg.one_fault;
    never_both = λ len bytes rest a f p q. eg.never_both len bytes p.0 a f p.1 q;
    written = λ v rest fits. ([], rw fits.1 (eg.written v [] fits.0), fits.1);
  }

pub canonical_exactly : {A : Type 0} {g : Format A} → Canonical g → Canonical (exactly g)
canonical_exactly cg = record {
  same = λ bytes rest a h p. rw p.1 (cg.same bytes [] a h p.0);
  fits = λ bytes rest a h p. (cg.fits bytes [] a h p.0, p.1);
}

module _ {A : Type 0} {g : Format A} (tg : Total g) where
  by_rest : (len : ℕ) (bytes rest : List ℕ) (a : A) → g.Reads bytes a rest → IsRead (exactly g) bytes ⊎ IsBroken (exactly g) len bytes
  by_rest len bytes [] a p = inl (a, [], (p, refl))
  by_rest len bytes (b ∷ bs) a p =
      inr (TrailingBytes (offset len (b ∷ bs)), inr (record { value = a; mid = b ∷ bs; reads = p; breaks = record { some = omega arith; is = refl } }))

  by_value : (len : ℕ) (bytes : List ℕ) → IsRead g bytes ⊎ IsBroken g len bytes → IsRead (exactly g) bytes ⊎ IsBroken (exactly g) len bytes
  by_value len bytes (inl p) = by_rest len bytes p.1 p.0 p.2
  by_value len bytes (inr p) = inr (p.0, inl p.1)

  pub total_exactly : Total (exactly g)
  total_exactly = record { decides = λ len bytes. by_value len bytes (tg.decides len bytes) }

  pub total_loosely : Total (loosely g)
  total_loosely = record {
    decides = λ len bytes.
        elim (tg.decides len bytes) [
          | inl p ↦ inl (p.0, [], (p.1, p.2, refl))
          | inr p ↦ inr p
        ];
  }
