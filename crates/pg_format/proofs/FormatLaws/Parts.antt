-- The laws of parts.
use Rattle.std.specs.Prelude.{◌≡◌, ◌≢◌, ℕ, zero, suc, ◌-◌, ◌<◌, List, [], ◌∷◌, ◌++◌, length, Option, Some, None, ◌⊎◌}
use Rattle.std.specs.Int.{bytes_high_first}
use Rattle.std.proofs.Common.{refl, sym, ap, ◌∙◌, arith, inl, inr, append_assoc, length-append}
use Rattle.std.proofs.lemmas.List.{append-nil}
use Rattle.pg_base.specs.declared.error.ProtocolFault.{ProtocolFault}
use Rattle.pg_base.specs.declared.error.ProtocolFault.TheVariants.{Short, MissingNul}
use Rattle.pg_base.specs.Numbers.{num, int}
use Rattle.pg_base.specs.Reading.{Text, HoldsNo}
use Rattle.pg_base.proofs.CuttingLemmas.{parts_at}
use Rattle.pg_base.proofs.ReadingLemmas.{one_number, one_signed, one_text, no_text, number_fits, signed_fits}
use Rattle.pg_format.specs.Format.{Lawful, Canonical, Total, IsRead, IsBroken, AreBytes}
use Rattle.pg_format.specs.Format.Parts.{offset, Lacks, UnknownLetter, complement, until_nul, unsigned, signed, bytes_of, remaining, one_of, success, fail_before}
use Rattle.pg_format.proofs.FormatLaws.Numbers.{IsWidth, IsNarrow, bytes_wide, num_of_bytes, bytes_of_num, complement_wide, int_of_complement, spelled}
pub use Rattle.pg_format.specs.Lawful.{lawful_remaining}

after : (front rest : List ℕ) → AreBytes (front ++ rest) → AreBytes rest
after [] rest p = p
after (b ∷ front) rest p = after front rest p.1

before : (front rest : List ℕ) → AreBytes (front ++ rest) → AreBytes front
before [] rest p = tt
before (b ∷ front) rest p = (p.0, before front rest p.1)

pub are_bytes_after : (bytes front rest : List ℕ) → bytes ≡ front ++ rest → AreBytes bytes → AreBytes rest
are_bytes_after bytes front rest e p = after front rest (rw e at p)

pub are_bytes_before : (bytes front rest : List ℕ) → bytes ≡ front ++ rest → AreBytes bytes → AreBytes front
are_bytes_before bytes front rest e p = before front rest (rw e at p)

pub one_lack : (needed len : ℕ) (bytes : List ℕ) (e f : ProtocolFault) → Lacks needed len bytes e → Lacks needed len bytes f → e ≡ f
one_lack needed len bytes e f p q = p.is ∙ sym q.is

-- the first bytes, where there are so many
record Split (n : ℕ) (bytes : List ℕ) : Type 0 where
  front : List ℕ
  rest : List ℕ
  wide : length front ≡ n
  parts : bytes ≡ front ++ rest

split : (n : ℕ) (bytes : List ℕ) → (length bytes < n) ⊎ Split n bytes
split zero bytes = inr (record { front = []; rest = bytes; wide = refl; parts = refl })
split (suc n) [] = inl (omega arith)
split (suc n) (b ∷ bs) =
    elim (split n bs) [
      | inl few ↦ inl (omega (arith, few))
      | inr s ↦ inr (record { front = b ∷ s.front; rest = s.rest; wide = ap suc s.wide; parts = ap (λ (l : List ℕ). b ∷ l) s.parts })
    ]

pub lacks : (needed len : ℕ) (bytes : List ℕ) → length bytes < needed → (fault : ProtocolFault) × Lacks needed len bytes fault
lacks needed len bytes few = (Short (offset len bytes) needed (length bytes), record { few = few; is = refl })

-- ---- texts

pub lawful_until_nul : Lawful until_nul
lawful_until_nul = record {
  one_value = λ bytes x y a b p q. one_text bytes a b x y p q;
  one_fault = λ len bytes e f p q. p.is ∙ sym q.is;
  never_both = λ len bytes rest a f p q. no_text bytes a rest q.no_nul p.parts;
  written = λ a rest fits. record { clean = fits; parts = append_assoc a (0 ∷ []) rest };
}

pub canonical_until_nul : Canonical until_nul
canonical_until_nul = record {
  same = λ bytes rest a h p. p.parts ∙ sym (append_assoc a (0 ∷ []) rest);
  fits = λ bytes rest a h p. p.clean;
}

record Found (bytes : List ℕ) : Type 0 where
  text : List ℕ
  rest : List ℕ
  is : Text bytes text rest

find_nul : (bytes : List ℕ) → Found bytes ⊎ HoldsNo 0 bytes
find_nul [] = inr tt
find_nul (zero ∷ bs) = inl (record { text = []; rest = bs; is = record { clean = tt; parts = refl } })
find_nul (suc b ∷ bs) =
    let other : suc b ≢ 0 = λ e. omega (arith, e) in
    elim (find_nul bs) [
      | inl t ↦ inl (record { text = suc b ∷ t.text; rest = t.rest; is = record { clean = (other, t.is.clean); parts = ap (λ (l : List ℕ). suc b ∷ l) t.is.parts } })
      | inr none ↦ inr (other, none)
    ]

pub total_until_nul : Total until_nul
total_until_nul = record {
  decides = λ len bytes.
      elim (find_nul bytes) [
        | inl t ↦ inl (t.text, t.rest, t.is)
        | inr none ↦ inr (MissingNul (offset len bytes), record { no_nul = none; is = refl })
      ];
}

-- ---- numbers

pub lawful_unsigned : (width : ℕ) → IsWidth width → Lawful (unsigned width)
lawful_unsigned width w = record {
  one_value = λ bytes x y a b p q. one_number width bytes a b x y p q;
  one_fault = one_lack width;
  never_both = λ len bytes rest a f p q. omega (arith, q.few, number_fits width bytes a rest p);
  written = λ n rest fits. record { spelled = bytes_high_first width n; wide = bytes_wide width n; is = num_of_bytes width w n fits; parts = refl };
}

pub canonical_unsigned : (width : ℕ) → IsNarrow width → Canonical (unsigned width)
canonical_unsigned width w = record {
  same = λ bytes rest n h p.
      let s = bytes_of_num width w p.spelled p.wide (are_bytes_before bytes p.spelled rest p.parts h) in
      p.parts ∙ ap (λ (l : List ℕ). l ++ rest) (s.0 ∙ ap (bytes_high_first width) (sym p.is));
  fits = λ bytes rest n h p.
      let s = bytes_of_num width w p.spelled p.wide (are_bytes_before bytes p.spelled rest p.parts h) in
      rw (← p.is) at s.1;
}

pub total_unsigned : (width : ℕ) → Total (unsigned width)
total_unsigned width = record {
  decides = λ len bytes.
      elim (split width bytes) [
        | inl few ↦ inr (lacks width len bytes few)
        | inr s ↦ inl (num s.front, s.rest, record { spelled = s.front; wide = s.wide; is = refl; parts = s.parts })
      ];
}

pub lawful_signed : (width : ℕ) → IsWidth width → Lawful (signed width)
lawful_signed width w = record {
  one_value = λ bytes x y a b p q. one_signed width bytes a b x y p q;
  one_fault = one_lack width;
  never_both = λ len bytes rest a f p q. omega (arith, q.few, signed_fits width bytes a rest p);
  written = λ z rest fits. record { spelled = complement width z; wide = complement_wide width z; is = int_of_complement width w z fits; parts = refl };
}

pub canonical_signed : (width : ℕ) → IsNarrow width → Canonical (signed width)
canonical_signed width w = record {
  same = λ bytes rest z h p.
      let front = are_bytes_before bytes p.spelled rest p.parts h in
      let s = bytes_of_num width w p.spelled p.wide front in
      let t = spelled width w p.spelled p.wide front in
      p.parts ∙ ap (λ (l : List ℕ). l ++ rest) (s.0 ∙ sym t.same ∙ ap (complement width) (sym t.is ∙ sym p.is));
  fits = λ bytes rest z h p.
      let t = spelled width w p.spelled p.wide (are_bytes_before bytes p.spelled rest p.parts h) in
      let e : t.z ≡ z = sym t.is ∙ sym p.is in
      rw e at t.fits;
}

pub total_signed : (width : ℕ) → Total (signed width)
total_signed width = record {
  decides = λ len bytes.
      elim (split width bytes) [
        | inl few ↦ inr (lacks width len bytes few)
        | inr s ↦ inl (int s.front, s.rest, record { spelled = s.front; wide = s.wide; is = refl; parts = s.parts })
      ];
}

-- ---- bytes

pub lawful_bytes_of : (n : ℕ) → Lawful (bytes_of n)
lawful_bytes_of n = record {
  one_value = λ bytes x y a b p q. parts_at a b x y (p.0 ∙ sym q.0) (sym p.1 ∙ q.1);
  one_fault = one_lack n;
  never_both = λ len bytes rest a f p q. omega (arith, q.few, p.0, ap length p.1, length-append a rest);
  written = λ a rest fits. (fits, refl);
}

pub canonical_bytes_of : (n : ℕ) → Canonical (bytes_of n)
canonical_bytes_of n = record { same = λ bytes rest a h p. p.1; fits = λ bytes rest a h p. p.0 }

pub total_bytes_of : (n : ℕ) → Total (bytes_of n)
total_bytes_of n = record {
  decides = λ len bytes.
      elim (split n bytes) [
        | inl few ↦ inr (lacks n len bytes few)
        | inr s ↦ inl (s.front, s.rest, (s.wide, s.parts))
      ];
}

pub canonical_remaining : Canonical remaining
canonical_remaining = record {
  same = λ bytes rest a h p. rw (p.1, p.0) (sym (append-nil bytes));
  fits = λ bytes rest a h p. p.1;
}

pub total_remaining : Total remaining
total_remaining = record { decides = λ len bytes. inl (bytes, [], (refl, refl)) }

-- ---- letters: the table of what is read and that of what is written agree

module _ {A : Type 0} (read : ℕ → Option A) (write : A → ℕ) (unknown : ℕ → ProtocolFault) where
  one_letter : (bytes x y : List ℕ) (a b : A) → (one_of read write unknown).Reads bytes a x → (one_of read write unknown).Reads bytes b y → (a ≡ b) × (x ≡ y)
  one_letter bytes x y a b p q =
      let e : p.0 ∷ x ≡ q.0 ∷ y = sym p.1 ∙ q.1 in
      let letters : p.0 ≡ q.0 = cc in
      let rests : x ≡ y = cc in
      let both : Some a ≡ Some b = sym p.2 ∙ ap read letters ∙ q.2 in
      (cc, rests)

  one_unknown : (len : ℕ) (bytes : List ℕ) (e f : ProtocolFault) → UnknownLetter read unknown len bytes e → UnknownLetter read unknown len bytes f → e ≡ f
  one_unknown len [] e f p q = p.is ∙ sym q.is
  one_unknown len (letter ∷ bytes) e f p q = p.1 ∙ sym q.1

  known_or_not : (len : ℕ) (bytes rest : List ℕ) (a : A) (f : ProtocolFault) → (one_of read write unknown).Reads bytes a rest → UnknownLetter read unknown len bytes f → ⊥
  known_or_not len [] rest a f p q = absurd (cc (p.1))
  known_or_not len (letter ∷ bytes) rest a f p q =
      let letters : letter ≡ p.0 = cc (p.1) in
      let both : None ≡ Some a = sym q.0 ∙ ap read letters ∙ p.2 in
      absurd (cc both)

  pub lawful_one_of : ((a : A) → read (write a) ≡ Some a) → Lawful (one_of read write unknown)
  lawful_one_of agree = record {
    one_value = one_letter;
    one_fault = one_unknown;
    never_both = known_or_not;
    written = λ a rest fits. (write a, refl, agree a);
  }

  pub canonical_one_of : ((letter : ℕ) (a : A) → read letter ≡ Some a → write a ≡ letter) → Canonical (one_of read write unknown)
  canonical_one_of agree = record {
    same = λ bytes rest a h p. p.1 ∙ ap (λ (l : ℕ). l ∷ rest) (sym (agree p.0 a p.2));
    fits = λ bytes rest a h p. tt;
  }

  by_table : (len letter : ℕ) (bytes : List ℕ) (found : Option A) → read letter ≡ found → IsRead (one_of read write unknown) (letter ∷ bytes) ⊎ IsBroken (one_of read write unknown) len (letter ∷ bytes)
  by_table len letter bytes None e = inr (unknown letter, (e, refl))
  by_table len letter bytes (Some a) e = inl (a, bytes, (letter, refl, e))

  known : (len : ℕ) (bytes : List ℕ) → IsRead (one_of read write unknown) bytes ⊎ IsBroken (one_of read write unknown) len bytes
  known len [] = inr (lacks 1 len [] (omega arith))
  known len (letter ∷ bytes) = by_table len letter bytes (read letter) refl

  pub total_one_of : Total (one_of read write unknown)
  total_one_of = record { decides = known }

-- ---- no bytes

pub lawful_success : {A : Type 0} (v : A) → Lawful (success v)
lawful_success v = record {
  one_value = λ bytes x y a b p q. (p.0 ∙ sym q.0, p.1 ∙ sym q.1);
  one_fault = λ len bytes e f p q. absurd p;
  never_both = λ len bytes rest a f p q. q;
  written = λ a rest fits. (fits, refl);
}

pub canonical_success : {A : Type 0} (v : A) → Canonical (success v)
canonical_success v = record { same = λ bytes rest a h p. sym p.1; fits = λ bytes rest a h p. p.0 }

pub total_success : {A : Type 0} (v : A) → Total (success v)
total_success v = record { decides = λ len bytes. inl (v, bytes, (refl, refl)) }

pub lawful_fail_before : {A : Type 0} (width : ℕ) (wrong : ℕ → ProtocolFault) → Lawful (fail_before {A = A} width wrong)
lawful_fail_before width wrong = record {
  one_value = λ bytes x y a b p q. absurd p;
  one_fault = λ len bytes e f p q. p ∙ sym q;
  never_both = λ len bytes rest a f p q. p;
  written = λ a rest fits. fits;
}

pub canonical_fail_before : {A : Type 0} (width : ℕ) (wrong : ℕ → ProtocolFault) → Canonical (fail_before {A = A} width wrong)
canonical_fail_before width wrong = record { same = λ bytes rest a h p. absurd p; fits = λ bytes rest a h p. p }

pub total_fail_before : {A : Type 0} (width : ℕ) (wrong : ℕ → ProtocolFault) → Total (fail_before {A = A} width wrong)
total_fail_before width wrong = record { decides = λ len bytes. inr (wrong (offset len bytes - width), refl) }
