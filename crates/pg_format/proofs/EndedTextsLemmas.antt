-- The first NUL ends the first text.
use Rattle.std.proofs.Common.{◌≡◌, ◌≢◌, ℕ, zero, suc, ◌*◌, ◌<◌, ◌≤◌, Option, Some, None, List, [], ◌∷◌, ◌++◌, length, ◌⊎◌, inl, inr, refl, sym, ap, ◌∙◌, arith, length-append}
use Rattle.std.proofs.lemmas.Bool.{ne_eqb, cases_eq}
use Rattle.pg_base.specs.Reading.{HoldsNo, Text}
use Rattle.pg_base.proofs.ReadingLemmas.{no_text, one_text}
use Rattle.pg_format.specs.EndedTexts.{texts_in, onto_first_text, meanings_of, AreInOrder}

texts_in-nul : (bytes : List ℕ) → texts_in (0 ∷ bytes) ≡ [] ∷ texts_in bytes
unfolding texts_in
texts_in-nul bytes = refl

texts_in-other : (byte : ℕ) (bytes : List ℕ) → byte ≢ 0 → texts_in (byte ∷ bytes) ≡ onto_first_text byte (texts_in bytes)
unfolding texts_in
texts_in-other byte bytes h = rw (ne_eqb byte 0 h) refl

pub texts_in-end : texts_in [] ≡ []
unfolding texts_in
texts_in-end = refl

pub texts_in-text : (text rest : List ℕ) → HoldsNo 0 text → texts_in (text ++ 0 ∷ rest) ≡ text ∷ texts_in rest
texts_in-text [] rest h = texts_in-nul rest
texts_in-text (byte ∷ text) rest h = texts_in-other byte (text ++ 0 ∷ rest) h.0 ∙ ap (onto_first_text byte) (texts_in-text text rest h.1)

pub texts_in-none : (bytes : List ℕ) → HoldsNo 0 bytes → texts_in bytes ≡ []
texts_in-none [] h = texts_in-end
texts_in-none (byte ∷ bytes) h = texts_in-other byte bytes h.0 ∙ ap (onto_first_text byte) (texts_in-none bytes h.1)

pub texts_at : (bytes text rest : List ℕ) → Text bytes text rest → texts_in bytes ≡ text ∷ texts_in rest
texts_at bytes text rest h = ap texts_in h.parts ∙ texts_in-text text rest h.clean

-- bytes hold no NUL, or begin with a text
pub text_or_none : (bytes : List ℕ) → HoldsNo 0 bytes ⊎ ((text : List ℕ) × (rest : List ℕ) × Text bytes text rest)
text_or_none [] = inl tt
text_or_none (byte ∷ bytes) =
    elim (cases_eq byte 0) [
      | inl nul ↦ inr ([], bytes, record { clean = tt; parts = ap (λ b. b ∷ bytes) nul })
      | inr other ↦ elim (text_or_none bytes) [
        | inl clean ↦ inl (other, clean)
        | inr found ↦ inr (byte ∷ found.0, found.1, record { clean = (other, found.2.clean); parts = ap (λ (more : List ℕ). byte ∷ more) found.2.parts })
      ]
    ]

pub text_is_shorter : (bytes text rest : List ℕ) → Text bytes text rest → length rest < length bytes
text_is_shorter bytes text rest h = omega (arith, ap length h.parts, length-append text (0 ∷ rest))

-- what a text means begins the bytes that the text begins, and an empty text means nothing
pub record IsMeaning {X : Type 0} (meaning : List ℕ → Option X) (Begins : List ℕ → X → List ℕ → Type 0) : Type 0 where
  pub begins : (bytes text rest : List ℕ) (x : X) → Text bytes text rest → meaning text ≡ Some x → Begins bytes x rest
  pub text : (bytes : List ℕ) (x : X) (rest : List ℕ) → Begins bytes x rest → (text : List ℕ) × Text bytes text rest × (meaning text ≡ Some x)
  pub empty : meaning [] ≡ None

pub meanings_clean : {X : Type 0} (meaning : List ℕ → Option X) (bytes : List ℕ) → HoldsNo 0 bytes → meanings_of meaning (texts_in bytes) ≡ []
meanings_clean meaning bytes h = ap (meanings_of meaning) (texts_in-none bytes h)

pub meanings_none : {X : Type 0} (meaning : List ℕ → Option X) (bytes text rest : List ℕ) → Text bytes text rest → meaning text ≡ None → meanings_of meaning (texts_in bytes) ≡ []
meanings_none meaning bytes text rest h e = ap (meanings_of meaning) (texts_at bytes text rest h) ∙ rw e refl

pub meanings_at : {X : Type 0} (meaning : List ℕ → Option X) (bytes text rest : List ℕ) (x : X) → Text bytes text rest → meaning text ≡ Some x
    → meanings_of meaning (texts_in bytes) ≡ x ∷ meanings_of meaning (texts_in rest)
meanings_at meaning bytes text rest x h e = ap (meanings_of meaning) (texts_at bytes text rest h) ∙ rw e refl

pub meanings_begin : {X : Type 0} (meaning : List ℕ → Option X) (Begins : List ℕ → X → List ℕ → Type 0) → IsMeaning meaning Begins → (bytes : List ℕ) (x : X) (rest : List ℕ)
    → Begins bytes x rest → meanings_of meaning (texts_in bytes) ≡ x ∷ meanings_of meaning (texts_in rest)
meanings_begin meaning Begins is bytes x rest h = let t = is.text bytes x rest h in meanings_at meaning bytes t.0 rest x t.1 t.2

none_clean : {X : Type 0} (meaning : List ℕ → Option X) (Begins : List ℕ → X → List ℕ → Type 0) → IsMeaning meaning Begins → (bytes : List ℕ) → HoldsNo 0 bytes → AreInOrder Begins bytes []
none_clean meaning Begins is bytes h x rest b = let t = is.text bytes x rest b in no_text bytes t.0 rest h t.1.parts

none_text : {X : Type 0} (meaning : List ℕ → Option X) (Begins : List ℕ → X → List ℕ → Type 0) → IsMeaning meaning Begins → (bytes text rest : List ℕ) → Text bytes text rest → meaning text ≡ None
    → AreInOrder Begins bytes []
none_text meaning Begins is bytes text rest h none x others b =
    let t = is.text bytes x others b in
    let same = (one_text bytes text t.0 rest others h t.1).0 in
    let e = sym none ∙ ap meaning same ∙ t.2 in
    cc e

a_meaning_or_none : {X : Type 0} (found : Option X) → (found ≡ None) ⊎ ((x : X) × (found ≡ Some x))
a_meaning_or_none None = inl refl
a_meaning_or_none (Some x) = inr (x, refl)

-- in bytes of so many at most
are_below : {X : Type 0} (meaning : List ℕ → Option X) (Begins : List ℕ → X → List ℕ → Type 0) → IsMeaning meaning Begins → (n : ℕ) (bytes : List ℕ) → length bytes ≤ n
    → AreInOrder Begins bytes (meanings_of meaning (texts_in bytes))
are_below meaning Begins is zero [] le = rw (meanings_clean meaning [] tt) (none_clean meaning Begins is [] tt)
are_below meaning Begins is zero (byte ∷ bytes) le = absurd (omega (arith, le))
are_below meaning Begins is (suc n) bytes le =
    elim (text_or_none bytes) [
      | inl clean ↦ rw (meanings_clean meaning bytes clean) (none_clean meaning Begins is bytes clean)
      | inr found ↦ elim (a_meaning_or_none (meaning found.0)) [
        | inl none ↦ rw (meanings_none meaning bytes found.0 found.1 found.2 none) (none_text meaning Begins is bytes found.0 found.1 found.2 none)
        | inr some ↦
            let shorter = text_is_shorter bytes found.0 found.1 found.2 in
            rw (meanings_at meaning bytes found.0 found.1 some.0 found.2 some.1)
            (found.1, is.begins bytes found.0 found.1 some.0 found.2 some.1, are_below meaning Begins is n found.1 (omega (arith, shorter, le)))
      ]
    ]

pub meanings_are : {X : Type 0} (meaning : List ℕ → Option X) (Begins : List ℕ → X → List ℕ → Type 0) → IsMeaning meaning Begins → (bytes : List ℕ) → AreInOrder Begins bytes (meanings_of meaning (texts_in bytes))
meanings_are meaning Begins is bytes = are_below meaning Begins is (length bytes) bytes (omega arith)

-- where none begins the bytes, there are none
no_others : {X : Type 0} (Begins : List ℕ → X → List ℕ → Type 0) (bytes : List ℕ) (xs : List X) → AreInOrder Begins bytes xs → AreInOrder Begins bytes [] → xs ≡ []
no_others Begins bytes [] h none = refl
no_others Begins bytes (x ∷ more) h none = absurd (none x h.0 h.1)

pub only_meanings : {X : Type 0} (meaning : List ℕ → Option X) (Begins : List ℕ → X → List ℕ → Type 0) → IsMeaning meaning Begins → (bytes : List ℕ) (xs : List X) → AreInOrder Begins bytes xs
    → xs ≡ meanings_of meaning (texts_in bytes)
only_meanings meaning Begins is bytes [] h = sym (no_others Begins bytes (meanings_of meaning (texts_in bytes)) (meanings_are meaning Begins is bytes) h)
only_meanings {X} meaning Begins is bytes (x ∷ more) h =
    ap (λ (rest : List X). x ∷ rest) (only_meanings meaning Begins is h.0 more h.2) ∙ sym (meanings_begin meaning Begins is bytes x h.0 h.1)

nonempty_text : {X : Type 0} (meaning : List ℕ → Option X) (text : List ℕ) (x : X) → meaning [] ≡ None → meaning text ≡ Some x → 0 < length text
nonempty_text meaning [] x none some = let e = sym none ∙ some in cc e
nonempty_text meaning (byte ∷ text) x none some = omega arith

two_bytes : {X : Type 0} (meaning : List ℕ → Option X) (Begins : List ℕ → X → List ℕ → Type 0) → IsMeaning meaning Begins → (bytes : List ℕ) (xs : List X) → AreInOrder Begins bytes xs → 2 * length xs ≤ length bytes
two_bytes meaning Begins is bytes [] h = omega arith
two_bytes meaning Begins is bytes (x ∷ more) h =
    let t = is.text bytes x h.0 h.1 in
    omega (arith, ap length t.1.parts, length-append t.0 (0 ∷ h.0), nonempty_text meaning t.0 x is.empty t.2, two_bytes meaning Begins is h.0 more h.2)

pub half_as_many : {X : Type 0} (meaning : List ℕ → Option X) (Begins : List ℕ → X → List ℕ → Type 0) → IsMeaning meaning Begins → (bytes : List ℕ) → 2 * length (meanings_of meaning (texts_in bytes)) ≤ length bytes
half_as_many meaning Begins is bytes = two_bytes meaning Begins is bytes (meanings_of meaning (texts_in bytes)) (meanings_are meaning Begins is bytes)
