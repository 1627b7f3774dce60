-- The names of mechanisms are what the texts of a body mean.
use Rattle.std.proofs.Common.{◌≡◌, ◌≢◌, ℕ, ◌*◌, ◌≤◌, List, [], ◌∷◌, Some, length, true, false, inl, inr, refl}
use Rattle.std.proofs.lemmas.Bool.{cases_Bool}
use Rattle.std.specs.Str.{is_utf8}
use Rattle.pg_base.specs.Reading.{Text}
use Rattle.pg_receive.specs.Authentication.Mechanisms.{is_name, name_of, mechanisms_in, BeginsWithName, AreMechanisms, raw_name_of, raw_mechanisms_in}
use Rattle.pg_receive.specs.Layout.{name}
use Rattle.pg_format.specs.EndedTexts.{AreInOrder}
use Rattle.pg_format.proofs.EndedTextsLemmas.{IsMeaning, meanings_none, meanings_begin, meanings_are, only_meanings, half_as_many}

name_passes : (name : List ℕ) → name ≢ [] → is_utf8 name ≡ true → is_name name ≡ true
name_passes [] nonempty utf8 = absurd (nonempty refl)
name_passes (byte ∷ bytes) nonempty utf8 = utf8

not_a_name : (text : List ℕ) → is_utf8 text ≡ false → is_name text ≡ false
not_a_name [] h = refl
not_a_name (byte ∷ bytes) h = h

begins_name : (bytes text rest name : List ℕ) → Text bytes text rest → name_of text ≡ Some name → BeginsWithName bytes name rest
begins_name bytes [] rest name h e = cc e
begins_name bytes (byte ∷ text) rest name h e =
    elim (cases_Bool (is_utf8 (byte ∷ text))) [
      | inl utf8 ↦
          let some = rw utf8 at e in
          let is : byte ∷ text ≡ name = cc some in
          rw (← is) (record { nonempty = λ f. cc f; utf8 = utf8; text = h })
      | inr other ↦ let none = rw other at e in cc none
    ]

name_meaning : IsMeaning name_of BeginsWithName
name_meaning = record {
  begins = begins_name;
  text = λ bytes name rest h. (name, h.text, rw (name_passes name h.nonempty h.utf8) refl);
  empty = refl;
}

pub mechanisms_at : (bytes name rest : List ℕ) → BeginsWithName bytes name rest → mechanisms_in bytes ≡ name ∷ mechanisms_in rest
mechanisms_at bytes name rest h = meanings_begin name_of BeginsWithName name_meaning bytes name rest h

pub are_mechanisms : (bytes : List ℕ) → AreMechanisms bytes (mechanisms_in bytes)
are_mechanisms bytes = meanings_are name_of BeginsWithName name_meaning bytes

none_in_front : (bytes : List ℕ) (names : List (List ℕ)) → AreMechanisms bytes names → ((found rest : List ℕ) → ¬ name.Reads bytes found rest) → names ≡ []
none_in_front bytes [] h none = refl
none_in_front bytes (found ∷ names) h none = absurd (none found h.0 (h.1.text, h.1.nonempty))

pub no_name_is_read : (bytes : List ℕ) → ((found rest : List ℕ) → ¬ name.Reads bytes found rest) → mechanisms_in bytes ≡ []
no_name_is_read bytes none = none_in_front bytes (mechanisms_in bytes) (are_mechanisms bytes) none

pub no_utf8_is_read : (bytes found rest : List ℕ) → name.Reads bytes found rest → is_utf8 found ≡ false → mechanisms_in bytes ≡ []
no_utf8_is_read bytes found rest h e = meanings_none name_of bytes found rest h.0 (rw (not_a_name found e) refl)

pub one_mechanisms : (bytes : List ℕ) (names : List (List ℕ)) → AreMechanisms bytes names → names ≡ mechanisms_in bytes
one_mechanisms bytes names h = only_meanings name_of BeginsWithName name_meaning bytes names h

pub half_mechanisms : (bytes : List ℕ) → 2 * length (mechanisms_in bytes) ≤ length bytes
half_mechanisms bytes = half_as_many name_of BeginsWithName name_meaning bytes

-- ---- names of any bytes

raw_begins : (bytes text rest found : List ℕ) → Text bytes text rest → raw_name_of text ≡ Some found → name.Reads bytes found rest
raw_begins bytes [] rest found h e = cc
raw_begins bytes (byte ∷ text) rest found h e =
    let is : byte ∷ text ≡ found = cc in
    rw (← is) (h, λ f. cc)

raw_passes : (text : List ℕ) → text ≢ [] → raw_name_of text ≡ Some text
raw_passes [] nonempty = absurd (nonempty refl)
raw_passes (byte ∷ bytes) nonempty = refl

raw_meaning : IsMeaning raw_name_of name.Reads
raw_meaning = record {
  begins = raw_begins;
  text = λ bytes found rest h. (found, h.0, raw_passes found h.1);
  empty = refl;
}

pub raw_mechanisms_at : (bytes found rest : List ℕ) → name.Reads bytes found rest → raw_mechanisms_in bytes ≡ found ∷ raw_mechanisms_in rest
raw_mechanisms_at bytes found rest h = meanings_begin raw_name_of name.Reads raw_meaning bytes found rest h

none_in_order : (bytes : List ℕ) (names : List (List ℕ)) → AreInOrder name.Reads bytes names → ((found rest : List ℕ) → ¬ name.Reads bytes found rest) → names ≡ []
none_in_order bytes [] h none = refl
none_in_order bytes (found ∷ names) h none = absurd (none found h.0 h.1)

pub no_raw_mechanisms : (bytes : List ℕ) → ((found rest : List ℕ) → ¬ name.Reads bytes found rest) → raw_mechanisms_in bytes ≡ []
no_raw_mechanisms bytes none = none_in_order bytes (raw_mechanisms_in bytes) (meanings_are raw_name_of name.Reads raw_meaning bytes) none
