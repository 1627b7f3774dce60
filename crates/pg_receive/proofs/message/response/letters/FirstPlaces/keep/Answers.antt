use Rattle.std.proofs.Common.{◌≡◌, ◌≢◌, ℕ, zero, suc, ◌<◌, ◌≤◌, ◌==◌, Bool, true, ◌&&◌, List, [], ◌∷◌, length, set, inl, inr, refl, sym, ap, ◌∙◌, arith}
use Rattle.std.specs.Prelude.{slice_index, slice_range, if◌then◌else◌}
use Rattle.std.proofs.lemmas.Bool.{cases_eq, eq-eqb, eqb-true, ne_eqb, and_parts}
use Rattle.std.proofs.lemmas.List.{get_or-set_same, get_or-set_other}
use Rattle.pg_base.specs.Reading.{HoldsNo}
use Rattle.pg_format.specs.Notices.{Field}
use Rattle.pg_receive.specs.Response.FirstPlaces.{known_letters, IsFirst, AreFirst}
use Rattle.pg_receive.proofs.message.response.letters.FirstPlaces.keep.Goals as goal

-- The place of the first field of each letter is kept.

-- a field of another letter leaves what is first
first_passes : (body : List ℕ) (left : List Field) (letter start end other : ℕ) (value : List ℕ) → other ≢ letter
    → IsFirst body ((other, value) ∷ left) letter start end → IsFirst body left letter start end
first_passes body left letter start end other value differs h = record {
  ordered = h.ordered;
  within = h.within;
  first = rw (ne_eqb other letter differs) at h.first;
}

-- where one is kept, a later one of its letter isn't
first_stays : (body : List ℕ) (left : List Field) (letter start end other : ℕ) (value : List ℕ) → start ≢ 0
    → IsFirst body ((other, value) ∷ left) letter start end → IsFirst body left letter start end
first_stays body left letter start end other value kept h = record {
  ordered = h.ordered;
  within = h.within;
  first = rw (ne_eqb start 0 kept) (rw (ne_eqb start 0 kept) at h.first);
}

-- where none is, this is the first
first_begins : (body : List ℕ) (left : List Field) (letter end start' end' : ℕ) → 0 < start' → start' ≤ end' → end' ≤ length body
    → IsFirst body ((letter, slice_range body start' end') ∷ left) letter 0 end → IsFirst body left letter start' end'
first_begins body left letter end start' end' begun ordered within h = record {
  ordered = ordered;
  within = within;
  first = rw (ne_eqb start' 0 (omega arith)) (rw (eq-eqb letter letter refl) at h.first);
}

-- a letter that isn't there is in no slot
no_slot : (letter : ℕ) (letters : List ℕ) → HoldsNo letter letters → (slot : ℕ) → slot < length letters → letter ≢ slice_index letters slot
no_slot letter [] h slot lt = absurd (omega (arith, lt))
no_slot letter (first ∷ letters) h zero lt = λ e. h.0 (sym e)
no_slot letter (first ∷ letters) h (suc slot) lt = no_slot letter letters h.1 slot (omega (arith, lt))

-- ---- each letter is in one slot

slot_in : ℕ → List ℕ → ℕ
slot_in letter [] = 0
slot_in letter (first ∷ letters) = if first == letter then 0 else suc (slot_in letter letters)

-- whether the letters of these first slots are in no slot before
are_in_slots : ℕ → Bool
are_in_slots zero = true
are_in_slots (suc slot) = (slot_in (slice_index known_letters slot) known_letters == slot) && are_in_slots slot

slot_of_slot : (count slot : ℕ) → are_in_slots count ≡ true → slot < count → slot_in (slice_index known_letters slot) known_letters ≡ slot
unfolding are_in_slots slot_in
slot_of_slot zero slot all h = absurd (omega (arith, h))
slot_of_slot (suc last) slot all h =
    let both = and_parts (slot_in (slice_index known_letters last) known_letters == last) (are_in_slots last) all in
    elim (cases_eq slot last) [
      | inl same ↦ rw same (eqb-true (slot_in (slice_index known_letters last) known_letters) last both.0)
      | inr other ↦ slot_of_slot last slot both.1 (omega arith)
    ]

one_slot : (a b : ℕ) → a < 18 → b < 18 → slice_index known_letters a ≡ slice_index known_letters b → a ≡ b
unfolding are_in_slots slot_in
one_slot a b a_in b_in e = sym (slot_of_slot 18 a refl a_in) ∙ ap (λ (letter : ℕ). slot_in letter known_letters) e ∙ slot_of_slot 18 b refl b_in

-- ---- the slot of a field's letter, and the others

all_stay : (body : List ℕ) (left : List Field) (starts ends : List ℕ) (letter taken : ℕ) (value : List ℕ) → taken < 18 → slice_index known_letters taken ≡ letter → slice_index starts taken ≢ 0
    → AreFirst body ((letter, value) ∷ left) starts ends → AreFirst body left starts ends
all_stay body left starts ends letter taken value inside is kept h = λ slot lt.
    elim (cases_eq taken slot) [
      | inl same ↦ first_stays body left _ _ _ letter value (λ e. kept (ap (slice_index starts) same ∙ e)) (h slot lt)
      | inr other ↦ first_passes body left _ _ _ letter value (λ e. other (one_slot taken slot inside lt (is ∙ e))) (h slot lt)
    ]

one_begins : (body : List ℕ) (left : List Field) (starts ends : List ℕ) (letter taken start end : ℕ) → taken < 18 → length starts ≡ 18 → length ends ≡ 18 → slice_index known_letters taken ≡ letter
    → slice_index starts taken ≡ 0 → 0 < start → start ≤ end → end ≤ length body
    → AreFirst body ((letter, slice_range body start end) ∷ left) starts ends → AreFirst body left (set starts taken start) (set ends taken end)
one_begins body left starts ends letter taken start end inside wide wide' is none begun ordered within h = λ slot lt.
    elim (cases_eq slot taken) [
      | inl same ↦
          rw (same, get_or-set_same starts taken start 0 (omega arith), get_or-set_same ends taken end 0 (omega arith), is)
          (first_begins body left letter (slice_index ends taken) start end begun ordered within (rw (is, none) at (h taken inside)))
      | inr other ↦
          rw (get_or-set_other starts taken slot start 0 other, get_or-set_other ends taken slot end 0 other)
          (first_passes body left _ _ _ letter (slice_range body start end) (λ e. other (one_slot slot taken lt inside (sym e ∙ sym is))) (h slot lt))
    ]

pub returns-then-self-slot-eq0 : goal.returns-then-self-slot-eq0
returns-then-self-slot-eq0 c = λ body left within are.
    let slot = c.in-Some.ensures.known in
    one_begins body left _ _ c.args.letter c.in-Some.slot _ _ slot.0 (omega arith) (omega arith) slot.1 c.if-self-slot-eq0.true c.requires.after_letter c.requires.ordered within are

pub returns-else-self-slot-eq0 : goal.returns-else-self-slot-eq0
returns-else-self-slot-eq0 c = λ body left within are.
    let slot = c.in-Some.ensures.known in
    all_stay body left _ _ c.args.letter c.in-Some.slot _ slot.0 slot.1 c.if-self-slot-eq0.false are
