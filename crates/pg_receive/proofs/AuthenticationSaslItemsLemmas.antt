-- The pieces between commas, and what those that are left still say.
use Rattle.std.proofs.Common.{◌≡◌, ◌≢◌, ℕ, List, [], ◌∷◌, ◌++◌, inl, inr, refl, sym, ap, ◌∙◌}
use Rattle.std.specs.List.{onto_first, join_with_byte}
use Rattle.std.proofs.lemmas.Bool.{cases_eq, eq-eqb, ne_eqb}
use Rattle.std.proofs.lemmas.List.Splits.{join_with_byte-slice_split}
use Rattle.pg_base.specs.Reading.{HoldsNo}
use Rattle.pg_format.specs.Keyed.{last, first_fault_of}
use Rattle.pg_format.specs.Sasl.{items_in, keyed, item_fault}
use Rattle.pg_receive.specs.Authentication.SaslItems.{comma, EachHoldsNo, AreItems}

pub items_none : (bytes : List ℕ) → HoldsNo comma bytes → items_in bytes ≡ bytes ∷ []
items_none [] h = refl
items_none (byte ∷ bytes) h = rw (ne_eqb byte comma h.0) (ap (onto_first byte) (items_none bytes h.1))

pub items_at : (item rest : List ℕ) → HoldsNo comma item → items_in (item ++ comma ∷ rest) ≡ item ∷ items_in rest
items_at [] rest h = refl
items_at (byte ∷ item) rest h = rw (ne_eqb byte comma h.0) (ap (onto_first byte) (items_at item rest h.1))

-- one more byte in front of the first item
nonempty_onto : (byte : ℕ) (items : List (List ℕ)) → onto_first byte items ≢ []
nonempty_onto byte [] e = cc
nonempty_onto byte (item ∷ items) e = cc

clean_onto : (byte : ℕ) (items : List (List ℕ)) → byte ≢ comma → EachHoldsNo comma items → EachHoldsNo comma (onto_first byte items)
clean_onto byte [] h clean = ((h, tt), tt)
clean_onto byte (item ∷ items) h clean = ((h, clean.0), clean.1)

some_items : (bytes : List ℕ) → items_in bytes ≢ []
some_items [] = λ e. cc
some_items (byte ∷ bytes) =
    elim (cases_eq byte comma) [
      | inl is ↦ rw (eq-eqb byte comma is) (λ e. cc)
      | inr other ↦ rw (ne_eqb byte comma other) (nonempty_onto byte (items_in bytes))
    ]

clean_items : (bytes : List ℕ) → EachHoldsNo comma (items_in bytes)
clean_items [] = (tt, tt)
clean_items (byte ∷ bytes) =
    elim (cases_eq byte comma) [
      | inl is ↦ rw (eq-eqb byte comma is) (tt, clean_items bytes)
      | inr other ↦ rw (ne_eqb byte comma other) (clean_onto byte (items_in bytes) other (clean_items bytes))
    ]

pub are_items : (bytes : List ℕ) → AreItems bytes (items_in bytes)
are_items bytes = record { some_are_there = some_items bytes; clean = clean_items bytes; joined = join_with_byte-slice_split comma bytes }

joined_items : (items : List (List ℕ)) → items ≢ [] → EachHoldsNo comma items → items_in (join_with_byte comma items) ≡ items
joined_items [] there clean = absurd (there refl)
joined_items (item ∷ []) there clean = items_none item clean.0
joined_items (item ∷ next ∷ items) there clean =
    items_at item (join_with_byte comma (next ∷ items)) clean.0 ∙ ap (λ (more : List (List ℕ)). item ∷ more) (joined_items (next ∷ items) (λ e. cc) clean.1)

pub one_items : (bytes : List ℕ) (items : List (List ℕ)) → AreItems bytes items → items ≡ items_in bytes
one_items bytes items h = sym (joined_items items h.some_are_there h.clean) ∙ ap items_in h.joined

-- the fault of the items that are left is the first of all
pub record LeftFaults (base64_key : ℕ) (all left : List (List ℕ)) : Type 0 where
  pub faults : first_fault_of (item_fault base64_key) left ≡ first_fault_of (item_fault base64_key) all

-- what is seen in the last of a key
pub record LeftLast {A : Type 0} (view : List ℕ → A) (first : A) (key : ℕ) (all : List (List ℕ)) (default : A) (left : List (List ℕ)) : Type 0 where
  pub is : last view default key (keyed left) ≡ last view first key (keyed all)
