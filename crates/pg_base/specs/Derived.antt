-- What implementations do that are derived.
use Rattle.std.specs.Prelude.{◌≡◌, ℕ, Bool, Decides}
use Rattle.std.specs.Ordering.{nat_cmp}
use Rattle.std.specs.declared.cmp.Ordering.{Ordering}

-- values are equal where they are the same
abbrev pub IsEqualByValue : {A : Type 0} → (A → A → Bool) → Type 0
IsEqualByValue {A} eq = (a b : A) → Decides (eq a b) (a ≡ b)

-- a clone is what it was made of
abbrev pub IsClonedByValue : {A : Type 0} → (A → A → Type 0) → Type 0
IsClonedByValue {A} is_clone = (a b : A) → is_clone a b → b ≡ a

-- the order of values is that of a number of each
abbrev pub IsOrderedBy : {A : Type 0} → (A → ℕ) → (A → A → Ordering) → Type 0
IsOrderedBy {A} number cmp = (a b : A) → cmp a b ≡ nat_cmp (number a) (number b)
