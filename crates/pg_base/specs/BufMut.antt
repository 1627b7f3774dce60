-- A length before what a closure appends.
use Rattle.std.specs.Prelude.{◌≡◌, ℕ, ◌+◌, ◌-◌, ◌<◌, ◌≤◌, List, [], ◌∷◌, ◌++◌, length, take, drop, None, Result, Ok, Err, IfErr, ◌⊎◌, Vec, vec_len, vec_capacity}
use Rattle.std.specs.declared.alloc.Global.{Global}
use Rattle.std.specs.Borrow.{MutBor}
use Rattle.std.specs.Fn.{Once, FnOnceTakesAtMut, FnOnceReturnsAtMut}
use Rattle.pg_base.specs.declared.error.ProtocolFault.TheVariants.{MessageTooLong}
use Rattle.pg_base.specs.declared.error.Error.{Error}
use Rattle.pg_base.specs.declared.error.Error.TheVariants.{Protocol, OutOfMemory}
use Rattle.pg_base.specs.Numbers.{be32}
use Rattle.pg_base.specs.Cutting.{max_length}

-- what stands in the place of the length while the closure runs
abbrev pub four_zeros : List ℕ
four_zeros = 0 ∷ 0 ∷ 0 ∷ 0 ∷ []

-- the bytes after their length, which counts itself
abbrev pub prefixed : List ℕ → List ℕ
prefixed added = be32 (length added + 4) ++ added

abbrev pub Buffer : Type 0
Buffer = Vec ℕ Global

module _ {F : Type 0} (g : Once F (MutBor Buffer × Unit {0}) (Result (Unit {0}) Error × (MutBor Buffer × Unit {0}))) (write : F) (bytes : List ℕ) where
  -- the closure may be called on a buffer of these bytes and four zeros
  abbrev pub IsCallableOn : Type 0
  IsCallableOn = (before : Buffer) → before.items ≡ bytes ++ four_zeros → FnOnceTakesAtMut g write before

  -- whatever it answers, it keeps them and adds to them
  abbrev pub OnlyAppends : Type 0
  OnlyAppends = (before after : Buffer) (answer : Result (Unit {0}) Error) → before.items ≡ bytes ++ four_zeros → FnOnceReturnsAtMut g write before answer after
      → (added : List ℕ) × (after.items ≡ (bytes ++ four_zeros) ++ added)

  -- and it gives no room back
  abbrev pub GivesNoRoomBack : Type 0
  GivesNoRoomBack = (before after : Buffer) (answer : Result (Unit {0}) Error) → before.items ≡ bytes ++ four_zeros → FnOnceReturnsAtMut g write before answer after → vec_capacity before ≤ vec_capacity after

  -- a call on such a buffer may give this answer and add this
  pub record Wrote (answer : Result (Unit {0}) Error) (added : List ℕ) : Type 0 where
    pub before : Buffer
    pub shows : before.items ≡ bytes ++ four_zeros
    pub after : Buffer
    pub met : FnOnceReturnsAtMut g write before answer after
    pub adds : after.items ≡ (bytes ++ four_zeros) ++ added

  -- the closure wrote this, and length and all fit
  pub record Fits (added : List ℕ) : Type 0 where
    pub wrote : Wrote (Ok tt) added
    pub fits : length added + 4 < max_length + 1

  -- the closure wrote more than a length can say
  pub record PassesLength (error : Error) : Type 0 where
    pub added : List ℕ
    pub wrote : Wrote (Ok tt) added
    pub passes : max_length < length added + 4
    pub is : error ≡ Protocol None (MessageTooLong (length added + 4))

-- a call with a closure, on what holds these bytes in this capacity
module _ {F S : Type 0} (g : Once F (MutBor Buffer × Unit {0}) (Result (Unit {0}) Error × (MutBor Buffer × Unit {0}))) (write : F) (bytes : S → List ℕ) where
  -- a length is added, and what the closure wrote
  abbrev pub AddsPrefixed : S → S → Type 0
  AddsPrefixed old new = (added : List ℕ) × Fits g write (bytes old) added × (bytes new ≡ bytes old ++ prefixed added)

  -- the four bytes of the length found no room; or the closure refused; or it wrote too much
  abbrev pub IsRefusedFor : (S → ℕ) → S → S → Result (Unit {0}) Error → Type 0
  IsRefusedFor capacity old new result = IfErr result (λ error.
      (((capacity old < length (bytes old) + 4) × (capacity new ≡ capacity old)) × (error ≡ OutOfMemory))
      ⊎ ((added : List ℕ) × Wrote g write (bytes old) (Err error) added) ⊎ PassesLength g write (bytes old) error)

  -- no room is given back where the closure gives none back
  abbrev pub KeepsRoom : (S → ℕ) → S → S → Type 0
  KeepsRoom capacity old new = GivesNoRoomBack g write (bytes old) → capacity old ≤ capacity new

-- The bytes from an offset on get their length in their first four, where it is a length that a message can say.
abbrev pub SetsLength : ℕ → Buffer → Buffer → Type 0
SetsLength offset old new =
    (vec_len old - offset ≤ max_length) × (new.items ≡ take offset old.items ++ be32 (vec_len old - offset) ++ drop (offset + 4) old.items)

-- what the closure answered is the error, or else it wrote more than a length can say
abbrev pub IsWhyTakenBack : Result (Unit {0}) Error → ℕ → Error → Type 0
IsWhyTakenBack written size error =
    (written ≡ Err error) ⊎ ((written ≡ Ok tt) × (max_length < size) × (error ≡ Protocol None (MessageTooLong size)))

-- a buffer holds these bytes, and has no room for the text after them
abbrev pub LacksRoom : {S : Type 0} → (S → List ℕ) → (S → ℕ) → S → List ℕ → Type 0
LacksRoom bytes capacity buf text = capacity buf < length (bytes buf) + length text
