-- Items after a count of two bytes: read one by one, each when it is asked for, or all of them into what keeps them.
use Rattle.std.specs.Prelude.{◌≡◌, ℕ, zero, suc, ◌+◌, ◌*◌, ◌<◌, ◌≤◌, List, [], ◌∷◌, ◌++◌, length, map, drop, ◌⊎◌, Result, Ok, Err, Option, IfOk, MatchOption}
use Rattle.pg_base.specs.declared.error.ProtocolFault.{ProtocolFault}
use Rattle.pg_format.specs.Format.{Format, Means, IsFaultOf}
use Rattle.pg_format.specs.Format.Parts.{Lacks, be_u16}
use Rattle.pg_format.specs.Format.Sequences.{BreaksAfter}
use Rattle.pg_format.specs.Format.Lists.{AreRead, times, counted_least}
use Rattle.pg_format.specs.Format.Places.{IsReadAt, EndsAt, BreaksAt}
use Rattle.pg_format.specs.Received.{max_body}

-- a body is read up to an offset, and so many items are left
pub record Reading : Type 0 where
  pub body : List ℕ
  pub at : ℕ
  pub left : ℕ

-- the offset is within the body, which is no longer than one can be
abbrev pub IsOffsetIn : List ℕ → ℕ → Type 0
IsOffsetIn body at = (at ≤ length body) × (length body ≤ max_body)

-- these are left; and this fault is
abbrev pub AreLeft : {A : Type 0} → Format A → Reading → List A → Type 0
AreLeft g reading items = (rest : List ℕ) × (times reading.left g).Reads (drop reading.at reading.body) items rest

abbrev pub IsFaultLeft : {A : Type 0} → Format A → Reading → ProtocolFault → Type 0
IsFaultLeft g reading fault = BreaksAt (times reading.left g) reading.body reading.at fault

-- the body ends before the count, or before so many items of at least this many bytes
abbrev pub IsCountFault : ℕ → List ℕ → ProtocolFault → Type 0
IsCountFault least body fault = be_u16.Breaks (length body) body fault ⊎ BreaksAfter be_u16 (λ n. Lacks (least * n)) (length body) body fault

-- the count is read, and the body can hold so many items
pub record Begins (least : ℕ) (body : List ℕ) (reading : Reading) : Type 0 where
  pub whole : reading.body ≡ body
  pub first : reading.at ≡ 2
  pub count : be_u16.Reads body reading.left (drop 2 body)
  pub holds : 2 + least * reading.left ≤ length body

-- an item is read, and one less is left
pub record IsRead {A : Type 0} (g : Format A) (old new : Reading) (item : A) : Type 0 where
  pub one_less : old.left ≡ suc new.left
  pub body : new.body ≡ old.body
  pub reads : IsReadAt g old.body old.at item new.at

-- none is left
pub record NoneIsLeft (old new : Reading) : Type 0 where
  pub none : old.left ≡ 0
  pub same : new ≡ old

-- one is left, and can't be read
pub record NextBreaks {A : Type 0} (g : Format A) (old new : Reading) (fault : ProtocolFault) : Type 0 where
  pub some : 0 < old.left
  pub breaks : BreaksAt g old.body old.at fault
  pub same : new ≡ old

-- what the next is: nothing where none is left, else an item
abbrev pub GivesNext : {I A : Type 0} → Format A → (I → A) → Reading → Reading → Result (Option I) ProtocolFault → Type 0
GivesNext g shown old new result = IfOk result (λ found. MatchOption found (NoneIsLeft old new) (λ item. IsRead g old new (shown item)))

-- one step after the other reads these items
abbrev pub Steps : {A : Type 0} → Format A → Reading → List A → Reading → Type 0
Steps g old [] new = new ≡ old
Steps g old (item ∷ items) new = (next : Reading) × IsRead g old next item × Steps g next items new

-- what reading a body from its beginning gives: all of its items, or its fault after some; and in any
-- case the front of the items that it means
pub record ReadsBody {A : Type 0} (whole : Format (List A)) (g : Format A) (body : List ℕ) (items : List A) (new : Reading) : Type 0 where
  pub all : AreLeft g new [] → Means whole body items
  pub fault : (fault : ProtocolFault) → IsFaultLeft g new fault → IsFaultOf whole body fault
  pub front : (all : List A) → Means whole body all → (others : List A) × (all ≡ items ++ others) × AreLeft g new others

-- ---- items that are known to be there

-- so many items, where the front of some bytes gives one, and what follows it
abbrev pub items_in : {A : Type 0} → (List ℕ → A) → (List ℕ → List ℕ) → ℕ → List ℕ → List A
items_in first after zero bytes = []
items_in first after (suc n) bytes = first bytes ∷ items_in first after n (after bytes)

-- the bytes have them all
abbrev pub HoldsItems : {A : Type 0} → Format A → (List ℕ → A) → (List ℕ → List ℕ) → ℕ → List ℕ → Type 0
HoldsItems g first after n bytes = (rest : List ℕ) × AreRead g bytes (items_in first after n bytes) rest

-- ---- all that are left

-- what a keeper has of the items of a body that stand from one offset to another
abbrev pub Keeps : Type 0 → Type 0 → Type 1
Keeps K I = K → List ℕ → ℕ → List I → ℕ → Type 0

-- an item of a body at an offset is kept after those in front of it
abbrev pub KeepsOne : {I K V : Type 0} → Format V → (I → V) → Keeps K I → ℕ → I → ℕ → K → K → Type 0
KeepsOne {I} g shown keeps at item end old new =
    (body : List ℕ) (first : ℕ) (items : List I) → keeps old body first items at → IsReadAt g body at (shown item) end
    → keeps new body first (items ++ item ∷ []) end

-- an item stands at an offset of some body
abbrev pub Stands : {A : Type 0} → Format A → ℕ → A → ℕ → Type 0
Stands g at item end = (body : List ℕ) × (length body ≤ max_body) × IsReadAt g body at item end

-- so many items are read, up to an offset, and kept after those that a keeper had
pub record AreKept {I K V : Type 0} (g : Format V) (shown : I → V) (keeps : Keeps K I) (body : List ℕ) (at n end : ℕ) (old new : K) : Type 0 where
  pub items : List I
  pub read : IsReadAt (times n g) body at (map shown items) end
  pub kept : (first : ℕ) (earlier : List I) → keeps old body first earlier at → keeps new body first (earlier ++ items) end

-- of the items that are left so many are kept, up to an offset
abbrev pub FrontKept : {I K V : Type 0} → Format V → (I → V) → Keeps K I → Reading → K → K → ℕ × ℕ → Type 0
FrontKept g shown keeps reading old new front = AreKept g shown keeps reading.body reading.at front.0 front.1 old new

-- all that are left are kept; or this fault is left
abbrev pub AllKept : {I K V : Type 0} → Format V → (I → V) → Keeps K I → Reading → K → K → Result ℕ ProtocolFault → Type 0
AllKept g shown keeps reading old new (Ok end) = AreKept g shown keeps reading.body reading.at reading.left end old new
AllKept g shown keeps reading old new (Err fault) = IsFaultLeft g reading fault

-- after the beginning of a body the items end there; or this is the body's fault
abbrev pub EndsBody : {V : Type 0} → Format V → Reading → Result ℕ ProtocolFault → Type 0
EndsBody g reading (Ok end) = (least : ℕ) (body : List ℕ) → Begins least body reading → EndsAt (counted_least least g) body 0 end
EndsBody g reading (Err fault) = (least : ℕ) (body : List ℕ) → Begins least body reading → IsFaultOf (counted_least least g) body fault
