-- The sentences of laws of what is received.
use Rattle.std.specs.Prelude.{◌≡◌, ℕ, ◌+◌, ◌*◌, ◌≤◌, List, [], ◌∷◌, ◌++◌, Option, Some, length, unwrap_or}
use Rattle.pg_format.specs.Format.{Format, Means}
use Rattle.pg_format.specs.Items.{Reading, Begins, Steps, ReadsBody}
use Rattle.pg_format.specs.Keyed.{last, IsAbsent}
use Rattle.pg_format.specs.Messages.{data_row}
use Rattle.pg_format.specs.Notices.{Field}
use Rattle.pg_receive.specs.Response.{NoticeValue, notices}
use Rattle.pg_receive.specs.Response.Fields.{of_letter}

-- of any bytes a statement holds only of the value that a function gives
abbrev pub HoldsOnlyOf : {A : Type 0} → (List ℕ → A → Type 0) → (List ℕ → A) → Type 0
HoldsOnlyOf {A} Holds value_of = (bytes : List ℕ) (value : A) → Holds bytes value → value ≡ value_of bytes

-- ---- rows and columns

-- the items that a body means fit in the body, each with at least so many bytes, after a count of two bytes
abbrev pub ItemsFit : {A : Type 0} → Format (List A) → ℕ → Type 0
ItemsFit {A} line least = (body : List ℕ) (items : List A) → Means line body items → 2 + least * length items ≤ length body

-- a statement holds of each value of a row: of the body, of the cells in front of the value, and of the value
abbrev pub HoldsOfValues : (List ℕ → List (Option (List ℕ)) → List ℕ → Type 0) → Type 0
HoldsOfValues Holds =
    (body : List ℕ) (front : List (Option (List ℕ))) (value : List ℕ) (back : List (Option (List ℕ)))
    → Means data_row body (front ++ Some value ∷ back) → Holds body front value

-- items of at least so many bytes that are read one by one are those that the body means, up to its fault
abbrev pub ReadsOneByOne : {A : Type 0} → Format (List A) → Format A → ℕ → Type 0
ReadsOneByOne {A} line item least =
    (body : List ℕ) (old new : Reading) (items : List A) → Begins least body old → Steps item old items new → ReadsBody line item body items new

-- ---- values with keys

-- of several values of a key the last counts, whatever is in front of it and whatever other keys follow
abbrev pub LastCounts : Type 0 → Type 0
LastCounts A =
    (view : List ℕ → A) (default : A) (key : ℕ) (front : List (ℕ × List ℕ)) (value : List ℕ) (back : List (ℕ × List ℕ))
    → IsAbsent key back → last view default key (front ++ (key, value) ∷ back) ≡ view value

-- where no value has the key, the default counts
abbrev pub DefaultCounts : Type 0 → Type 0
DefaultCounts A =
    (view : List ℕ → A) (default : A) (key : ℕ) (pairs : List (ℕ × List ℕ)) → IsAbsent key pairs → last view default key pairs ≡ default

-- ---- fields with letters

-- at most one of the fields has the letter
abbrev pub HasAtMostOne : ℕ → List Field → Type 0
HasAtMostOne letter fields = length (of_letter letter fields) ≤ 1

-- where a notice has at most one field of a letter, a text of the notice is that field, or empty without one
abbrev pub IsItsOnly : (NoticeValue → List ℕ) → ℕ → (ℕ → List Field → Option (List ℕ)) → Type 0
IsItsOnly text letter field_in =
    (body : List ℕ) (notice : NoticeValue) → Means notices body notice → HasAtMostOne letter notice.fields
    → text notice ≡ unwrap_or (field_in letter notice.fields) []
