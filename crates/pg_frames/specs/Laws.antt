-- What is so of every stream, a server's or a client's.
use Rattle.std.specs.Prelude.{◌≡◌, ℕ, List, ◌++◌}
use Rattle.pg_frames.specs.declared.pieces.StreamEnd.{StreamEnd}
use Rattle.pg_frames.specs.Pieces.{IsRead}

-- two readings of one stream have the same messages and the same end
abbrev pub IsReadOneWay : {S M E : Type 0} → (S → List M → E → Type 0) → Type 0
IsReadOneWay {S} {M} {E} Reads = (stream : S) (xs ys : List M) (d e : E) → Reads stream xs d → Reads stream ys e → (xs ≡ ys) × (d ≡ e)

-- these messages are read, and what is left doesn't begin with a whole one
abbrev pub ReadsAll : {S M E : Type 0} → (S → List M → E → Type 0) → (E → Type 0) → S → List M → E → Type 0
ReadsAll Reads IsWhole stream messages rest = Reads stream messages rest × (¬ (IsWhole rest))

-- what was left of a stream, with the bytes that come next, goes on with the stream
abbrev pub StreamsCompose : {S M : Type 0} → (S → List M → S → Type 0) → (S → List ℕ → S) → Type 0
StreamsCompose {S} {M} Reads with_more = (x : S) (y : List ℕ) (xs ys : List M) (r s : S) → Reads x xs r → Reads (with_more r y) ys s → Reads (with_more x y) (xs ++ ys) s

-- one of these excludes the other
abbrev pub NeverBoth : {S : Type 0} → (S → Type 0) → (S → Type 0) → Type 0
NeverBoth {S} A B = (stream : S) → A stream → ¬ (B stream)

-- a fault excludes both of these
abbrev pub FaultIsNeither : {S F : Type 0} → (S → F → Type 0) → (S → Type 0) → (S → Type 0) → Type 0
FaultIsNeither {S} {F} IsFault A B = (stream : S) (fault : F) → IsFault stream fault → (¬ (A stream)) × (¬ (B stream))

-- there is one fault at most
abbrev pub HasOneFault : {S F : Type 0} → (S → F → Type 0) → Type 0
HasOneFault {S} {F} IsFault = (stream : S) (f g : F) → IsFault stream f → IsFault stream g → f ≡ g

-- a fault stays, whatever comes next
abbrev pub FaultStays : {S F : Type 0} → (S → F → Type 0) → (S → List ℕ → S) → Type 0
FaultStays {S} {F} IsFault with_more = (stream : S) (more : List ℕ) (fault : F) → IsFault stream fault → IsFault (with_more stream more) fault

-- ---- of a server's

-- what the messages have agrees in two readings of one stream
abbrev pub ReadingsAgree : {A : Type 0} → (List (ℕ × List ℕ) → A → Type 0) → (A → A → Type 0) → Type 0
ReadingsAgree {A} Have Agree =
    (bytes : List ℕ) (xs ys : List (ℕ × List ℕ)) (d e : StreamEnd) (a b : A) → IsRead bytes xs d → IsRead bytes ys e → Have xs a → Have ys b → Agree a b
