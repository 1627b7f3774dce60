-- What a relay is, and what becomes of the bytes that it takes.
pub mod Answer
pub mod Error
pub mod Head
pub mod Laws
pub mod Pass
pub mod Passage
use Rattle.std.specs.Prelude.{◌≡◌, ◌+◌, ◌<◌, ◌≤◌, ◌⊎◌, ℕ, Bool, true, false, List, [], ◌++◌, length, Option, None, Some, Result, IfErr}
use Rattle.pg_frames.specs.declared.frontend.frame.Expects.{Expects}
use Rattle.pg_frames.specs.Relay.Head.{HasHead, HasLowLength, IsFrame, head_length}
use Rattle.pg_frames.specs.declared.relay.error.RelayError.{RelayError}
use Rattle.pg_frames.specs.declared.relay.error.RelayError.TheVariants.{BadLength, TooLong, NotFrames, OutOfMemory}
use Rattle.pg_frames.specs.declared.relay.event.Event.{Event}
use Rattle.pg_frames.specs.declared.relay.event.Event.TheVariants.{Frame, Part, Held}
use Rattle.pg_frames.specs.declared.relay.event.FrameBytes.{FrameBytes}
use Rattle.pg_frames.specs.declared.relay.event.FrameBytes.TheVariants.{Lying, Joined}
use Rattle.pg_frames.specs.declared.relay.event.Step.{Step}
use Rattle.pg_frames.specs.declared.relay.fate.Fate.{Fate}
use Rattle.pg_frames.specs.declared.relay.fate.Fate.TheVariants as fates

-- how long a frame may be that is held, which frame is expected, what is held of it, and how many bytes are still
-- to come of one that is passed on in parts
pub record Relaying : Type 0 where
  pub limit : ℕ
  pub expects : Expects
  pub held : List ℕ
  pub left : ℕ

abbrev pub relay_at : ℕ → Expects → List ℕ → ℕ → Relaying
relay_at limit state held left = record { limit = limit; expects = state; held = held; left = left }

-- one that holds these bytes, and passes nothing on in parts
abbrev pub holding : ℕ → Expects → List ℕ → Relaying
holding limit state held = relay_at limit state held 0

-- the frame at the front goes on after the bytes that have come, and may be held
pub record GoesOn (limit : ℕ) (state : Expects) (bytes : List ℕ) : Type 0 where
  pub tag : Option ℕ
  pub count : ℕ
  pub head : HasHead state bytes tag count
  pub short : length bytes < count
  pub within : count ≤ limit

-- the bytes are no whole frame: too few to tell how long it is, or not all of it
abbrev pub IsUnfinished : ℕ → Expects → List ℕ → Type 0
IsUnfinished limit state bytes = (length bytes < head_length state) ⊎ GoesOn limit state bytes

-- what is held is no whole frame, and nothing is held while a frame is passed on in parts
pub record IsKept (limit : ℕ) (state : Expects) (held : List ℕ) (left : ℕ) : Type 0 where
  pub unfinished : IsUnfinished limit state held
  pub parts : (0 < left) → held ≡ []

-- a first message is always wanted whole, one with a tag where its user says so by its tag and its length
abbrev pub is_wanted : (ℕ → ℕ → Bool) → Option ℕ → ℕ → Bool
is_wanted wants None count = true
is_wanted wants (Some tag) count = wants tag count

-- a frame that is wanted whole and isn't too long to be held
pub record IsTaken (wants : ℕ → ℕ → Bool) (limit : ℕ) (tag : Option ℕ) (count : ℕ) : Type 0 where
  pub wanted : is_wanted wants tag count ≡ true
  pub within : count ≤ limit

-- the frame at the front is such a one, where its tag and its length are there
abbrev pub WouldTake : (ℕ → ℕ → Bool) → ℕ → Expects → List ℕ → Type 0
WouldTake wants limit state bytes = (tag : Option ℕ) (count : ℕ) → HasHead state bytes tag count → IsTaken wants limit tag count

-- what becomes of the frame at the front
pub record IsForParts (wants : ℕ → ℕ → Bool) (state : Expects) (bytes : List ℕ) (count : ℕ) : Type 0 where
  pub tag : Option ℕ
  pub head : HasHead state bytes tag count
  pub unwanted : is_wanted wants tag count ≡ false

pub record IsForWhole (wants : ℕ → ℕ → Bool) (limit : ℕ) (state : Expects) (bytes : List ℕ) (tag : Option ℕ) (count : ℕ) : Type 0 where
  pub head : HasHead state bytes tag count
  pub taken : IsTaken wants limit tag count

abbrev pub HasFate : (ℕ → ℕ → Bool) → ℕ → Expects → List ℕ → Fate → Type 0
HasFate wants limit state bytes fates.Unknown = length bytes < head_length state
HasFate wants limit state bytes (fates.Parts count) = IsForParts wants state bytes count
HasFate wants limit state bytes (fates.Whole tag count) = IsForWhole wants limit state bytes tag count

-- its length is too low
abbrev pub IsHeadFault : Expects → List ℕ → RelayError → Type 0
IsHeadFault state bytes (BadLength announced) = HasLowLength state bytes announced
IsHeadFault state bytes (TooLong length most) = ⊥
IsHeadFault state bytes NotFrames = ⊥
IsHeadFault state bytes OutOfMemory = ⊥

-- it is wanted whole, and too long
pub record IsTooLong (wants : ℕ → ℕ → Bool) (limit : ℕ) (state : Expects) (bytes : List ℕ) (count most : ℕ) : Type 0 where
  pub tag : Option ℕ
  pub head : HasHead state bytes tag count
  pub wanted : is_wanted wants tag count ≡ true
  pub high : limit < count
  pub is : most ≡ limit

abbrev pub IsFault : (ℕ → ℕ → Bool) → ℕ → Expects → List ℕ → RelayError → Type 0
IsFault wants limit state bytes (BadLength announced) = HasLowLength state bytes announced
IsFault wants limit state bytes (TooLong count most) = IsTooLong wants limit state bytes count most
IsFault wants limit state bytes NotFrames = ⊥
IsFault wants limit state bytes OutOfMemory = ⊥

-- bytes have to be held: some came, and something is held already, or the piece is no whole frame
pub record NeedsMemory (old : Relaying) (piece : List ℕ) : Type 0 where
  pub between : old.left ≡ 0
  pub some : 0 < length piece
  pub holds : (0 < length old.held) ⊎ IsUnfinished old.limit old.expects piece

-- why a relay takes nothing of a piece: the frame that comes next has a fault, or there is no memory to hold it
abbrev pub IsRelayError : (ℕ → ℕ → Bool) → Relaying → List ℕ → RelayError → Type 0
IsRelayError wants old piece (BadLength announced) = (old.left ≡ 0) × HasLowLength old.expects (old.held ++ piece) announced
IsRelayError wants old piece (TooLong count most) = (old.left ≡ 0) × IsTooLong wants old.limit old.expects (old.held ++ piece) count most
IsRelayError wants old piece NotFrames = ⊥
IsRelayError wants old piece OutOfMemory = NeedsMemory old piece

-- where a relay that holds bytes refuses more, this is why
abbrev pub RefusesMore : {A : Type 0} → (ℕ → ℕ → Bool) → ℕ → Expects → List ℕ → List ℕ → Result A RelayError → Type 0
RefusesMore wants limit state held more result = IfErr result (IsRelayError wants (holding limit state held) more)

-- bytes that are passed on, wherever they lie
abbrev pub bytes_of : FrameBytes → List ℕ
bytes_of (Lying bytes) = bytes.now
bytes_of (Joined bytes) = bytes.items

abbrev pub passed : Event → List ℕ
passed (Frame tag bytes) = bytes_of bytes
passed (Part bytes left) = bytes_of bytes
passed Held = []

-- a whole frame comes, and nothing of another is held
pub record ComesWhole (wants : ℕ → ℕ → Bool) (old : Relaying) (tag : Option ℕ) (frame : List ℕ) (new : Relaying) : Type 0 where
  pub between : old.left ≡ 0
  pub is_frame : IsFrame old.expects tag frame new.expects
  pub taken : IsTaken wants old.limit tag (length frame)
  pub nothing : new.held ≡ []
  pub left : new.left ≡ 0

-- a frame that isn't wanted whole begins with these bytes, and so many of it are still to come
pub record BeginsInParts (wants : ℕ → ℕ → Bool) (old : Relaying) (bytes : List ℕ) (left : ℕ) : Type 0 where
  pub between : old.left ≡ 0
  pub count : ℕ
  pub parts : IsForParts wants old.expects bytes count
  pub counts : length bytes + left ≡ count

-- the next bytes of such a frame
pub record GoesOnInParts (old : Relaying) (bytes : List ℕ) (left : ℕ) : Type 0 where
  pub within : 0 < old.left
  pub counts : length bytes + left ≡ old.left

-- a part of a frame comes, and nothing is held
pub record ComesInParts (wants : ℕ → ℕ → Bool) (old : Relaying) (bytes : List ℕ) (left : ℕ) (new : Relaying) : Type 0 where
  pub place : BeginsInParts wants old bytes left ⊎ GoesOnInParts old bytes left
  pub expects : new.expects ≡ old.expects
  pub nothing : new.held ≡ []
  pub left_is : new.left ≡ left

-- nothing comes yet: what is held is no whole frame, and would be taken
pub record Holds (wants : ℕ → ℕ → Bool) (old new : Relaying) : Type 0 where
  pub between : old.left ≡ 0
  pub expects : new.expects ≡ old.expects
  pub unfinished : IsUnfinished old.limit old.expects new.held
  pub taken : WouldTake wants old.limit old.expects new.held
  pub left : new.left ≡ 0

abbrev pub Comes : (ℕ → ℕ → Bool) → Relaying → Event → Relaying → Type 0
Comes wants old (Frame tag bytes) new = ComesWhole wants old tag (bytes_of bytes) new
Comes wants old (Part bytes left) new = ComesInParts wants old (bytes_of bytes) left new
Comes wants old Held new = Holds wants old new

-- a relay takes the front of a piece: what it held and the piece are what it passes on, what it holds then, and
-- the rest of the piece
pub record Takes (wants : ℕ → ℕ → Bool) (old : Relaying) (piece : List ℕ) (event : Event) (rest : List ℕ) (new : Relaying) : Type 0 where
  pub conserved : old.held ++ piece ≡ passed event ++ new.held ++ rest
  pub limit : new.limit ≡ old.limit
  pub comes : Comes wants old event new
  pub goes_on : (0 < length piece) → length rest < length piece

-- a relay takes the front of a piece, by one step
abbrev pub TakesStep : (ℕ → ℕ → Bool) → Relaying → List ℕ → Relaying → Step → Type 0
TakesStep wants old piece new step = Takes wants old piece step.event step.rest.now new

-- by this step for each user that would take the frame at the front of the piece
abbrev pub TakesIfWanted : Relaying → List ℕ → Relaying → Step → Type 0
TakesIfWanted old piece new step = (wants : ℕ → ℕ → Bool) → WouldTake wants old.limit old.expects piece → TakesStep wants old piece new step
