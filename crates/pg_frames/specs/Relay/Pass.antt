-- What a relay has passed on, and what its user answered.
pub mod Stops
use Rattle.std.specs.Prelude.{◌≡◌, ◌+◌, ◌<◌, ◌≤◌, ◌⊎◌, ℕ, Bool, false, List, [], ◌∷◌, ◌++◌, length, Option, Result, IfOk, Vec, vec_capacity}
use Rattle.std.specs.declared.alloc.Global.{Global}
use Rattle.pg_frames.specs.declared.frontend.frame.Expects.{Expects}
use Rattle.pg_frames.specs.Relay.Answer.{bytes_in, Lead, Fits, placed}
use Rattle.pg_frames.specs.Relay.Head.{HasHead, IsFrame}
use Rattle.pg_frames.specs.Relay.{Relaying, is_wanted, IsTaken, WouldTake, bytes_of}
use Rattle.pg_frames.specs.declared.relay.answer.Answer.{Answer}
use Rattle.pg_frames.specs.declared.relay.answer.Answer.TheVariants.{Keep, Omit, Replace, AddBefore, AddAfter}
use Rattle.pg_frames.specs.declared.relay.event.Event.{Event}
use Rattle.pg_frames.specs.declared.relay.event.Event.TheVariants.{Frame, Part, Held}

-- where a user answers a frame, and adds what is in the buffer, this may be the answer
abbrev pub GivesAnswer : {U E : Type 0} → (U → Option ℕ → List ℕ → Answer → List ℕ → U → Type 0) → U → Option ℕ → List ℕ → Vec ℕ Global → U → Result Answer E → Type 0
GivesAnswer Answers user tag frame added later result = IfOk result (λ answer. Answers user tag frame answer added.items later)

-- by an answer and the bytes that are added, these frames go out in the place of a frame
abbrev pub GoOut : Answer → Expects → (Option ℕ × List ℕ) → Expects → List ℕ → List (Option ℕ × List ℕ) → Type 0
GoOut Keep state frame next added out = out ≡ frame ∷ []
GoOut Omit state frame next added out = (state ≡ next) × (out ≡ [])
GoOut Replace state frame next added out = Lead state out next × (added ≡ bytes_in out)
GoOut AddBefore state frame next added out = (more : List (Option ℕ × List ℕ)) × Lead state more state × (added ≡ bytes_in more) × (out ≡ more ++ frame ∷ [])
GoOut AddAfter state frame next added out = (more : List (Option ℕ × List ℕ)) × Lead next more next × (added ≡ bytes_in more) × (out ≡ frame ∷ more)

-- a frame that is wanted whole and is within the limit: its user answers, and may be another then
pub record IsAnswered {U : Type 0} (wanted : U → ℕ → ℕ → Bool) (Answers : U → Option ℕ → List ℕ → Answer → List ℕ → U → Type 0) (limit : ℕ) (state : Expects) (user : U) (frame : Option ℕ × List ℕ) (next : Expects) (later : U) (out : List (Option ℕ × List ℕ)) : Type 0 where
  pub asked : IsTaken (wanted user) limit frame.0 (length frame.1)
  pub answer : Answer
  pub added : List ℕ
  pub answers : Answers user frame.0 frame.1 answer added later
  pub go_out : GoOut answer state frame next added out

-- one that isn't: it goes out as it came
pub record IsUnasked {U : Type 0} (wanted : U → ℕ → ℕ → Bool) (user : U) (frame : Option ℕ × List ℕ) (later : U) (out : List (Option ℕ × List ℕ)) : Type 0 where
  pub unasked : is_wanted (wanted user) frame.0 (length frame.1) ≡ false
  pub same : later ≡ user
  pub goes_out : out ≡ frame ∷ []

-- these frames came, one after the other, and for them those went out
abbrev pub Relayed : {U : Type 0} → (U → ℕ → ℕ → Bool) → (U → Option ℕ → List ℕ → Answer → List ℕ → U → Type 0) → ℕ → Expects → U → List (Option ℕ × List ℕ) → List (Option ℕ × List ℕ) → Expects → U → Type 0
Relayed wanted Answers limit state user [] sent last end = (state ≡ last) × (user ≡ end) × (sent ≡ [])
Relayed {U = U} wanted Answers limit state user (frame ∷ more) sent last end =
    (next : Expects) × (later : U) × (out : List (Option ℕ × List ℕ)) × (following : List (Option ℕ × List ℕ)) × IsFrame state frame.0 frame.1 next × (IsAnswered wanted Answers limit state user frame next later out ⊎ IsUnasked wanted user frame later out) × (sent ≡ out ++ following) × Relayed wanted Answers limit next later more following last end

-- the front of a frame that isn't wanted whole went out, and so many bytes are to come
pub record GoesOutInParts (wants : ℕ → ℕ → Bool) (state : Expects) (given : List ℕ) (left : ℕ) : Type 0 where
  pub tag : Option ℕ
  pub count : ℕ
  pub head : HasHead state given tag count
  pub unwanted : is_wanted wants tag count ≡ false
  pub counts : length given + left ≡ count
  pub more : 0 < left

abbrev pub IsGiven : (ℕ → ℕ → Bool) → Expects → List ℕ → ℕ → Type 0
IsGiven wants state given left = ((given ≡ []) × (left ≡ 0)) ⊎ GoesOutInParts wants state given left

-- the bytes that came are whole frames, what is given of one that goes out in parts, and what the relay holds; what
-- went out are the frames in their places, and what is given
pub record HasPassed {U : Type 0} (wanted : U → ℕ → ℕ → Bool) (Answers : U → Option ℕ → List ℕ → Answer → List ℕ → U → Type 0) (start : Expects) (first : U) (bytes out : List ℕ) (user : U) (relay : Relaying) : Type 0 where
  pub came : List (Option ℕ × List ℕ)
  pub sent : List (Option ℕ × List ℕ)
  pub given : List ℕ
  pub relayed : Relayed wanted Answers relay.limit start first came sent relay.expects user
  pub bytes_are : bytes ≡ bytes_in came ++ (given ++ relay.held)
  pub out_is : out ≡ bytes_in sent ++ given
  pub part : IsGiven (wanted user) relay.expects given relay.left

-- a buffer has less room than so many bytes take
abbrev pub IsTooSmall : Vec ℕ Global → List ℕ → Type 0
IsTooSmall buffer bytes = vec_capacity buffer < length bytes

-- bytes are added to a buffer whose old bytes stay
pub record HasAdded (old new : List ℕ) (Are : List ℕ → Type 0) : Type 0 where
  pub added : List ℕ
  pub adds : new ≡ old ++ added
  pub are : Are added

-- whatever had passed before, these bytes have passed after it, and what was added for them went out after all else
abbrev pub PassesOn : {U : Type 0} → (U → ℕ → ℕ → Bool) → (U → Option ℕ → List ℕ → Answer → List ℕ → U → Type 0) → U → Relaying → List ℕ → U → Relaying → List ℕ → Type 0
PassesOn {U = U} wanted Answers user relay bytes later new added =
    (start : Expects) (first : U) (before sent : List ℕ) → HasPassed wanted Answers start first before sent user relay → HasPassed wanted Answers start first (before ++ bytes) (sent ++ added) later new

-- what a user of a relay does: the frames that it wants whole, what it may answer and may be then, and for which frames it
-- may find no memory
pub record Conduct (U : Type 0) : Type 1 where
  pub wanted : U → ℕ → ℕ → Bool
  pub answers : U → Option ℕ → List ℕ → Answer → List ℕ → U → Type 0
  pub exhausts : U → Option ℕ → List ℕ → U → Type 0

abbrev pub conduct_of : {U : Type 0} → (U → ℕ → ℕ → Bool) → (U → Option ℕ → List ℕ → Answer → List ℕ → U → Type 0) → (U → Option ℕ → List ℕ → U → Type 0) → Conduct U
conduct_of wanted answers exhausts = record { wanted = wanted; answers = answers; exhausts = exhausts }

-- how all stands that a call may change: the user, the relay, and the buffer for what goes out
pub record Standing (U : Type 0) : Type 0 where
  pub user : U
  pub relay : Relaying
  pub out : Vec ℕ Global

abbrev pub standing_of : {U : Type 0} → U → Relaying → Vec ℕ Global → Standing U
standing_of user relay out = record { user = user; relay = relay; out = out }

-- the frame whose front is held is one that the user wants whole
abbrev pub HoldsWanted : {U : Type 0} → Conduct U → Standing U → Type 0
HoldsWanted acts at = WouldTake (acts.wanted at.user) at.relay.limit at.relay.expects at.relay.held

-- what a call keeps, whether it is refused or not: the limit, the room of the buffer, and that what is held is wanted
pub record Keeps {U : Type 0} (acts : Conduct U) (old new : Standing U) : Type 0 where
  pub limit : new.relay.limit ≡ old.relay.limit
  pub room : vec_capacity old.out ≤ vec_capacity new.out
  pub held : HoldsWanted acts old → HoldsWanted acts new

-- these bytes have passed: what goes out for them follows the old bytes of the buffer, and after any bytes what is held is
-- wanted
pub record Passed {U : Type 0} (acts : Conduct U) (old : Standing U) (bytes : List ℕ) (new : Standing U) : Type 0 where
  pub added : HasAdded old.out.items new.out.items (PassesOn acts.wanted acts.answers old.user old.relay bytes new.user new.relay)
  pub held : 0 < length bytes → HoldsWanted acts new

-- what goes out for what came
pub record PutsAnswer {U : Type 0} (Answers : U → Option ℕ → List ℕ → Answer → List ℕ → U → Type 0) (user : U) (state : Expects) (tag : Option ℕ) (frame : List ℕ) (next : Expects) (later : U) (old new : List ℕ) : Type 0 where
  pub answer : Answer
  pub added : List ℕ
  pub answers : Answers user tag frame answer added later
  pub fits : Fits answer state added next
  pub out : new ≡ old ++ placed answer frame added

abbrev pub PutsOut : {U : Type 0} → (U → Option ℕ → List ℕ → Answer → List ℕ → U → Type 0) → U → Expects → Event → Expects → U → List ℕ → List ℕ → Type 0
PutsOut Answers user state (Frame tag bytes) next later old new = PutsAnswer Answers user state tag (bytes_of bytes) next later old new
PutsOut Answers user state (Part bytes left) next later old new = (later ≡ user) × (new ≡ old ++ bytes_of bytes)
PutsOut Answers user state Held next later old new = (later ≡ user) × (new ≡ old)
