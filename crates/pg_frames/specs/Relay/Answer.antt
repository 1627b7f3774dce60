-- What goes out in a frame's place.
use Rattle.std.specs.Prelude.{◌≡◌, ℕ, List, [], ◌∷◌, ◌++◌, drop, Option, None, Some}
use Rattle.std.specs.Borrow.{Bor}
use Rattle.pg_base.specs.Cutting.{IsCutInto}
use Rattle.pg_frames.specs.declared.frontend.frame.Expects.{Expects}
use Rattle.pg_frames.specs.Relay.Head.{IsFrame}
use Rattle.pg_frames.specs.declared.relay.answer.Answer.{Answer}
use Rattle.pg_frames.specs.declared.relay.answer.Answer.TheVariants.{Keep, Omit, Replace, AddBefore, AddAfter}
use Rattle.pg_frames.specs.declared.relay.error.RelayError.{RelayError}
use Rattle.pg_frames.specs.declared.relay.error.RelayError.TheVariants.{NotFrames}

-- frames, each its tag, or none, and its bytes
abbrev pub Frames : Type 0
Frames = List (Option ℕ × List ℕ)

-- their bytes, one after the other
abbrev pub bytes_in : Frames → List ℕ
bytes_in [] = []
bytes_in (frame ∷ more) = frame.1 ++ bytes_in more

-- those with a tag, each as its tag and its body
abbrev pub messages_in : Frames → List (ℕ × List ℕ)
messages_in [] = []
messages_in ((None, bytes) ∷ more) = messages_in more
messages_in ((Some tag, bytes) ∷ more) = (tag, drop 5 bytes) ∷ messages_in more

-- their bytes are cut into these messages and no others
abbrev pub AreMessages : Frames → Type 0
AreMessages frames = IsCutInto (bytes_in frames) (messages_in frames)

-- each is a whole frame, as it is expected there, and after the last of them that is expected
abbrev pub Lead : Expects → Frames → Expects → Type 0
Lead state [] last = state ≡ last
Lead state (frame ∷ more) last = (next : Expects) × IsFrame state frame.0 frame.1 next × Lead next more last

-- the bytes are some frames one after the other
pub record IsRun (state : Expects) (bytes : List ℕ) (last : Expects) : Type 0 where
  pub frames : Frames
  pub lead : Lead state frames last
  pub are : bytes ≡ bytes_in frames

-- the frames that an answer adds lead from what is expected where they go out to what is expected after them, so
-- that their receiver takes each for what it is
abbrev pub Fits : Answer → Expects → List ℕ → Expects → Type 0
Fits Keep state added next = Unit {0}
Fits Omit state added next = state ≡ next
Fits Replace state added next = IsRun state added next
Fits AddBefore state added next = IsRun state added state
Fits AddAfter state added next = IsRun next added next

-- the bytes that go out in the frame's place
abbrev pub placed : Answer → List ℕ → List ℕ → List ℕ
placed Keep frame added = frame
placed Omit frame added = []
placed Replace frame added = added
placed AddBefore frame added = added ++ frame
placed AddAfter frame added = frame ++ added

-- these are the bytes, the first before the second
abbrev pub ArePlaced : Answer → List ℕ → List ℕ → (Bor (List ℕ) × Bor (List ℕ)) → Type 0
ArePlaced answer frame added out = out.0.now ++ out.1.now ≡ placed answer frame added

-- the answer is refused, since what is added doesn't fit
abbrev pub IsMisfit : Answer → Expects → List ℕ → Expects → RelayError → Type 0
IsMisfit answer state added next error = (error ≡ NotFrames) × (¬ (Fits answer state added next))
