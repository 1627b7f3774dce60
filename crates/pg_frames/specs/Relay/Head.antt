-- A frame: a message as it stands on a stream, with its tag and its length. A client's first messages have no
-- tag. Documentation: "Messaging Overview", "Start-up".
use Rattle.std.specs.Prelude.{◌≡◌, ◌+◌, ◌≤◌, ℕ, ℤ, pos, ◌<ℤ◌, List, ◌++◌, length, drop, Option, None, Some}
use Rattle.pg_base.specs.Cutting.{max_length}
use Rattle.pg_frames.specs.Stream.{Announces}
use Rattle.pg_frames.specs.Frontend.Frame.{AnnouncesFirst, Follows}
use Rattle.pg_frames.specs.declared.frontend.frame.Expects.{Expects}
use Rattle.pg_frames.specs.declared.frontend.frame.Expects.TheVariants as expects

-- a frame with a tag has so many bytes, as it begins: the length counts itself, and the tag stands before it
pub record IsCounted (bytes : List ℕ) (tag count : ℕ) : Type 0 where
  pub announced : ℕ
  pub announces : Announces bytes tag (pos announced)
  pub least : 4 ≤ announced
  pub most : announced ≤ max_length
  pub is : count ≡ 1 + announced

-- a frame without a tag has so many: at least a length, which counts itself, and a code
pub record IsFirstCounted (bytes : List ℕ) (count : ℕ) : Type 0 where
  pub announces : AnnouncesFirst bytes (pos count)
  pub least : 8 ≤ count

-- by what is expected: the frame at the front, as it begins, has this tag, or none, and so many bytes
abbrev pub HasHead : Expects → List ℕ → Option ℕ → ℕ → Type 0
HasHead expects.First bytes None count = IsFirstCounted bytes count
HasHead expects.First bytes (Some tag) count = ⊥
HasHead expects.Tagged bytes None count = ⊥
HasHead expects.Tagged bytes (Some tag) count = IsCounted bytes tag count

-- how many bytes say so
abbrev pub head_length : Expects → ℕ
head_length expects.First = 4
head_length expects.Tagged = 5

-- so many bytes more at least has the frame that begins with these
abbrev pub AreMissing : Expects → List ℕ → ℕ → Type 0
AreMissing state bytes missing = (more : List ℕ) (tag : Option ℕ) (count : ℕ) → HasHead state (bytes ++ more) tag count → length bytes + missing ≤ count

-- what is expected after a frame
abbrev pub IsNext : Expects → List ℕ → Expects → Type 0
IsNext expects.First frame next = Follows (drop 4 frame) next
IsNext expects.Tagged frame next = next ≡ expects.Tagged

-- these bytes are one frame, from its first byte to its last
pub record IsFrame (state : Expects) (tag : Option ℕ) (bytes : List ℕ) (next : Expects) : Type 0 where
  pub head : HasHead state bytes tag (length bytes)
  pub follows : IsNext state bytes next

-- the length of the frame at the front is too low to count itself, or a first frame's code
pub record IsCountedLow (bytes : List ℕ) (announced : ℤ) : Type 0 where
  pub tag : ℕ
  pub announces : Announces bytes tag announced
  pub low : announced <ℤ pos 4

pub record IsFirstCountedLow (bytes : List ℕ) (announced : ℤ) : Type 0 where
  pub announces : AnnouncesFirst bytes announced
  pub low : announced <ℤ pos 8

abbrev pub HasLowLength : Expects → List ℕ → ℤ → Type 0
HasLowLength expects.First bytes announced = IsFirstCountedLow bytes announced
HasLowLength expects.Tagged bytes announced = IsCountedLow bytes announced
