-- The message at the front of a stream, of any tag, or how many bytes it needs.
use Rattle.std.specs.Prelude.{◌≡◌, ◌+◌, ◌<◌, ◌≤◌, ◌⊎◌, ℕ, ℤ, pos, List, [], ◌∷◌, Some, take, drop, length}
use Rattle.pg_base.specs.Cutting.{Begins}
use Rattle.pg_base.specs.declared.error.ProtocolFault.{ProtocolFault}
use Rattle.pg_frames.specs.Stream.{Announces}
use Rattle.pg_frames.specs.Stream.Raw.{WantsMore, HasBadLength}
use Rattle.pg_frames.specs.declared.raw_frame.RawFrame.{RawFrame}
use Rattle.pg_c.specs.Place.{part}
use Rattle.pg_c.specs.declared.read.frame.PgmsgFrame.{PgmsgFrame}

-- the stream has this frame at its front
abbrev pub HasFrame : List ℕ → RawFrame → Type 0
HasFrame stream frame = Begins stream frame.tag frame.body.now frame.rest.now

-- the message is whole: its tag, the place of its body, and its length with both
pub record IsWhole (stream : List ℕ) (frame : PgmsgFrame) : Type 0 where
  pub body : List ℕ
  pub begins : Begins stream frame.tag body (drop frame.length stream)
  pub place : part stream frame.body ≡ Some body
  pub all : frame.length ≡ 5 + length body

-- tag and length need five bytes
pub record NeedsHeader (bytes : List ℕ) (needed : ℕ) : Type 0 where
  pub short : length bytes < 5
  pub five : needed ≡ 5

-- the message goes on after the bytes that have come
pub record NeedsBody (bytes : List ℕ) (needed : ℕ) : Type 0 where
  pub tag : ℕ
  pub announced : ℕ
  pub announces : Announces bytes tag (pos announced)
  pub least : 4 ≤ announced
  pub short : length bytes < 1 + announced
  pub all : needed ≡ 1 + announced

-- more bytes than there are, and just as many as tag and length say
abbrev pub Needs : List ℕ → ℕ → Type 0
Needs bytes needed = NeedsHeader bytes needed ⊎ NeedsBody bytes needed

-- the same of the message that begins at an offset
pub record StandsAt (stream : List ℕ) (at : ℕ) (frame : PgmsgFrame) : Type 0 where
  pub body : List ℕ
  pub begins : Begins (drop at stream) frame.tag body (drop (at + frame.length) stream)
  pub place : part stream frame.body ≡ Some body
  pub all : frame.length ≡ 5 + length body

-- messages one after the other, from one offset to another
abbrev pub Follow : List ℕ → ℕ → List PgmsgFrame → ℕ → Type 0
Follow stream at [] end = at ≡ end
Follow stream at (frame ∷ frames) end = StandsAt stream at frame × Follow stream (at + frame.length) frames end

-- the first so many are given, up to an offset, and the places after them are as they were
pub record GivesFrames (stream : List ℕ) (end count : ℕ) (old new : List PgmsgFrame) : Type 0 where
  pub within : end ≤ length stream
  pub given : Follow stream 0 (take count new) end
  pub room : length new ≡ length old
  pub rest : drop count new ≡ drop count old

-- the next isn't whole; or, after others, its length is too small
abbrev pub NoneAt : List ℕ → ℕ → ℕ → Type 0
NoneAt stream count end = WantsMore (drop end stream) ⊎ ((0 < count) × (fault : ProtocolFault) × HasBadLength (drop end stream) fault)

-- as many messages as the result are given: all for which there is room, or those before one that can't be
pub record ReadsFrames (stream : List ℕ) (old new : List PgmsgFrame) (result : ℤ) : Type 0 where
  pub end : ℕ
  pub count : ℕ
  pub is : result ≡ pos count
  pub gives : GivesFrames stream end count old new
  pub last : (count ≡ length old) ⊎ NoneAt stream count end
