-- The message at the front of a client's stream, or how many bytes it needs.
use Rattle.std.specs.Prelude.{◌≡◌, ◌+◌, ◌<◌, ◌≤◌, ◌⊎◌, ℕ, List, Some, pos, drop, length}
use Rattle.pg_base.specs.Cutting.{Begins}
use Rattle.pg_base.specs.Format.{frontend_tag}
use Rattle.pg_base.specs.declared.format.FrontendMessageFormat.{FrontendMessageFormat}
use Rattle.pg_frames.specs.Stream.{Announces}
use Rattle.pg_frames.specs.Frontend.Frame.{AnnouncesFirst, BeginsFirst, BeginsTagged, StandsFirst}
use Rattle.pg_frames.specs.declared.frontend.frame.FrontendFrame.{FrontendFrame}
use Rattle.pg_c.specs.Place.{part}
use Rattle.pg_c.specs.Read.Frame.{NeedsHeader}
use Rattle.pg_c.specs.declared.read.frame.PgmsgFrame.{PgmsgFrame}

-- the stream has this frame at its front, of a message with a tag
abbrev pub HasTaggedFrame : List ℕ → FrontendFrame → Type 0
HasTaggedFrame stream frame = BeginsTagged stream frame.kind frame.body.now frame.rest.now frame.next

-- the message is whole: its tag, which a client sends, the place of its body, and its length with both
pub record IsWhole (stream : List ℕ) (frame : PgmsgFrame) : Type 0 where
  pub format : FrontendMessageFormat
  pub tag : frame.tag ≡ frontend_tag format
  pub body : List ℕ
  pub begins : Begins stream frame.tag body (drop frame.length stream)
  pub place : part stream frame.body ≡ Some body
  pub all : frame.length ≡ 5 + length body

-- the message goes on after the bytes that have come: its length counts all but the tag
pub record NeedsBody (bytes : List ℕ) (needed : ℕ) : Type 0 where
  pub format : FrontendMessageFormat
  pub announced : ℕ
  pub announces : Announces bytes (frontend_tag format) (pos announced)
  pub least : 4 ≤ announced
  pub short : length bytes < 1 + announced
  pub all : needed ≡ 1 + announced

-- more bytes than there are, and just as many as tag and length say
abbrev pub Needs : List ℕ → ℕ → Type 0
Needs bytes needed = NeedsHeader bytes needed ⊎ NeedsBody bytes needed

-- a first message is whole: it has no tag, and its length counts itself and the body
pub record IsWholeFirst (limit : ℕ) (stream : List ℕ) (frame : PgmsgFrame) : Type 0 where
  pub body : List ℕ
  pub stands : StandsFirst limit stream body (drop frame.length stream)
  pub tag : frame.tag ≡ 0
  pub place : part stream frame.body ≡ Some body
  pub all : frame.length ≡ 4 + length body

-- the place of a frame, in whatever stream has it at its front as a first message
abbrev pub IsFirstPlace : FrontendFrame → PgmsgFrame → Type 0
IsFirstPlace frame place = (limit : ℕ) (stream : List ℕ) → BeginsFirst limit stream frame.kind frame.body.now frame.rest.now frame.next → IsWholeFirst limit stream place

-- its length needs four bytes
pub record NeedsLength (bytes : List ℕ) (needed : ℕ) : Type 0 where
  pub short : length bytes < 4
  pub four : needed ≡ 4

-- it goes on after the bytes that have come, and no further than is taken
pub record NeedsFirstBody (limit : ℕ) (bytes : List ℕ) (needed : ℕ) : Type 0 where
  pub announces : AnnouncesFirst bytes (pos needed)
  pub least : 8 ≤ needed
  pub most : needed ≤ limit
  pub short : length bytes < needed

abbrev pub NeedsFirst : ℕ → List ℕ → ℕ → Type 0
NeedsFirst limit bytes needed = NeedsLength bytes needed ⊎ NeedsFirstBody limit bytes needed
