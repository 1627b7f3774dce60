-- A stream of messages from a client, of which any front may have come: first messages, which have no tag, and
-- then messages with one. Documentation: "Messaging Overview", "Start-up", "SSL Session Encryption".
use Rattle.std.specs.Prelude.{◌≡◌, ◌+◌, ◌<◌, ◌≤◌, ◌⊎◌, ℕ, ℤ, pos, ◌<ℤ◌, List, ◌++◌, length}
use Rattle.pg_base.specs.Cutting.{Begins}
use Rattle.pg_base.specs.Format.{frontend_tag}
use Rattle.pg_base.specs.Numbers.{int}
use Rattle.pg_base.specs.Reading.{Number, Signed}
use Rattle.pg_base.specs.declared.format.FrontendMessageFormat.{FrontendMessageFormat}
use Rattle.pg_frames.specs.Framing as streams
use Rattle.pg_frames.specs.Framing.{Framing}
use Rattle.pg_server.specs.declared.frontend.error.FrontendFault.{FrontendFault}
use Rattle.pg_server.specs.declared.frontend.error.FrontendFault.TheVariants.{UnknownTag, BadLength, FirstTooLong}
use Rattle.pg_frames.specs.declared.frontend.frame.Expects.{Expects}
use Rattle.pg_frames.specs.declared.frontend.frame.Expects.TheVariants as expects
use Rattle.pg_frames.specs.declared.frontend.frame.FrontendFrame.{FrontendFrame}
use Rattle.pg_frames.specs.declared.frontend.message.ClientMessageKind.{ClientMessageKind}
use Rattle.pg_frames.specs.declared.frontend.message.ClientMessageKind.TheVariants as kinds

-- a first message asks for encryption by its code, that of an SSLRequest or of a GSSENCRequest
pub record AsksForEncryption (body : List ℕ) : Type 0 where
  pub code : ℕ
  pub rest : List ℕ
  pub stands : Number 4 body code rest
  pub is : (code ≡ 80877103) ⊎ (code ≡ 80877104)

-- what is expected after a first message: after a request for encryption another one
abbrev pub Follows : List ℕ → Expects → Type 0
Follows body expects.First = AsksForEncryption body
Follows body expects.Tagged = ¬ (AsksForEncryption body)

-- a whole message without a tag stands at the front: a length that counts itself, at least a code, and no more
-- than is taken
pub record StandsFirst (limit : ℕ) (bytes body rest : List ℕ) : Type 0 where
  pub field : List ℕ
  pub wide : length field ≡ 4
  pub counts : int field ≡ pos (4 + length body)
  pub least : 8 ≤ 4 + length body
  pub most : 4 + length body ≤ limit
  pub parts : bytes ≡ field ++ body ++ rest

-- the bytes begin with such a message, and with it changes what is expected
abbrev pub BeginsFirst : ℕ → List ℕ → ClientMessageKind → List ℕ → List ℕ → Expects → Type 0
BeginsFirst limit bytes kinds.First body rest next = StandsFirst limit bytes body rest × Follows body next
BeginsFirst limit bytes (kinds.Tagged format) body rest next = ⊥

-- or with a message that has a tag, after which more of these are expected
abbrev pub BeginsTagged : List ℕ → ClientMessageKind → List ℕ → List ℕ → Expects → Type 0
BeginsTagged bytes kinds.First body rest next = ⊥
BeginsTagged bytes (kinds.Tagged format) body rest next = Begins bytes (frontend_tag format) body rest × (next ≡ expects.Tagged)

-- by what is expected
abbrev pub BeginsWith : ℕ → Expects → List ℕ → ClientMessageKind → List ℕ → List ℕ → Expects → Type 0
BeginsWith limit expects.First bytes kind body rest next = BeginsFirst limit bytes kind body rest next
BeginsWith limit expects.Tagged bytes kind body rest next = BeginsTagged bytes kind body rest next

-- what the bytes begin with, in such a way, are the parts of a frame
abbrev pub LiesBy : (List ℕ → ClientMessageKind → List ℕ → List ℕ → Expects → Type 0) → List ℕ → FrontendFrame → Type 0
LiesBy Begin stream frame = Begin stream frame.kind frame.body.now frame.rest.now frame.next

-- a whole message, as it is expected, stands at the front
pub record Whole (limit : ℕ) (state : Expects) (bytes : List ℕ) : Type 0 where
  pub kind : ClientMessageKind
  pub body : List ℕ
  pub rest : List ℕ
  pub next : Expects
  pub begins : BeginsWith limit state bytes kind body rest next

-- the length that a first message announces stands at the front: these four bytes say how far it goes
pub record AnnouncesFirst (bytes : List ℕ) (announced : ℤ) : Type 0 where
  pub rest : List ℕ
  pub counted : Signed 4 bytes announced rest

-- the first message goes on after the bytes that have come
pub record FirstGoesOn (limit : ℕ) (bytes : List ℕ) : Type 0 where
  pub announced : ℕ
  pub announces : AnnouncesFirst bytes (pos announced)
  pub least : 8 ≤ announced
  pub most : announced ≤ limit
  pub short : length bytes < announced

abbrev pub WantsMoreFirst : ℕ → List ℕ → Type 0
WantsMoreFirst limit bytes = (length bytes < 4) ⊎ FirstGoesOn limit bytes

-- some message from a client begins with this byte
abbrev pub IsFrontendTag : ℕ → Type 0
IsFrontendTag tag = (format : FrontendMessageFormat) × (frontend_tag format ≡ tag)

-- the tags of a client's messages
abbrev pub of_client : Framing FrontendFault
of_client = record { Known = IsFrontendTag; unknown_tag = UnknownTag; bad_length = BadLength }

abbrev pub WantsMoreTagged : List ℕ → Type 0
WantsMoreTagged bytes = streams.WantsMore of_client bytes

-- more bytes are wanted: to know the message's tag and length, or all of its body
abbrev pub WantsMore : ℕ → Expects → List ℕ → Type 0
WantsMore limit expects.First bytes = WantsMoreFirst limit bytes
WantsMore limit expects.Tagged bytes = WantsMoreTagged bytes

-- the length of a first message leaves no room for a code
pub record IsFirstTooShort (bytes : List ℕ) (fault : FrontendFault) : Type 0 where
  pub announced : ℤ
  pub announces : AnnouncesFirst bytes announced
  pub low : announced <ℤ pos 8
  pub is : fault ≡ BadLength announced

-- it is more than is taken
pub record IsFirstTooLong (limit : ℕ) (bytes : List ℕ) (fault : FrontendFault) : Type 0 where
  pub announced : ℕ
  pub announces : AnnouncesFirst bytes (pos announced)
  pub least : 8 ≤ announced
  pub high : limit < announced
  pub is : fault ≡ FirstTooLong announced limit

abbrev pub IsFirstFault : ℕ → List ℕ → FrontendFault → Type 0
IsFirstFault limit bytes fault = IsFirstTooShort bytes fault ⊎ IsFirstTooLong limit bytes fault

abbrev pub IsTaggedFault : List ℕ → FrontendFault → Type 0
IsTaggedFault bytes fault = streams.IsFault of_client bytes fault

-- what is wrong with a stream at its front, whatever comes next
abbrev pub IsStreamFault : ℕ → Expects → List ℕ → FrontendFault → Type 0
IsStreamFault limit expects.First bytes fault = IsFirstFault limit bytes fault
IsStreamFault limit expects.Tagged bytes fault = IsTaggedFault bytes fault
