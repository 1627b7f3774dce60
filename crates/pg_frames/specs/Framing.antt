-- What stands at the front of a stream whose messages have tags: a whole message, one that goes on, or a fault. It is said
-- once, for any tags: those of a server, of the whole protocol and of a client, and all there are. Documentation:
-- "Messaging Overview".
use Rattle.std.specs.Prelude.{◌≡◌, ◌+◌, ◌<◌, ◌≤◌, ◌⊎◌, ℕ, ℤ, pos, ◌<ℤ◌, List, ◌∷◌, length}
use Rattle.pg_base.specs.Cutting.{Begins}
use Rattle.pg_base.specs.Reading.{Signed}

-- which tags a stream has, and the faults of what has none of them, or a length that is too small
pub record Framing (F : Type 0) : Type 1 where
  pub Known : ℕ → Type 0
  pub unknown_tag : ℕ → F
  pub bad_length : ℤ → F

-- a message's tag stands at the front, and the length that it announces: these five bytes say how far the message goes
pub record Announces (bytes : List ℕ) (tag : ℕ) (announced : ℤ) : Type 0 where
  pub after : List ℕ
  pub rest : List ℕ
  pub counted : Signed 4 after announced rest
  pub parts : bytes ≡ tag ∷ after

-- a message with this tag stands at the front, of which not all bytes have come
pub record IsPart (bytes : List ℕ) (tag : ℕ) : Type 0 where
  pub announced : ℕ
  pub announces : Announces bytes tag (pos announced)
  pub least : 4 ≤ announced
  pub short : length bytes < 1 + announced

-- a whole message stands at the front
pub record Whole {F : Type 0} (framing : Framing F) (bytes : List ℕ) : Type 0 where
  pub tag : ℕ
  pub body : List ℕ
  pub rest : List ℕ
  pub known : framing.Known tag
  pub begins : Begins bytes tag body rest

-- the message goes on after the bytes that have come
pub record GoesOn {F : Type 0} (framing : Framing F) (bytes : List ℕ) : Type 0 where
  pub tag : ℕ
  pub announced : ℕ
  pub announces : Announces bytes tag (pos announced)
  pub known : framing.Known tag
  pub least : 4 ≤ announced
  pub short : length bytes < 1 + announced

-- more bytes are wanted: to know the message's tag and length, or all of its body
abbrev pub WantsMore : {F : Type 0} → Framing F → List ℕ → Type 0
WantsMore framing bytes = (length bytes < 5) ⊎ GoesOn framing bytes

-- the message's tag is none of these
pub record HasUnknownTag {F : Type 0} (framing : Framing F) (bytes : List ℕ) (fault : F) : Type 0 where
  pub tag : ℕ
  pub announced : ℤ
  pub announces : Announces bytes tag announced
  pub unknown : ¬ (framing.Known tag)
  pub is : fault ≡ framing.unknown_tag tag

-- the length doesn't even count itself
pub record HasBadLength {F : Type 0} (framing : Framing F) (bytes : List ℕ) (fault : F) : Type 0 where
  pub tag : ℕ
  pub announced : ℤ
  pub announces : Announces bytes tag announced
  pub known : framing.Known tag
  pub low : announced <ℤ pos 4
  pub is : fault ≡ framing.bad_length announced

-- what is wrong with a stream at its front, whatever comes next
abbrev pub IsFault : {F : Type 0} → Framing F → List ℕ → F → Type 0
IsFault framing bytes fault = HasUnknownTag framing bytes fault ⊎ HasBadLength framing bytes fault
