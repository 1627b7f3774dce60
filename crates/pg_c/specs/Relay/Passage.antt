-- What is at the front of a stream that is passed on, as C has it.
use Rattle.std.specs.Prelude.{◌≡◌, ◌==◌, ◌<◌, ◌<ℤ◌, ℕ, ℤ, pos, Bool, not, List, Option, None, Some, get_or}
use Rattle.pg_frames.specs.Relay.{IsFault}
use Rattle.pg_frames.specs.Relay.Head.{HasHead}
use Rattle.pg_frames.specs.Relay.Passage.{NeedsMore, PassesWhole, PassesPart}
use Rattle.pg_c.specs.Relay.{expected}
use Rattle.pg_c.specs.Relay.Refusal.{RefusesRelay}
use Rattle.pg_c.specs.declared.refusal.PgmsgFault.{PgmsgFault}
use Rattle.pg_c.specs.declared.relay.passage.PgmsgPassage.{PgmsgPassage}
use Rattle.pg_c.specs.declared.relay.passage.PgmsgRelay.{PgmsgRelay}

-- messages with a tag are wanted whole where no 0 stands at it, whatever their length
abbrev pub is_asked : List ℕ → ℕ → ℕ → Bool
is_asked flags tag count = not (get_or flags tag 0 == 0)

-- a tag, or 0 where there is none
abbrev pub tag_or_0 : Option ℕ → ℕ
tag_or_0 None = 0
tag_or_0 (Some tag) = tag

-- a whole message goes out: its tag, how many bytes it has, and what comes after it
pub record GoesAll (flags : List ℕ) (old : PgmsgRelay) (stream : List ℕ) (passage : PgmsgPassage) (new : PgmsgRelay) : Type 0 where
  pub tag : Option ℕ
  pub passes : PassesWhole (is_asked flags) old.limit (expected old.is_first) old.left stream tag passage.length (expected new.is_first)
  pub tag_is : passage.tag ≡ tag_or_0 tag
  pub limit : new.limit ≡ old.limit
  pub left : new.left ≡ 0

-- part of a message goes out: its tag where it begins, how many bytes, and how many are still to come
pub record GoesPart (flags : List ℕ) (old : PgmsgRelay) (stream : List ℕ) (passage : PgmsgPassage) (new : PgmsgRelay) : Type 0 where
  pub passes : PassesPart (is_asked flags) old.limit (expected old.is_first) old.left stream passage.length new.left
  pub begins : old.left ≡ 0 → (count : ℕ) × HasHead (expected old.is_first) stream (Some passage.tag) count
  pub limit : new.limit ≡ old.limit
  pub expects : new.is_first ≡ old.is_first

-- so many bytes are needed at least, more than there are
abbrev pub NeedsBytes : List ℕ → PgmsgRelay → List ℕ → ℕ → Type 0
NeedsBytes flags relay stream needed = NeedsMore (is_asked flags) relay.limit (expected relay.is_first) relay.left stream needed

-- a result below 0 refuses the message at the front for its fault
abbrev pub RefusesPassage : List ℕ → PgmsgRelay → List ℕ → PgmsgFault → PgmsgFault → ℤ → Type 0
RefusesPassage flags relay stream old fault result =
    result <ℤ pos 0 → RefusesRelay (IsFault (is_asked flags) relay.limit (expected relay.is_first) stream) old fault result
