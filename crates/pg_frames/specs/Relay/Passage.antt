-- What is at the front of a stream whose bytes its caller keeps.
use Rattle.std.specs.Prelude.{◌≡◌, ◌<◌, ◌≤◌, ◌⊎◌, ℕ, Bool, List, [], length, take, Option}
use Rattle.pg_frames.specs.declared.frontend.frame.Expects.{Expects}
use Rattle.pg_frames.specs.Relay.Head.{HasHead, head_length}
use Rattle.pg_frames.specs.Relay.{Relaying, ComesWhole, ComesInParts, IsTaken, relay_at}
use Rattle.pg_frames.specs.declared.relay.passage.Passage.{Passage}
use Rattle.pg_frames.specs.declared.relay.passage.Passage.TheVariants.{Whole, Part, Needs}

-- a relay that holds nothing
abbrev pub holding_nothing : ℕ → Expects → ℕ → Relaying
holding_nothing limit state left = relay_at limit state [] left

-- the first bytes of the stream are a whole frame, as a relay hands it out
pub record PassesWhole (wants : ℕ → ℕ → Bool) (limit : ℕ) (state : Expects) (left : ℕ) (stream : List ℕ) (tag : Option ℕ) (count : ℕ) (next : Expects) : Type 0 where
  pub within : count ≤ length stream
  pub comes : ComesWhole wants (holding_nothing limit state left) tag (take count stream) (holding_nothing limit next 0)

-- they are part of a frame: all that is there, up to the end of the frame
pub record PassesPart (wants : ℕ → ℕ → Bool) (limit : ℕ) (state : Expects) (left : ℕ) (stream : List ℕ) (count more : ℕ) : Type 0 where
  pub some : 0 < count
  pub within : count ≤ length stream
  pub comes : ComesInParts wants (holding_nothing limit state left) (take count stream) more (holding_nothing limit state more)
  pub all : 0 < more → count ≡ length stream

-- the frame's tag and length aren't there
pub record NeedsHead (state : Expects) (left : ℕ) (stream : List ℕ) (needed : ℕ) : Type 0 where
  pub between : left ≡ 0
  pub short : length stream < head_length state
  pub is : needed ≡ head_length state

-- the frame is to be taken whole, and isn't
pub record NeedsFrame (wants : ℕ → ℕ → Bool) (limit : ℕ) (state : Expects) (left : ℕ) (stream : List ℕ) (needed : ℕ) : Type 0 where
  pub between : left ≡ 0
  pub tag : Option ℕ
  pub head : HasHead state stream tag needed
  pub taken : IsTaken wants limit tag needed
  pub short : length stream < needed

-- nothing is there of a frame that goes on in parts
pub record NeedsPart (left : ℕ) (stream : List ℕ) (needed : ℕ) : Type 0 where
  pub within : 0 < left
  pub nothing : stream ≡ []
  pub is : needed ≡ 1

abbrev pub NeedsMore : (ℕ → ℕ → Bool) → ℕ → Expects → ℕ → List ℕ → ℕ → Type 0
NeedsMore wants limit state left stream needed = NeedsHead state left stream needed ⊎ (NeedsFrame wants limit state left stream needed ⊎ NeedsPart left stream needed)

abbrev pub Passes : (ℕ → ℕ → Bool) → ℕ → Expects → ℕ → List ℕ → Passage → Type 0
Passes wants limit state left stream (Whole tag count next) = PassesWhole wants limit state left stream tag count next
Passes wants limit state left stream (Part count more) = PassesPart wants limit state left stream count more
Passes wants limit state left stream (Needs needed) = NeedsMore wants limit state left stream needed
