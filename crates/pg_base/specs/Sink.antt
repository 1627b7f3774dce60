-- What a call leaves in the bytes of its caller.
use Rattle.std.specs.Prelude.{◌≡◌, ◌≤◌, ◌<◌, ℕ, List, ◌++◌, length, drop, ◌+◌}

-- the capacity has room for some bytes after what is written
abbrev pub HasRoom : ℕ → List ℕ → List ℕ → Type 0
HasRoom capacity written added = length written + length added ≤ capacity

-- the text is at the front of the room, where the room is that long; all else is as it was
pub record IsGiven (text old new : List ℕ) : Type 0 where
  pub fits : length text ≤ length old → new ≡ text ++ drop (length text) old
  pub short : length old < length text → new ≡ old
