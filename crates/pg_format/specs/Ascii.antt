-- Bytes that are ASCII.
use Rattle.std.specs.Prelude.{ℕ, ◌<◌}

-- a byte of ASCII
abbrev pub IsLow : ℕ → Type 0
IsLow byte = byte < 128
