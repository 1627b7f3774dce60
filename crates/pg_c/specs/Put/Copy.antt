-- The bytes before the data of a COPY.
use Rattle.std.specs.Prelude.{◌≡◌, ◌++◌, ℕ, List, length}
use Rattle.pg_send.specs.Message as message
use Rattle.pg_send.specs.Message.{text}

-- before so many bytes of data, whichever they are, they make a CopyData
abbrev pub IsCopyHead : ℕ → List ℕ → Type 0
IsCopyHead len head = (bytes : List ℕ) → length bytes ≡ len → head ++ bytes ≡ text (message.CopyData bytes)
