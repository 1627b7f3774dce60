-- What a place in some bytes says: nothing where it isn't in them.
use Rattle.std.specs.Prelude.{◌≡◌, ℕ, ◌+◌, List, Option, Some, None, length, nat_le, slice_range, if◌then◌else◌}
use Rattle.pg_format.specs.Format.{Format}
use Rattle.pg_format.specs.Format.Lists.{times}
use Rattle.pg_format.specs.Format.Places.{IsReadAt}
use Rattle.pg_c.specs.declared.place.PgmsgList.{PgmsgList}
use Rattle.pg_c.specs.declared.place.PgmsgSpan.{PgmsgSpan}

abbrev pub bytes_in : List ℕ → ℕ → ℕ → Option (List ℕ)
bytes_in bytes at len = if nat_le (at + len) (length bytes) then Some (slice_range bytes at (at + len)) else None

abbrev pub part : List ℕ → PgmsgSpan → Option (List ℕ)
part bytes span = bytes_in bytes span.at span.len

-- the place of what a message hasn't
abbrev pub nowhere : PgmsgSpan
nowhere = record { at = 0; len = 0 }

-- the place of bytes that stand at an offset
abbrev pub span_of : ℕ → List ℕ → PgmsgSpan
span_of at bytes = record { at = at; len = length bytes }

-- so many items stand from an offset on, and these are they
pub record StandAt {X : Type 0} (g : Format X) (bytes : List ℕ) (list : PgmsgList) (items : List X) : Type 0 where
  pub end : ℕ
  pub read : IsReadAt (times list.count g) bytes list.at items end

-- this text stands at the place
abbrev pub StandsIn : List ℕ → PgmsgSpan → List ℕ → Type 0
StandsIn bytes span text = part bytes span ≡ Some text
