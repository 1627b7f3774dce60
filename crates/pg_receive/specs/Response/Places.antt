-- Places in a body, each a range of offsets.
use Rattle.std.specs.Prelude.{ℕ, ◌≤◌, nat_lt, Bool, ◌&&◌, List, length, slice_range}
use Rattle.std.specs.Str.{IsUtf8}
use Rattle.std.specs.declared.ops.Range.{Range}

abbrev pub Place : Type 0
Place = Range ℕ

-- the bytes at a place
abbrev pub bytes_in : List ℕ → Place → List ℕ
bytes_in body place = slice_range body place.start place.end

-- the place is within the body, and a text is there
pub record IsPlaceIn (body : List ℕ) (place : Place) : Type 0 where
  pub ordered : place.start ≤ place.end
  pub within : place.end ≤ length body
  pub utf8 : IsUtf8 (bytes_in body place)

-- neither place is empty
abbrev pub are_full : Place → Place → Bool
are_full message code = nat_lt message.start message.end && nat_lt code.start code.end
