-- Where the first field of each letter is, of those letters that the documentation names.
use Rattle.std.specs.Prelude.{◌≡◌, ℕ, ◌<◌, ◌≤◌, ◌==◌, List, [], ◌∷◌, Option, Some, None, length, slice_index, slice_range, if◌then◌else◌}
use Rattle.std.specs.Option.{option_or}
use Rattle.pg_format.specs.Notices.{Field, severity_letter, localized_letter, message_letter, code_letter}
use Rattle.pg_receive.specs.declared.message.response.letters.FirstPlaces.{FirstPlaces}
use Rattle.pg_receive.specs.Response.Fields.{fields_in, first_value}
use Rattle.pg_receive.specs.Response.Letters.{detail_letter, hint_letter, position_letter, internal_position_letter, internal_query_letter, where_letter, schema_letter, table_letter, column_letter, data_type_letter, constraint_letter, file_letter, line_letter, routine_letter}
use Rattle.pg_receive.specs.Response.Places.{Place, IsPlaceIn, bytes_in}

-- the letters, each in its slot
abbrev pub known_letters : List ℕ
known_letters =
    severity_letter ∷ localized_letter ∷ code_letter ∷ message_letter ∷ detail_letter ∷ hint_letter ∷ position_letter ∷ internal_position_letter ∷ internal_query_letter ∷ where_letter ∷ schema_letter ∷ table_letter ∷ column_letter ∷ data_type_letter ∷ constraint_letter ∷ file_letter ∷ line_letter ∷ routine_letter ∷ []

-- the slot is that of the letter
abbrev pub IsSlotOf : ℕ → ℕ → Type 0
IsSlotOf letter slot = (slot < 18) × (slice_index known_letters slot ≡ letter)

-- what is at a place; none starts at 0
abbrev pub kept_value : List ℕ → ℕ → ℕ → Option (List ℕ)
kept_value body start end = if start == 0 then None else Some (slice_range body start end)

-- the place is that of the first field of a letter, which may be among the fields that are left
pub record IsFirst (body : List ℕ) (left : List Field) (letter start end : ℕ) : Type 0 where
  pub ordered : start ≤ end
  pub within : end ≤ length body
  pub first : option_or (kept_value body start end) (first_value letter left) ≡ first_value letter (fields_in body)

-- so it is in each slot
abbrev pub AreFirst : List ℕ → List Field → List ℕ → List ℕ → Type 0
AreFirst body left starts ends =
    (slot : ℕ) → slot < 18 → IsFirst body left (slice_index known_letters slot) (slice_index starts slot) (slice_index ends slot)

-- the same when all fields are read
abbrev pub AreAllFirst : List ℕ → FirstPlaces → Type 0
AreAllFirst body firsts = AreFirst body [] firsts.starts firsts.ends

-- where a message and a code are, and the first field of each letter
abbrev pub ArePlacesIn : List ℕ → Place → Place → FirstPlaces → Type 0
ArePlacesIn body message code firsts = IsPlaceIn body message × IsPlaceIn body code × AreAllFirst body firsts

-- where the old places are those of first fields while a field at this place is left to read, the new places
-- are so once that field is read
abbrev pub KeepsField : ℕ → Place → FirstPlaces → FirstPlaces → Type 0
KeepsField letter place old new =
    (body : List ℕ) (left : List Field) → place.end ≤ length body → AreFirst body ((letter, bytes_in body place) ∷ left) old.starts old.ends
    → AreFirst body left new.starts new.ends
