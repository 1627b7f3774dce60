-- The values of a Bind's parameters as they are collected, one after the other with their count.
-- Documentation: "Message Formats", Bind (F).
use Rattle.std.specs.Prelude.{◌≡◌, ℕ, ◌+◌, List, [], ◌++◌, Option, ◌<◌, length, Vec, vec_capacity}
use Rattle.std.specs.declared.alloc.Global.{Global}
use Rattle.pg_send.specs.Values.{value_text}

-- the capacity is how many bytes there can be before memory is asked for
pub record HeldValues : Type 0 where
  pub count : ℕ
  pub bytes : List ℕ
  pub capacity : ℕ

-- so many values, in these bytes
abbrev pub values_held : ℕ → Vec ℕ Global → HeldValues
values_held count bytes = record { count = count; bytes = bytes.items; capacity = vec_capacity bytes }

abbrev pub no_values : ℕ → HeldValues
no_values capacity = record { count = 0; bytes = []; capacity = capacity }

-- one more value, or one more NULL
pub record HasOneMore (value : Option (List ℕ)) (old new : HeldValues) : Type 0 where
  pub count : new.count ≡ old.count + 1
  pub bytes : new.bytes ≡ old.bytes ++ value_text value

-- there is room for fewer bytes than these
abbrev pub AreShort : HeldValues → ℕ → Type 0
AreShort values needed = values.capacity < length values.bytes + needed
