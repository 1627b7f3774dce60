-- What a call that encodes answers.
use Rattle.std.specs.Prelude.{◌≡◌, ℕ, ◌+◌, ◌<◌, ◌≤◌, List, [], ◌∷◌, ◌++◌, Option, Some, None, Result, Err, IsOkUnless, IsErrOf, OnOk, OnErr, OnSome, Vec, vec_len, vec_capacity}
use Rattle.std.specs.declared.alloc.Global.{Global}
use Rattle.pg_base.specs.declared.error.ProtocolFault.{ProtocolFault}
use Rattle.pg_base.specs.declared.error.Error.{Error}
use Rattle.pg_base.specs.declared.error.Error.TheVariants.{Protocol, OutOfMemory}
use Rattle.pg_base.specs.Cutting.{frame, IsCutInto}

-- The answer is this fault, and read of no body, where there is one. Where there is none it is Ok,
-- unless memory ran out.
abbrev pub IsAnswer : {A : Type 0} → Option ProtocolFault → Result A Error → Type 0
IsAnswer (Some fault) result = result ≡ Err (Protocol None fault)
IsAnswer None result = IsOkUnless result OutOfMemory

-- the spare room of a buffer is less than so many bytes
abbrev pub IsShort : Vec ℕ Global → ℕ → Type 0
IsShort buf needed = vec_capacity buf < vec_len buf + needed

-- A text is added as a whole or not at all. It is refused for its fault exactly where it has one, and
-- the buffer stays as it was, its capacity too; memory runs out only where the spare room is less
-- than `room`; and no room is given back.
pub record Encodes (text : List ℕ) (fault : Option ProtocolFault) (room : ℕ) (old new : Vec ℕ Global) (result : Result (Unit {0}) Error) : Type 0 where
  pub ok : OnOk result (new.items ≡ old.items ++ text)
  pub err : OnErr result (new.items ≡ old.items)
  pub answer : IsAnswer fault result
  pub refused : OnSome fault (new ≡ old)
  pub memory : IsErrOf result OutOfMemory → IsShort old room
  pub capacity : vec_capacity old ≤ vec_capacity new

-- the same of a tagged message, which tag and length cut off as that message and no other
pub record EncodesFrame (tag : ℕ) (body : List ℕ) (fault : Option ProtocolFault) (hint : ℕ) (old new : Vec ℕ Global) (result : Result (Unit {0}) Error) : Type 0 where
  pub encodes : Encodes (frame tag body) fault (hint + 5) old new result
  pub cut : OnOk result (IsCutInto (frame tag body) ((tag, body) ∷ []))
