-- A message without a tag.
use Rattle.std.specs.Prelude.{◌≡◌, ◌+◌, ◌≤◌, ℕ, List, length, Some, None, Vec, Result, Ok, Err}
use Rattle.pg_base.specs.Cutting.{max_length}
use Rattle.pg_base.specs.Part.{PartLaw}
use Rattle.std.specs.declared.alloc.Global.{Global}
use Rattle.pg_base.specs.declared.error.Error.{Error}
use Rattle.pg_base.specs.BufMut.{prefixed}
use Rattle.pg_base.specs.Encode.{Encodes}
use Rattle.pg_base.specs.Sink.{IsGiven}
use Rattle.pg_base.specs.Tagged.{fault_of}
use Rattle.pg_base.specs.declared.error.ProtocolFault.{ProtocolFault}

-- the parts break no limit, and the whole is that long
pub record IsUntagged (part : PartLaw) (len : ℕ) : Type 0 where
  pub counts : part.fault ≡ None
  pub long : len ≡ length part.text + 4
  pub small : len ≤ max_length

-- the parts are added after the length of it all, or refused for the first limit that they break
abbrev pub EncodesUntagged : PartLaw → Vec ℕ Global → Vec ℕ Global → Result (Unit {0}) Error → Type 0
EncodesUntagged part old new result = Encodes (prefixed part.text) (fault_of part) (length part.text + 4) old new result

-- the length of it all, or the first limit that the parts break
abbrev pub MeasuresUntagged : PartLaw → Result ℕ ProtocolFault → Type 0
MeasuresUntagged part (Ok len) = (fault_of part ≡ None) × (len ≡ length (prefixed part.text))
MeasuresUntagged part (Err fault) = fault_of part ≡ Some fault

-- the length of it all, which is at the front of the bytes where they are that long; or the first limit that the
-- parts break, and the bytes are as they were
abbrev pub WritesUntagged : PartLaw → List ℕ → List ℕ → Result ℕ ProtocolFault → Type 0
WritesUntagged part old new (Ok len) = (fault_of part ≡ None) × (len ≡ length (prefixed part.text)) × IsGiven (prefixed part.text) old new
WritesUntagged part old new (Err fault) = (fault_of part ≡ Some fault) × (new ≡ old)
