-- Where a body ends.
use Rattle.std.specs.Prelude.{◌≡◌, ℕ, ◌<◌, List, [], length, ◌⊎◌}
use Rattle.pg_base.specs.declared.error.ProtocolFault.{ProtocolFault}
use Rattle.pg_base.specs.declared.error.ProtocolFault.TheVariants.{TrailingBytes}
use Rattle.pg_format.specs.Format.{Format}
use Rattle.pg_format.specs.Format.Parts.{offset}
use Rattle.pg_format.specs.Format.Sequences.{BreaksAfter}

-- bytes where there are to be none
pub record Trails (len : ℕ) (bytes : List ℕ) (fault : ProtocolFault) : Type 0 where
  pub some : 0 < length bytes
  pub is : fault ≡ TrailingBytes (offset len bytes)

-- nothing follows, else it is a fault
abbrev pub exactly : {A : Type 0} → Format A → Format A
exactly g = record {
  Reads = λ bytes v rest. g.Reads bytes v [] × (rest ≡ []);
  Breaks = λ len bytes fault. g.Breaks len bytes fault ⊎ BreaksAfter g (λ _. Trails) len bytes fault;
  Writes = g.Writes;
  Fits = λ v rest. g.Fits v [] × (rest ≡ []);
}

-- what follows is ignored, and nothing is written there
abbrev pub loosely : {A : Type 0} → Format A → Format A
loosely g = record {
  Reads = λ bytes v rest. (more : List ℕ) × g.Reads bytes v more × (rest ≡ []);
  Breaks = g.Breaks;
  Writes = g.Writes;
  Fits = λ v rest. g.Fits v [] × (rest ≡ []);
}
