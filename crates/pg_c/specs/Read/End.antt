-- Where the parts of a body end, as a C program reads it.
use Rattle.std.specs.Prelude.{◌≡◌, ◌⊎◌, ℕ, ℤ, pos, List}
use Rattle.pg_base.specs.declared.error.ProtocolFault.{ProtocolFault}
use Rattle.pg_base.specs.declared.error.ProtocolFault.TheVariants.{UnknownMessageType}
use Rattle.pg_base.specs.declared.format.BackendMessageFormat.{BackendMessageFormat}
use Rattle.pg_base.specs.Format.{backend_tag, IsBackendTag}
use Rattle.pg_format.specs.Format.{IsFaultOf}
use Rattle.pg_format.specs.Format.Places.{EndsAt}
use Rattle.pg_receive.specs.Layout.{layout}
use Rattle.pg_c.specs.Read.{IsBodyFault}

-- the parts that a body of this tag has end at the offset that is the result
pub record GivesEnd (tag : ℕ) (body : List ℕ) (result : ℤ) : Type 0 where
  pub kind : BackendMessageFormat
  pub tagged : backend_tag kind ≡ tag
  pub end : ℕ
  pub is : result ≡ pos end
  pub ends : EndsAt (layout kind).format body 0 end

-- one of them can't be read
pub record IsPartFault (tag : ℕ) (body : List ℕ) (fault : ProtocolFault) : Type 0 where
  pub kind : BackendMessageFormat
  pub tagged : backend_tag kind ≡ tag
  pub fault_of : IsBodyFault (IsFaultOf (layout kind).format) body fault

-- no message from a server has the tag, or a part can't be read
abbrev pub IsEndFault : ℕ → List ℕ → ProtocolFault → Type 0
IsEndFault tag body fault = ((¬ IsBackendTag tag) × (fault ≡ UnknownMessageType tag)) ⊎ IsPartFault tag body fault
