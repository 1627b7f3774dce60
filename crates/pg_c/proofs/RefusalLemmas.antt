-- Each number of a refusal is below 0.
use Rattle.std.proofs.Common.{◌<ℤ◌, pos, arith}
use Rattle.std.proofs.lemmas.Int.{ints}
use Rattle.pg_base.specs.declared.error.Error.{Error}
use Rattle.pg_base.specs.declared.error.Error.TheVariants.{Protocol, OutOfMemory}
use Rattle.pg_base.specs.declared.error.ProtocolFault.{ProtocolFault}
use Rattle.pg_base.specs.declared.error.ProtocolFault.TheVariants as faults
use Rattle.pg_server.specs.declared.frontend.error.FrontendFault.{FrontendFault}
use Rattle.pg_server.specs.declared.frontend.error.FrontendFault.TheVariants as client
use Rattle.pg_c.specs.Refusal.{client_number, fault_number, refusal_number}

fault_below : (fault : ProtocolFault) → fault_number fault <ℤ pos 0
fault_below (faults.NotUtf8) = omega (arith, ints)
fault_below _ = omega (arith, ints)

pub error_below : (error : Error) → refusal_number error <ℤ pos 0
error_below (Protocol reading fault) = fault_below fault
error_below OutOfMemory = omega (arith, ints)

pub client_below : (fault : FrontendFault) → client_number fault <ℤ pos 0
client_below (client.UnknownTag tag) = omega (arith, ints)
client_below _ = omega (arith, ints)
