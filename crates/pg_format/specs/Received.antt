-- What reading a message by its kind answers.
pub mod Message
use Rattle.std.specs.Prelude.{◌≡◌, Some, Result, Ok, Err, ℕ, List, None}
use Rattle.pg_base.specs.declared.format.BackendMessageFormat.{BackendMessageFormat}
use Rattle.pg_base.specs.declared.error.Error.{Error}
use Rattle.pg_base.specs.declared.error.Error.TheVariants.{Protocol, OutOfMemory}
use Rattle.pg_base.specs.Decode.{Decodes}
use Rattle.pg_format.specs.Format.{Format, Means, IsFaultOf}

-- the greatest length of a body
abbrev pub max_body : ℕ
max_body = 2147483643

-- the result is this value, unless memory ran out
abbrev pub IsValue : {A V : Type 0} → (A → V) → V → Result A Error → Type 0
IsValue shown v (Ok value) = shown value ≡ v
IsValue shown v (Err (Protocol reading fault)) = ⊥
IsValue shown v (Err OutOfMemory) = Unit {0}

-- the error, with the kind of message that was read in a fault of its body
abbrev pub error_while_reading : BackendMessageFormat → Error → Error
error_while_reading format (Protocol _ fault) = Protocol (Some format) fault
error_while_reading format OutOfMemory = OutOfMemory

-- a body is decoded by its line: to the value that it means, or not at all
abbrev pub DecodesBody : {A V : Type 0} → Format V → (List ℕ → Type 0) → (A → V) → List ℕ → Result A Error → Type 0
DecodesBody line NeedsNoMemory shown body result = Decodes (Means line) (IsFaultOf line) NeedsNoMemory shown None body result
