-- What decoding a message as one type answers.
use Rattle.std.specs.Prelude.{◌≡◌, ◌≢◌, ◌<◌, ◌≤◌, Result, Err, Some, None, length, IsErrOf}
use Rattle.pg_base.specs.Decode.{Decodes}
use Rattle.pg_format.specs.Format.{Means, IsFaultOf}
use Rattle.pg_base.specs.declared.error.Error.{Error}
use Rattle.pg_base.specs.declared.error.Error.TheVariants.{Protocol, OutOfMemory}
use Rattle.pg_base.specs.declared.error.ProtocolFault.TheVariants.{WrongFormat, BodyTooLong}
use Rattle.pg_format.specs.Received.{max_body, IsValue}
use Rattle.pg_format.specs.declared.received.BackendMessage.{Ghosts}
use Rattle.pg_format.specs.declared.received.ReceivedMessage.{ReceivedMessage}

-- the message is of another kind, or too long, or else it is what its body means, or the fault of the
-- body; where the body has a value, it is this one, unless memory ran out
pub record DecodesMessage {A : Type 0} (law : Ghosts A) (message : ReceivedMessage) (result : Result A Error) : Type 0 where
  pub other : message.format ≢ law.FORMAT → IsErrOf result (Protocol None (WrongFormat law.FORMAT message.format))
  pub long : message.format ≡ law.FORMAT → max_body < length message.contents → IsErrOf result (Protocol None (BodyTooLong (length message.contents)))
  pub body : message.format ≡ law.FORMAT → length message.contents ≤ max_body → Decodes (Means law.format) (IsFaultOf law.format) law.NeedsNoMemory law.shown (Some message.format) message.contents result
  pub only : (v : law.Shown) → message.format ≡ law.FORMAT → length message.contents ≤ max_body → Means law.format message.contents v → IsValue law.shown v result
  pub free : law.NeedsNoMemory message.contents → result ≢ Err OutOfMemory
