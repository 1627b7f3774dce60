-- The status with which the body of a ReadyForQuery begins. Documentation: "Message Formats", ReadyForQuery.
use Rattle.std.specs.Prelude.{ℕ, ◌==◌, List, [], ◌∷◌, Option, Some, None, if◌then◌else◌}
use Rattle.pg_flow.specs.declared.transaction_status.TransactionStatus.TheVariants as statuses
use Rattle.pg_flow.specs.declared.transaction_status.TransactionStatus.{TransactionStatus}

abbrev pub status_as : ℕ → Option TransactionStatus
status_as byte =
    if byte == 73 then Some statuses.Idle
    else if byte == 84 then Some statuses.Transaction
    else if byte == 69 then Some statuses.Error
    else None

abbrev pub status_of : List ℕ → Option TransactionStatus
status_of [] = None
status_of (byte ∷ bytes) = status_as byte
