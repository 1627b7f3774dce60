-- ReadyForQuery: the cases of the type, and the statuses that they stand for.
use Rattle.pg_receive.specs.declared.message.ready_for_query.ReadyForQuery.{ReadyForQuery}
use Rattle.pg_receive.specs.declared.message.ready_for_query.TransactionStatus.{TransactionStatus}
use Rattle.pg_receive.specs.declared.message.ready_for_query.TransactionStatus.TheVariants as cases
use Rattle.pg_format.specs.Messages.{Status, idle, transaction, error}

abbrev pub shown_status : TransactionStatus → Status
shown_status cases.Idle = idle
shown_status cases.Transaction = transaction
shown_status cases.Error = error

-- the status of a server that is ready
abbrev pub ready_shown : ReadyForQuery → Status
ready_shown ready = shown_status ready.transaction_status
