-- ReadyForQuery: the letter of the session's status. Documentation: "Message Formats", ReadyForQuery (B).
use Rattle.pg_format.specs.Messages as page
use Rattle.pg_server.specs.declared.backend.ready_for_query.OutboundReadyForQuery.{OutboundReadyForQuery}
use Rattle.pg_server.specs.declared.backend.ready_for_query.OutboundReadyForQuery.TheVariants as statuses

abbrev pub status_of : OutboundReadyForQuery → page.Status
status_of statuses.Idle = page.idle
status_of statuses.Transaction = page.transaction
status_of statuses.Error = page.error
