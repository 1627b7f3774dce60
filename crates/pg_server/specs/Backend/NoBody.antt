-- The messages without a body: a tag alone.
use Rattle.pg_base.specs.declared.format.BackendMessageFormat.{BackendMessageFormat}
use Rattle.pg_base.specs.declared.format.BackendMessageFormat.TheVariants as formats
use Rattle.pg_server.specs.declared.backend.no_body.OutboundNoBody.{OutboundNoBody}
use Rattle.pg_server.specs.declared.backend.no_body.OutboundNoBody.TheVariants as messages

abbrev pub no_body_kind : OutboundNoBody → BackendMessageFormat
no_body_kind messages.ParseComplete = formats.ParseComplete
no_body_kind messages.BindComplete = formats.BindComplete
no_body_kind messages.CloseComplete = formats.CloseComplete
no_body_kind messages.EmptyQueryResponse = formats.EmptyQueryResponse
no_body_kind messages.CopyDone = formats.CopyDone
no_body_kind messages.NoData = formats.NoData
no_body_kind messages.PortalSuspended = formats.PortalSuspended
