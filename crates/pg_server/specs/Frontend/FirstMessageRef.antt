-- What reading a client's first message answers, by its line of the page.
use Rattle.std.specs.Prelude.{ℕ, List, Result}
use Rattle.pg_format.specs.Messages.{First, opening, cancelling, tls, gssapi, first_message}
use Rattle.pg_server.specs.declared.frontend.error.FrontendFault.{FrontendFault}
use Rattle.pg_server.specs.declared.frontend.first_message_ref.FirstMessageRef.{FirstMessageRef}
use Rattle.pg_server.specs.declared.frontend.first_message_ref.FirstMessageRef.TheVariants as messages
use Rattle.pg_server.specs.Frontend.Page.{shown_cancel}
use Rattle.pg_server.specs.Frontend.Message.{ReadsBody}

abbrev pub shown_first : FirstMessageRef → First
shown_first (messages.Startup minor settings) = opening minor settings
shown_first (messages.CancelRequest cancel) = cancelling (shown_cancel cancel)
shown_first messages.SslRequest = tls
shown_first messages.GssEncRequest = gssapi

abbrev pub ReadsFirst : List ℕ → Result FirstMessageRef FrontendFault → Type 0
ReadsFirst body result = ReadsBody first_message shown_first body result
