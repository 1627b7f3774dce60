-- What each message of a client says, as the page of all messages has it.
use Rattle.std.specs.Prelude.{option_copied}
use Rattle.pg_format.specs.Messages.{Bind, Parse, Execute, FunctionCall, SaslInitial, Cancel}
use Rattle.pg_format.specs.Messages as page
use Rattle.pg_format.specs.Format.{Format}
use Rattle.pg_format.specs.Format.Parts.{one_of}
use Rattle.pg_base.specs.declared.error.ProtocolFault.TheVariants.{UnknownLetter}
use Rattle.pg_server.specs.declared.frontend.bind.BindRef.{BindRef}
use Rattle.pg_server.specs.declared.frontend.parse.ParseRef.{ParseRef}
use Rattle.pg_server.specs.declared.frontend.execute.ExecuteRef.{ExecuteRef}
use Rattle.pg_server.specs.declared.frontend.target.Target.{Target}
use Rattle.pg_server.specs.declared.frontend.target.Target.TheVariants as targets
use Rattle.pg_server.specs.declared.frontend.target.TargetRef.{TargetRef}
use Rattle.pg_server.specs.declared.frontend.function_call.FunctionCallRef.{FunctionCallRef}
use Rattle.pg_server.specs.declared.frontend.sasl_initial.SaslInitialRef.{SaslInitialRef}
use Rattle.pg_server.specs.declared.frontend.cancel_request.CancelRequestRef.{CancelRequestRef}

abbrev pub shown_bind : BindRef → Bind
shown_bind b = record { portal = b.portal.now; statement = b.statement.now; formats = b.formats; values = b.values; result_formats = b.result_formats }

abbrev pub shown_parse : ParseRef → Parse
shown_parse p = record { statement = p.statement.now; query = p.query.now; types = p.types }

abbrev pub shown_execute : ExecuteRef → Execute
shown_execute e = record { portal = e.portal.now; limit = e.limit }

-- the letter that says of what kind a name is
abbrev pub target_format : Format page.Target
target_format = one_of page.target_of page.target_letter UnknownLetter

abbrev pub shown_target : Target → page.Target
shown_target targets.Statement = page.statement
shown_target targets.Portal = page.portal

abbrev pub shown_targeted : TargetRef → page.Targeted
shown_targeted t = record { target = shown_target t.target; name = t.name.now }

abbrev pub shown_call : FunctionCallRef → FunctionCall
shown_call f = record { object_id = f.object_id.0; formats = f.formats; arguments = f.arguments; result_format = f.result_format }

abbrev pub shown_initial : SaslInitialRef → SaslInitial
shown_initial s = record { mechanism = s.mechanism.now; response = option_copied s.response }

abbrev pub shown_cancel : CancelRequestRef → Cancel
shown_cancel c = record { process_id = c.process_id; secret_key = c.secret_key.now }
