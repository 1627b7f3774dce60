-- How far a connection has come before its login is over, and where each message leads. A client may say what the server waits for,
-- and nothing else. Documentation: "Message Flow", "Start-up", "Canceling Requests in Progress", "SSL Session Encryption", "GSSAPI
-- Session Encryption"; "SASL Authentication".
use Rattle.std.specs.Prelude.{Bool, true, false, Option, Some, None, if◌then◌else◌}
use Rattle.pg_flow.specs.declared.begin_answer.AuthenticationStep.TheVariants as auth
use Rattle.pg_flow.specs.declared.begin_answer.BeginAnswer.TheVariants as begun
use Rattle.pg_flow.specs.declared.begin_request.BeginRequest.TheVariants as begins
use Rattle.pg_flow.specs.declared.stage.Stage.TheVariants as stages
use Rattle.pg_flow.specs.declared.begin_answer.AuthenticationStep.{AuthenticationStep}
use Rattle.pg_flow.specs.declared.begin_answer.BeginAnswer.{BeginAnswer}
use Rattle.pg_flow.specs.declared.begin_request.BeginRequest.{BeginRequest}
use Rattle.pg_flow.specs.declared.stage.Stage.{Stage}

-- Each encryption may be asked for once, and none on a connection that is encrypted.
abbrev pub opens : Bool → Bool → Stage → Option Stage
opens was_asked encrypted next = if was_asked then None else (if encrypted then None else Some next)

abbrev pub begin_said : Stage → BeginRequest → Option Stage
begin_said (stages.Opening ssl gss encrypted) begins.Ssl = opens ssl encrypted (stages.SslRequested gss)
begin_said (stages.Opening ssl gss encrypted) begins.Gss = opens gss encrypted (stages.GssRequested ssl)
begin_said (stages.Opening ssl gss encrypted) begins.Startup = Some stages.Started
begin_said (stages.Opening ssl gss encrypted) begins.Cancel = Some stages.Cancelled
begin_said stages.PasswordAsked (begins.Response scram) = Some stages.PasswordGiven
begin_said stages.GssAsked (begins.Response scram) = Some stages.GssGiven
begin_said stages.GssContinued (begins.Response scram) = Some stages.GssGiven
begin_said stages.SaslOffered (begins.Response scram) = Some (if scram then stages.ScramBegun else stages.SaslGiven)
begin_said stages.ScramChallenged (begins.Response scram) = Some stages.ScramProved
begin_said stages.SaslChallenged (begins.Response scram) = Some stages.SaslGiven
begin_said stage m = None

abbrev pub first_step : AuthenticationStep → Option Stage
first_step auth.Ok = Some (stages.Accepted false)
first_step auth.Password = Some stages.PasswordAsked
first_step auth.Outside = Some stages.OutsideAsked
first_step auth.Gss = Some stages.GssAsked
first_step auth.Sasl = Some stages.SaslOffered
first_step _ = None

-- Where SCRAM was begun, the server accepts a login only after its verifier.
abbrev pub next_step : Stage → AuthenticationStep → Option Stage
next_step stages.PasswordGiven auth.Ok = Some (stages.Accepted false)
next_step stages.OutsideAsked auth.Ok = Some (stages.Accepted false)
next_step stages.GssGiven auth.Ok = Some (stages.Accepted false)
next_step stages.GssGiven auth.GssContinue = Some stages.GssContinued
next_step stages.GssContinued auth.Ok = Some (stages.Accepted false)
next_step stages.ScramBegun auth.SaslContinue = Some stages.ScramChallenged
next_step stages.ScramProved auth.SaslFinal = Some stages.Verified
next_step stages.SaslGiven auth.SaslContinue = Some stages.SaslChallenged
next_step stages.SaslGiven auth.SaslFinal = Some stages.Verified
next_step stages.SaslGiven auth.Ok = Some (stages.Accepted false)
next_step stages.Verified auth.Ok = Some (stages.Accepted false)
next_step stage step = None

abbrev pub authenticated : Stage → AuthenticationStep → Option Stage
authenticated stages.Started step = first_step step
authenticated stages.Negotiated step = first_step step
authenticated stage step = next_step stage step

-- after a message that is no error and no step of authentication
abbrev pub goes_plainly_on : Stage → BeginAnswer → Option Stage
goes_plainly_on (stages.SslRequested gss) (begun.Encryption is_given) = Some (stages.Opening true gss is_given)
goes_plainly_on (stages.GssRequested ssl) (begun.Encryption is_given) = Some (stages.Opening ssl true is_given)
goes_plainly_on stages.Started begun.Negotiation = Some stages.Negotiated
goes_plainly_on (stages.Accepted key) begun.Key = if key then None else Some (stages.Accepted true)
goes_plainly_on (stages.Accepted key) begun.Aside = Some (stages.Accepted key)
goes_plainly_on (stages.Accepted key) (begun.Ready status) = Some stages.Ready
goes_plainly_on stage m = None

-- an error may come in the place of any message
abbrev pub goes_on_or_ends : Stage → BeginAnswer → Option Stage
goes_on_or_ends stage begun.Failure = Some stages.Ended
goes_on_or_ends stage (begun.Authentication step) = authenticated stage step
goes_on_or_ends stage m = goes_plainly_on stage m

-- A server says nothing before it is asked.
abbrev pub begin_heard : Stage → BeginAnswer → Option Stage
begin_heard (stages.Opening ssl gss encrypted) m = None
begin_heard stages.Cancelled m = None
begin_heard stages.Ready m = None
begin_heard stages.Ended m = None
begin_heard stage m = goes_on_or_ends stage m

abbrev pub is_ready : Stage → Bool
is_ready stages.Ready = true
is_ready _ = false

-- the server has said its last words
abbrev pub is_ended : Stage → Bool
is_ended stages.Ended = true
is_ended _ = false

-- where a client may say Flush and nothing else
abbrev pub takes_flush : Stage → Bool
takes_flush stages.PasswordGiven = true
takes_flush (stages.Accepted key) = true
takes_flush _ = false

-- where a client may say Terminate
abbrev pub may_leave : Stage → Bool
may_leave (stages.Opening ssl gss encrypted) = false
may_leave (stages.SslRequested gss) = false
may_leave (stages.GssRequested ssl) = false
may_leave stages.Cancelled = false
may_leave _ = true
