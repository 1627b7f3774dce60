-- What a server says before the login of its client is over, by the tag and the first bytes of its body. Documentation: "Message
-- Formats".
use Rattle.std.specs.Prelude.{ℕ, ◌==◌, true, false, List, ◌∷◌, Option, Some, None, if◌then◌else◌, option_map}
use Rattle.pg_flow.specs.declared.begin_answer.AuthenticationStep.TheVariants as auth
use Rattle.pg_flow.specs.declared.begin_answer.BeginAnswer.TheVariants as begun
use Rattle.pg_flow.specs.declared.begin_answer.AuthenticationStep.{AuthenticationStep}
use Rattle.pg_flow.specs.declared.begin_answer.BeginAnswer.{BeginAnswer}
use Rattle.pg_flow.specs.TransactionStatus.{status_of}

abbrev pub step_of : ℕ → Option AuthenticationStep
step_of code =
    if code == 0 then Some auth.Ok
    else if code == 2 then Some auth.Outside
    else if code == 6 then Some auth.Outside
    else if code == 3 then Some auth.Password
    else if code == 5 then Some auth.Password
    else if code == 7 then Some auth.Gss
    else if code == 9 then Some auth.Gss
    else if code == 8 then Some auth.GssContinue
    else if code == 10 then Some auth.Sasl
    else if code == 11 then Some auth.SaslContinue
    else if code == 12 then Some auth.SaslFinal
    else None

abbrev pub authentication : List ℕ → Option AuthenticationStep
authentication (a ∷ b ∷ c ∷ code ∷ bytes) =
    if a == 0 then (if b == 0 then (if c == 0 then step_of code else None) else None) else None
authentication _ = None

abbrev pub begin_answer : ℕ → List ℕ → Option BeginAnswer
begin_answer tag first =
    if tag == 118 then Some begun.Negotiation
    else if tag == 82 then option_map (λ step. begun.Authentication step) (authentication first)
    else if tag == 78 then Some begun.Aside
    else if tag == 83 then Some begun.Aside
    else if tag == 75 then Some begun.Key
    else if tag == 69 then Some begun.Failure
    else if tag == 90 then option_map (λ status. begun.Ready status) (status_of first)
    else None

-- the byte that answers a request for encryption, or an error in its place
abbrev pub byte_answer : ℕ → ℕ → Option BeginAnswer
byte_answer agreed byte =
    if byte == agreed then Some (begun.Encryption true)
    else if byte == 78 then Some (begun.Encryption false)
    else if byte == 69 then Some begun.Failure
    else None
