-- What a client says before its login is over, by the tag and the first bytes of its body. Documentation: "Message Formats".
use Rattle.std.specs.Prelude.{ℕ, ◌==◌, List, [], ◌∷◌, Option, Some, None, if◌then◌else◌, nat_eq, codes}
use Rattle.std.specs.List.{starts_with}
use Rattle.pg_flow.specs.declared.begin_request.BeginRequest.{BeginRequest}
use Rattle.pg_flow.specs.declared.begin_request.BeginRequest.TheVariants.{Cancel, Gss, Response, Ssl, Startup}

-- a message without a tag: 80877103, 80877104, 80877102, or version 3
abbrev pub opening : List ℕ → Option BeginRequest
opening first =
    if starts_with nat_eq first (4 ∷ 210 ∷ 22 ∷ 47 ∷ []) then Some Ssl
    else if starts_with nat_eq first (4 ∷ 210 ∷ 22 ∷ 48 ∷ []) then Some Gss
    else if starts_with nat_eq first (4 ∷ 210 ∷ 22 ∷ 46 ∷ []) then Some Cancel
    else if starts_with nat_eq first (0 ∷ 3 ∷ []) then Some Startup
    else None

abbrev pub begin_request : ℕ → List ℕ → Option BeginRequest
begin_request tag first =
    if tag == 0 then opening first
    else if tag == 112 then Some (Response (starts_with nat_eq first (codes "SCRAM-")))
    else None
