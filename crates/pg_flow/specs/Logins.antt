-- A client and a server before the login is over, what is on its way between them, and what was said.
use Rattle.std.specs.Prelude.{Bool, true, false, List, [], ◌∷◌, ◌++◌, ◌⊎◌, Option, Some, None}
use Rattle.pg_flow.specs.declared.begin_answer.AuthenticationStep.TheVariants as auth
use Rattle.pg_flow.specs.declared.begin_answer.BeginAnswer.TheVariants as begun
use Rattle.pg_flow.specs.declared.stage.Stage.TheVariants as stages
use Rattle.pg_flow.specs.declared.begin_answer.AuthenticationStep.{AuthenticationStep}
use Rattle.pg_flow.specs.declared.begin_answer.BeginAnswer.{BeginAnswer}
use Rattle.pg_flow.specs.declared.begin_request.BeginRequest.{BeginRequest}
use Rattle.pg_flow.specs.declared.stage.Stage.{Stage}
use Rattle.pg_flow.specs.Stage.{begin_heard, begin_said}

pub record Login : Type 0 where
  pub client : Stage
  pub server : Stage
  pub up : List BeginRequest
  pub down : List BeginAnswer
  pub is_refused : Bool  -- the client has refused what the server's flow allowed

abbrev pub login : Stage → Stage → List BeginRequest → List BeginAnswer → Login
login client server up down = record { client = client; server = server; up = up; down = down; is_refused = false }

-- what may happen next
pub data Turn : Type 0 where
  Client_says : BeginRequest → Turn
  Server_takes : Turn
  Server_says : BeginAnswer → Turn
  Client_hears : Turn

abbrev pub says_at : Login → BeginRequest → Option Stage → Login
says_at w m None = w
says_at w m (Some c) = login c w.server (w.up ++ m ∷ []) w.down

abbrev pub takes_at : Login → List BeginRequest → Option Stage → Login
takes_at w up None = w
takes_at w up (Some s) = login w.client s up w.down

abbrev pub takes_from : Login → List BeginRequest → Login
takes_from w [] = w
takes_from w (m ∷ up) = takes_at w up (begin_said w.server m)

abbrev pub tells_at : Login → BeginAnswer → Option Stage → Login
tells_at w m None = w
tells_at w m (Some s) = login w.client s w.up (w.down ++ m ∷ [])

abbrev pub hears_at : Login → List BeginAnswer → Option Stage → Login
hears_at w down None = record { client = w.client; server = w.server; up = w.up; down = w.down; is_refused = true }
hears_at w down (Some c) = login c w.server w.up down

abbrev pub hears_from : Login → List BeginAnswer → Login
hears_from w [] = w
hears_from w (m ∷ down) = hears_at w down (begin_heard w.client m)

abbrev pub turned : Turn → Login → Login
turned (Client_says m) w = says_at w m (begin_said w.client m)
turned Server_takes w = takes_from w w.up
turned (Server_says m) w = tells_at w m (begin_heard w.server m)
turned Client_hears w = hears_from w w.down

-- nothing happens any more once the client has refused something
abbrev pub while_taken : Bool → Login → Login → Login
while_taken true next w = w
while_taken false next w = next

abbrev pub logins : List Turn → Login → Login
logins [] w = w
logins (turn ∷ turns) w = logins turns (while_taken w.is_refused (turned turn w) w)

abbrev pub at_opening : Login
at_opening = login (stages.Opening false false false) (stages.Opening false false false) [] []

-- what was said, by either side

pub data Begun : Type 0 where
  By_client : BeginRequest → Begun
  By_server : BeginAnswer → Begun

abbrev pub begins_with : Begun → Stage → Option Stage
begins_with (By_client m) stage = begin_said stage m
begins_with (By_server m) stage = begin_heard stage m

abbrev pub begin_run : List Begun → Option Stage → Option Stage
begin_run [] stage = stage
begin_run (e ∷ es) None = None
begin_run (e ∷ es) (Some stage) = begin_run es (begins_with e stage)

-- the server has accepted the login
abbrev pub is_accepted : Stage → Bool
is_accepted (stages.Accepted key) = true
is_accepted stages.Ready = true
is_accepted _ = false

abbrev pub IsStep : AuthenticationStep → Begun → Type 0
IsStep auth.Ok (By_server (begun.Authentication auth.Ok)) = Unit {0}
IsStep auth.SaslFinal (By_server (begun.Authentication auth.SaslFinal)) = Unit {0}
IsStep _ _ = ⊥

-- the server has said this step
abbrev pub HasStep : AuthenticationStep → List Begun → Type 0
HasStep step [] = ⊥
HasStep step (e ∷ es) = IsStep step e ⊎ HasStep step es
