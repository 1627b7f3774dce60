-- What a flow of fixed size stands for.
use Rattle.std.specs.Prelude.{◌≡◌, ℕ, ◌==◌, Bool, true, false, List, [], Option, Some, None, if◌then◌else◌, map, replicate, take}
use Rattle.pg_flow.specs.declared.early_syncs.EarlySyncs.{EarlySyncs}
use Rattle.pg_flow.specs.declared.early_syncs.EarlySyncs.TheVariants.{InCopy, InGroup, Usual}
use Rattle.pg_flow.specs.declared.fixed_flow.FixedFlow.{FixedFlow}
use Rattle.pg_flow.specs.declared.request.Request.{Request}
use Rattle.pg_flow.specs.ClientFlow.View.{client_as, queue_as}
use Rattle.pg_flow.specs.Codes.{asked, mode_number, place_as, request_as, stage_as}
use Rattle.pg_flow.specs.Flow.{OfClient, OfServer, Session, Side, count_of, first_in, session, session_mode}
use Rattle.pg_flow.specs.ServerFlow.View.{server_as}
use Rattle.pg_flow.specs.TransactionStatus.{status_as}

abbrev pub early_as : ℕ → ℕ → ℕ → ℕ → Bool → EarlySyncs
early_as kind group least more skips =
    if kind == 0 then Usual else (if kind == 1 then InCopy more else InGroup group least more skips)

-- nothing waits behind no request
abbrev pub behind_as : Option Request → ℕ → List ℕ → List Request
behind_as None count numbers = []
behind_as (Some r) count numbers = map request_as (take count numbers)

abbrev pub queue_of : Option Request → ℕ → List ℕ → List Request
queue_of first count numbers = queue_as first (behind_as first count numbers)

abbrev pub client_side : FixedFlow → Side
client_side flow =
    OfClient (client_as (early_as flow.early flow.group flow.least flow.more flow.skips) (queue_of (asked flow.request) flow.behind flow.requests) (place_as flow.place)) flow.count

abbrev pub server_side : FixedFlow → Side
server_side flow = OfServer (server_as (asked flow.request) (place_as flow.place) flow.is_quiet flow.first) flow.count

abbrev pub side_in : FixedFlow → Side
side_in flow = if flow.is_server then server_side flow else client_side flow

-- before the first message, of a server or of a client
abbrev pub begun : Bool → FixedFlow
begun is_server = record {
  mode = 0;
  status = 0;
  has_left = false;
  is_server = is_server;
  first = 0;
  count = 0;
  stage = 0;
  place = 0;
  request = 0;
  early = 0;
  skips = false;
  is_quiet = true;
  group = 0;
  least = 0;
  more = 0;
  behind = 0;
  requests = replicate 1024 0;
}

abbrev pub session_in : FixedFlow → Session
session_in flow = session (stage_as flow.stage) flow.has_left (side_in flow) (status_as flow.status)

-- what its fields show is so
pub record IsShown (flow : FixedFlow) : Type 0 where
  pub mode : flow.mode ≡ mode_number (session_mode (session_in flow))
  pub first : flow.first ≡ first_in (side_in flow)
  pub count : flow.count ≡ count_of (side_in flow)
