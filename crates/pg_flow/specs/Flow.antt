-- A session, as its client or its server follows it.
pub mod View
use Rattle.std.specs.Prelude.{ℕ, ◌+◌, ◌-◌, ◌==◌, Bool, true, false, List, [], Option, Some, None, if◌then◌else◌}
use Rattle.pg_flow.specs.declared.begin_answer.BeginAnswer.TheVariants as begun
use Rattle.pg_flow.specs.declared.heard.Heard.TheVariants as whom
use Rattle.pg_flow.specs.declared.mode.Mode.TheVariants as modes
use Rattle.pg_flow.specs.declared.stage.Stage.TheVariants as stages
use Rattle.pg_flow.specs.declared.answer.Answer.{Answer}
use Rattle.pg_flow.specs.declared.answer.Answer.TheVariants.{Failure, Ready}
use Rattle.pg_flow.specs.declared.begin_answer.BeginAnswer.{BeginAnswer}
use Rattle.pg_flow.specs.declared.begin_request.BeginRequest.{BeginRequest}
use Rattle.pg_flow.specs.declared.client_message.ClientMessage.{ClientMessage}
use Rattle.pg_flow.specs.declared.client_message.ClientMessage.TheVariants.{Data, DataEnd, Flush, Requests}
use Rattle.pg_flow.specs.declared.heard.Heard.{Heard}
use Rattle.pg_flow.specs.declared.mode.Mode.{Mode}
use Rattle.pg_flow.specs.declared.place.Place.TheVariants.{Start}
use Rattle.pg_flow.specs.declared.server_message.ServerMessage.{ServerMessage}
use Rattle.pg_flow.specs.declared.server_message.ServerMessage.TheVariants.{Answering, Aside, Readiness}
use Rattle.pg_flow.specs.declared.stage.Stage.{Stage}
use Rattle.pg_flow.specs.declared.transaction_status.TransactionStatus.{TransactionStatus}
use Rattle.pg_flow.specs.BeginAnswer.{begin_answer, byte_answer}
use Rattle.pg_flow.specs.BeginRequest.{begin_request}
use Rattle.pg_flow.specs.ClientFlow.{Client, Plain, client_mode, end_or_drop, first_of, gives, hear, say, whose}
use Rattle.pg_flow.specs.ClientMessage.{client_message}
use Rattle.pg_flow.specs.Plain.{state}
use Rattle.pg_flow.specs.ServerFlow.{Asks, Ends, Idle, Server, first_taken, reads, server_mode, take, tell, whose_told}
use Rattle.pg_flow.specs.ServerMessage.{server_message}
use Rattle.pg_flow.specs.Stage.{begin_heard, begin_said, is_ended, is_ready, may_leave, takes_flush}

-- a client, and how many requests it said, or a server, and how many it took
pub data Side : Type 0 where
  OfClient : Client → ℕ → Side
  OfServer : Server → ℕ → Side

pub record Session : Type 0 where
  pub stage : Stage
  pub left : Bool  -- the client has said that it ends the session
  pub side : Side
  pub status : Option TransactionStatus  -- which the last ReadyForQuery reported

abbrev pub session : Stage → Bool → Side → Option TransactionStatus → Session
session stage left side status = record { stage = stage; left = left; side = side; status = status }

abbrev pub new_client : Side
new_client = OfClient (Plain (state [] Start)) 0

abbrev pub new_server : Side
new_server = OfServer (Idle true) 0

abbrev pub first_session : Side → Session
first_session side = session (stages.Opening false false false) false side None

abbrev pub ready_session : Side → Session
ready_session side = session stages.Ready false side None

abbrev pub is_client : Side → Bool
is_client (OfClient c n) = true
is_client (OfServer s k) = false

abbrev pub client_next : ℕ → Option Client → Option Side
client_next n None = None
client_next n (Some c) = Some (OfClient c n)

abbrev pub server_next : ℕ → Option Server → Option Side
server_next k None = None
server_next k (Some s) = Some (OfServer s k)

-- after the client says a message, or the server takes it: none where it can't be said, or isn't taken, now

abbrev pub side_said : ClientMessage → Side → Option Side
side_said (Requests r) (OfClient c n) = client_next (n + 1) (say r c)
side_said (DataEnd b) (OfClient c n) = client_next n (end_or_drop b c)
side_said Data (OfClient c n) = if gives c then Some (OfClient c n) else None
side_said Flush (OfClient c n) = Some (OfClient c n)
side_said (Requests r) (OfServer s k) = server_next (k + 1) (take (Asks r) s k)
side_said (DataEnd b) (OfServer s k) = server_next k (take (Ends b) s k)
side_said Data (OfServer s k) = if reads s then Some (OfServer s k) else None
side_said Flush (OfServer s k) = if reads s then Some (OfServer s k) else None

abbrev pub count_of : Side → ℕ
count_of (OfClient c n) = n
count_of (OfServer s k) = k

-- a request has a number
abbrev pub number_asked : ClientMessage → Side → Option ℕ
number_asked (Requests r) side = Some (count_of side)
number_asked _ side = None

-- after the client hears an answer, or the server gives it: none where it can't come now
abbrev pub side_heard : Answer → Side → Option Side
side_heard m (OfClient c n) = client_next n (hear n m c)
side_heard m (OfServer s k) = server_next k (tell m s)

abbrev pub side_whose : Answer → Side → Heard
side_whose m (OfClient c n) = whose n m c
side_whose m (OfServer s k) = whose_told m s

-- after a message of the client: none where it can't be said, or isn't taken, now

abbrev pub on_side : Session → Option TransactionStatus → Option Side → Option Session
on_side x status None = None
on_side x status (Some side) = Some (session x.stage x.left side status)

abbrev pub on_stage : Session → Option Stage → Option Session
on_stage x None = None
on_stage x (Some stage) = Some (session stage x.left x.side x.status)

abbrev pub asked_by : Option ClientMessage → Session → Option Session
asked_by None x = None
asked_by (Some m) x = on_side x x.status (side_said m x.side)

abbrev pub begins_by : Option BeginRequest → Stage → Option Stage
begins_by None stage = None
begins_by (Some m) stage = begin_said stage m

abbrev pub begins_or_flushes : ℕ → List ℕ → Stage → Option Stage
begins_or_flushes tag first stage =
    if tag == 72 then (if takes_flush stage then Some stage else begins_by (begin_request tag first) stage)
    else begins_by (begin_request tag first) stage

abbrev pub said_at : Bool → ℕ → List ℕ → Session → Option Session
said_at true tag first x = asked_by (client_message tag first) x
said_at false tag first x = on_stage x (begins_or_flushes tag first x.stage)

abbrev pub leaves : Session → Option Session
leaves x = if may_leave x.stage then Some (session x.stage true x.side x.status) else None

abbrev pub session_said : ℕ → List ℕ → Session → Option Session
session_said tag first x = if tag == 88 then leaves x else (if x.left then None else said_at (is_ready x.stage) tag first x)

abbrev pub number_by : Option ClientMessage → Side → Option ℕ
number_by None side = None
number_by (Some m) side = number_asked m side

abbrev pub session_number : ℕ → List ℕ → Session → Option ℕ
session_number tag first x = if is_ready x.stage then number_by (client_message tag first) x.side else None

-- after a message of the server: none where it can't come now

abbrev pub begun_by : ℕ → List ℕ → Stage → Option BeginAnswer
begun_by tag first (stages.SslRequested gss) = byte_answer 83 tag
begun_by tag first (stages.GssRequested ssl) = byte_answer 71 tag
begun_by tag first stage = begin_answer tag first

abbrev pub status_after : BeginAnswer → Option TransactionStatus → Option TransactionStatus
status_after (begun.Ready status) old = Some status
status_after m old = old

abbrev pub opened_as : BeginAnswer → Session → Option Stage → Option Session
opened_as m x None = None
opened_as m x (Some stage) = Some (session stage x.left x.side (status_after m x.status))

abbrev pub opened_by : BeginAnswer → Session → Option Session
opened_by m x = opened_as m x (begin_heard x.stage m)

abbrev pub opened : Option BeginAnswer → Session → Option Session
opened None x = None
opened (Some m) x = opened_by m x

-- An error that answers nothing is the server's last words.
abbrev pub or_ended : Session → Option Side → Option Session
or_ended x None = Some (session stages.Ended x.left x.side x.status)
or_ended x (Some side) = Some (session x.stage x.left side x.status)

abbrev pub answered_by : ServerMessage → Session → Option Session
answered_by Aside x = Some x
answered_by (Answering Failure) x = or_ended x (side_heard Failure x.side)
answered_by (Answering m) x = on_side x x.status (side_heard m x.side)
answered_by (Readiness status) x = on_side x (Some status) (side_heard Ready x.side)

abbrev pub answered : Option ServerMessage → Session → Option Session
answered None x = None
answered (Some m) x = answered_by m x

-- Poolers pass a server's last words on, and add their own.
abbrev pub heard_after : ℕ → Session → Option Session
heard_after tag x = if tag == 69 then Some x else (if tag == 78 then Some x else None)

abbrev pub heard_at : Bool → ℕ → List ℕ → Session → Option Session
heard_at true tag first x = answered (server_message tag first) x
heard_at false tag first x = if is_ended x.stage then heard_after tag x else opened (begun_by tag first x.stage) x

-- A server that took the client's end says nothing more.
abbrev pub is_gone : Session → Bool
is_gone x = if x.left then (if is_client x.side then false else true) else false

abbrev pub session_heard : ℕ → List ℕ → Session → Option Session
session_heard tag first x = if is_gone x then None else heard_at (is_ready x.stage) tag first x

-- whose it is

abbrev pub whose_or_end : Option Side → Heard → Heard
whose_or_end None whose = whom.End
whose_or_end (Some side) whose = whose

abbrev pub whose_answered : ServerMessage → Session → Heard
whose_answered Aside x = whom.ByItself
whose_answered (Answering Failure) x = whose_or_end (side_heard Failure x.side) (side_whose Failure x.side)
whose_answered (Answering m) x = side_whose m x.side
whose_answered (Readiness status) x = side_whose Ready x.side

abbrev pub whose_begun : BeginAnswer → Heard
whose_begun begun.Failure = whom.End
whose_begun _ = whom.Login

abbrev pub whose_answer : Option ServerMessage → Session → Heard
whose_answer None x = whom.ByItself
whose_answer (Some m) x = whose_answered m x

abbrev pub whose_opened : Option BeginAnswer → Heard
whose_opened None = whom.Login
whose_opened (Some m) = whose_begun m

abbrev pub whose_at : Bool → ℕ → List ℕ → Session → Heard
whose_at true tag first x = whose_answer (server_message tag first) x
whose_at false tag first x = if is_ended x.stage then whom.End else whose_opened (begun_by tag first x.stage)

abbrev pub session_whose : ℕ → List ℕ → Session → Heard
session_whose tag first x = whose_at (is_ready x.stage) tag first x

-- what the session waits for

abbrev pub side_mode : Side → Mode
side_mode (OfClient c n) = client_mode c
side_mode (OfServer s k) = server_mode s

abbrev pub first_in : Side → ℕ
first_in (OfClient c n) = first_of n c
first_in (OfServer s k) = first_taken k s

abbrev pub waiting_in : Side → ℕ
waiting_in side = count_of side - first_in side

abbrev pub mode_of : Stage → Side → Mode
mode_of stages.Ready side = side_mode side
mode_of stages.Ended side = modes.Ended
mode_of stages.Cancelled side = modes.Ended
mode_of _ side = modes.Login

abbrev pub session_mode : Session → Mode
session_mode x = if x.left then modes.Ended else mode_of x.stage x.side
