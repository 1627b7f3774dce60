-- Which fault it is where a message can't be said, or can't come, now.
use Rattle.std.specs.Prelude.{ℕ, zero, suc, ◌==◌, Bool, true, false, List, [], ◌∷◌, Option, Some, None, if◌then◌else◌}
use Rattle.pg_flow.specs.declared.answer.Answer.{Answer}
use Rattle.pg_flow.specs.declared.client_message.ClientMessage.{ClientMessage}
use Rattle.pg_flow.specs.declared.client_message.ClientMessage.TheVariants.{DataEnd, Requests}
use Rattle.pg_flow.specs.declared.fault.Fault.TheVariants as faults
use Rattle.pg_flow.specs.declared.fault.Fault.{Fault}
use Rattle.pg_flow.specs.declared.place.Place.{Place}
use Rattle.pg_flow.specs.declared.place.Place.TheVariants.{Start}
use Rattle.pg_flow.specs.declared.request.Request.{Request}
use Rattle.pg_flow.specs.declared.server_message.ServerMessage.{ServerMessage}
use Rattle.pg_flow.specs.declared.server_message.ServerMessage.TheVariants.{Answering, Aside, Readiness}
use Rattle.pg_flow.specs.declared.answer.Answer.TheVariants.{Ready}
use Rattle.pg_flow.specs.declared.table.Next.{Next}
use Rattle.pg_flow.specs.declared.table.Next.TheVariants.{At}
use Rattle.pg_flow.specs.ClientFlow.{Client, Copying, Group, Plain, takes_data}
use Rattle.pg_flow.specs.ClientMessage.{client_message}
use Rattle.pg_flow.specs.Flow.{OfClient, OfServer, Session, Side, is_gone}
use Rattle.pg_flow.specs.Plain.{is_asked, is_open}
use Rattle.pg_flow.specs.ServerFlow.{Busy, Server}
use Rattle.pg_flow.specs.ServerMessage.{server_message}
use Rattle.pg_flow.specs.Stage.{is_ended, is_ready}
use Rattle.pg_flow.specs.Table.{next_of}

-- of a client that says a request, or the end of the data of a COPY

abbrev pub copying_fault : Place → Fault
copying_fault place = if is_asked place then faults.InCopy else faults.SyncFirst

abbrev pub say_fault : Client → Fault
say_fault (Plain s) = faults.InCopy
say_fault (Copying k rest place) = copying_fault place
say_fault (Group first l k rest skips) = faults.SyncFirst

abbrev pub end_fault : Client → Fault
end_fault c = if takes_data c then faults.NotRefusable else faults.NotInCopy

-- of a client that hears an answer

abbrev pub opens : Next → Bool
opens (At place) = is_open place
opens _ = false

abbrev pub first_fault : Answer → List Request → Place → Fault
first_fault m [] place = faults.Unasked
first_fault m (r ∷ rs) place = if opens (next_of r place m) then faults.BehindCopy else faults.NotAnAnswer

abbrev pub rest_fault : ℕ → List Request → Answer → Fault
rest_fault zero rest m = first_fault m rest Start
rest_fault (suc l) rest m = faults.NotAnAnswer

abbrev pub hear_fault : Answer → Client → Fault
hear_fault m (Plain s) = first_fault m s.queue s.place
hear_fault m (Copying k rest place) = faults.NotAnAnswer
hear_fault m (Group first l k rest skips) = rest_fault l rest m

-- of a server that takes a request, or the end of the data, and that gives an answer

abbrev pub take_fault : Server → Fault
take_fault (Busy r place quiet j) = if is_open place then faults.InCopy else faults.Busy
take_fault _ = faults.Busy

abbrev pub take_end_fault : Server → Fault
take_end_fault (Busy r place quiet j) = if is_open place then faults.NotRefusable else faults.Busy
take_end_fault _ = faults.Busy

abbrev pub tell_fault : Server → Fault
tell_fault (Busy r place quiet j) = faults.NotAnAnswer
tell_fault _ = faults.Unasked

-- of either side

abbrev pub side_said_fault : ClientMessage → Side → Fault
side_said_fault (Requests r) (OfClient c n) = say_fault c
side_said_fault (DataEnd b) (OfClient c n) = end_fault c
side_said_fault _ (OfClient c n) = faults.NotInCopy
side_said_fault (Requests r) (OfServer s k) = take_fault s
side_said_fault (DataEnd b) (OfServer s k) = take_end_fault s
side_said_fault _ (OfServer s k) = faults.Busy

abbrev pub side_heard_fault : Answer → Side → Fault
side_heard_fault m (OfClient c n) = hear_fault m c
side_heard_fault m (OfServer s k) = tell_fault s

-- of a session

abbrev pub asked_fault : Option ClientMessage → Side → Fault
asked_fault None side = faults.Unknown
asked_fault (Some m) side = side_said_fault m side

abbrev pub said_open_fault : ℕ → List ℕ → Session → Fault
said_open_fault tag first x =
    if is_ready x.stage then asked_fault (client_message tag first) x.side
    else if is_ended x.stage then faults.AfterEnd
    else faults.NotReady

abbrev pub said_fault : ℕ → List ℕ → Session → Fault
said_fault tag first x =
    if tag == 88 then faults.NotReady
    else if x.left then faults.AfterEnd
    else said_open_fault tag first x

abbrev pub answered_fault : Option ServerMessage → Side → Fault
answered_fault None side = faults.Unknown
answered_fault (Some (Answering m)) side = side_heard_fault m side
answered_fault (Some (Readiness status)) side = side_heard_fault Ready side
answered_fault (Some Aside) side = faults.Unknown

abbrev pub heard_open_fault : ℕ → List ℕ → Session → Fault
heard_open_fault tag first x =
    if is_ready x.stage then answered_fault (server_message tag first) x.side
    else if is_ended x.stage then faults.AfterEnd
    else faults.NotReady

abbrev pub heard_fault : ℕ → List ℕ → Session → Fault
heard_fault tag first x = if is_gone x then faults.AfterEnd else heard_open_fault tag first x
