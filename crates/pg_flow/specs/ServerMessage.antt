-- What a message of a server is to the flow, by its tag and the first bytes of its body. Documentation: "Message Formats".
use Rattle.std.specs.Prelude.{ℕ, ◌==◌, List, Option, Some, None, if◌then◌else◌, option_map}
use Rattle.pg_flow.specs.declared.answer.Answer.TheVariants.{BindComplete, CloseComplete, CommandComplete, CopyBoth, CopyData, CopyDone, CopyIn, CopyOut, DataRow, EmptyQuery, Failure, FunctionResult, NoData, ParameterDescription, ParseComplete, PortalSuspended, RowDescription}
use Rattle.pg_flow.specs.declared.server_message.ServerMessage.{ServerMessage}
use Rattle.pg_flow.specs.declared.server_message.ServerMessage.TheVariants.{Answering, Aside, Readiness}
use Rattle.pg_flow.specs.TransactionStatus.{status_of}

abbrev pub server_message : ℕ → List ℕ → Option ServerMessage
server_message tag first =
    if tag == 49 then Some (Answering ParseComplete)
    else if tag == 50 then Some (Answering BindComplete)
    else if tag == 51 then Some (Answering CloseComplete)
    else if tag == 116 then Some (Answering ParameterDescription)
    else if tag == 84 then Some (Answering RowDescription)
    else if tag == 110 then Some (Answering NoData)
    else if tag == 68 then Some (Answering DataRow)
    else if tag == 67 then Some (Answering CommandComplete)
    else if tag == 73 then Some (Answering EmptyQuery)
    else if tag == 115 then Some (Answering PortalSuspended)
    else if tag == 71 then Some (Answering CopyIn)
    else if tag == 72 then Some (Answering CopyOut)
    else if tag == 87 then Some (Answering CopyBoth)
    else if tag == 100 then Some (Answering CopyData)
    else if tag == 99 then Some (Answering CopyDone)
    else if tag == 86 then Some (Answering FunctionResult)
    else if tag == 69 then Some (Answering Failure)
    else if tag == 90 then option_map (λ status. Readiness status) (status_of first)
    else if tag == 78 then Some Aside
    else if tag == 65 then Some Aside
    else if tag == 83 then Some Aside
    else None
