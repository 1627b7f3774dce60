-- What a message of a client is to the flow, by its tag and the first bytes of its body. Documentation: "Message Formats".
use Rattle.std.specs.Prelude.{ℕ, ◌==◌, true, false, List, [], ◌∷◌, Option, Some, None, if◌then◌else◌}
use Rattle.pg_flow.specs.declared.client_message.ClientMessage.{ClientMessage}
use Rattle.pg_flow.specs.declared.client_message.ClientMessage.TheVariants.{Data, DataEnd, Flush, Requests}
use Rattle.pg_flow.specs.declared.request.Request.TheVariants.{Bind, Call, Close, DescribePortal, DescribeStatement, Execute, Parse, Query, Sync}

-- a statement or a portal
abbrev pub described_as : ℕ → Option ClientMessage
described_as kind =
    if kind == 83 then Some (Requests DescribeStatement)
    else if kind == 80 then Some (Requests DescribePortal)
    else None

abbrev pub described : List ℕ → Option ClientMessage
described [] = None
described (kind ∷ bytes) = described_as kind

abbrev pub client_message : ℕ → List ℕ → Option ClientMessage
client_message tag first =
    if tag == 81 then Some (Requests Query)
    else if tag == 70 then Some (Requests Call)
    else if tag == 80 then Some (Requests Parse)
    else if tag == 66 then Some (Requests Bind)
    else if tag == 68 then described first
    else if tag == 69 then Some (Requests Execute)
    else if tag == 67 then Some (Requests Close)
    else if tag == 83 then Some (Requests Sync)
    else if tag == 100 then Some Data
    else if tag == 99 then Some (DataEnd true)
    else if tag == 102 then Some (DataEnd false)
    else if tag == 72 then Some Flush
    else None
