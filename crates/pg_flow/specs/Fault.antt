-- The words of a fault.
use Rattle.std.specs.Prelude.{ℕ, List, codes}
use Rattle.pg_flow.specs.declared.fault.Fault.{Fault}
use Rattle.pg_flow.specs.declared.fault.Fault.TheVariants as faults

abbrev pub fault_words : Fault → List ℕ
fault_words faults.Unknown = codes "no message of that side begins so"
fault_words faults.NotReady = codes "the login isn't over, and doesn't wait for this message"
fault_words faults.AfterEnd = codes "the session is over"
fault_words faults.InCopy = codes "the data of a COPY are to be given or refused first"
fault_words faults.NotInCopy = codes "no COPY takes data"
fault_words faults.NotRefusable = codes "the data of this COPY go both ways, and can't be refused"
fault_words faults.Unasked = codes "no request waits for an answer"
fault_words faults.Busy = codes "the server is answering another request"
fault_words faults.NotAnAnswer = codes "the message doesn't answer the request that waits"
fault_words faults.BehindCopy = codes "a COPY asks for data, and other requests were said behind it"
fault_words faults.SyncFirst = codes "a Sync is to be said first"
fault_words faults.Full = codes "there is no room for one more request"
