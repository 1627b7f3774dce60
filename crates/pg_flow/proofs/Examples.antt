-- Sessions that are taken, so that the theorems speak of some.
use Rattle.std.proofs.Common.{◌≡◌, [], ◌∷◌, refl, true, false}
use Rattle.pg_flow.specs.declared.answer.Answer.TheVariants.{BindComplete, CommandComplete, CopyBoth, CopyData, CopyDone, CopyIn, DataRow, Failure, ParseComplete, Ready, RowDescription}
use Rattle.pg_flow.specs.declared.place.Place.TheVariants.{Over, Start}
use Rattle.pg_flow.specs.declared.request.Request.TheVariants.{Bind, Execute, Parse, Query, Sync}
use Rattle.pg_flow.specs.ClientFlow.{Group, Plain}
use Rattle.pg_flow.specs.Plain.{state}
use Rattle.pg_flow.specs.Sessions.{Ended, Got, IsTaken, Sent}
use Rattle.pg_flow.specs.World.{Answers, Behind_copy, Ends_data, Fine, Hears, Says, Takes, at_first, schedule}

-- two pipelines at once, of which the first fails at its Bind
failing_pipeline : IsTaken (Sent Parse ∷ Sent Bind ∷ Sent Execute ∷ Sent Sync ∷ Sent Parse ∷ Got ParseComplete ∷ Got Failure ∷ Sent Bind ∷ Got Ready
    ∷ Sent Execute ∷ Got ParseComplete ∷ Got BindComplete ∷ Sent Sync ∷ Got DataRow ∷ Got DataRow ∷ Got CommandComplete ∷ Got Ready ∷ [])
failing_pipeline = refl

-- a Query whose second statement is a COPY
copying : IsTaken (Sent Query ∷ Got RowDescription ∷ Got DataRow ∷ Got CommandComplete ∷ Got CopyIn ∷ Ended true ∷ Got CommandComplete ∷ Got Ready ∷ [])
copying = refl

-- a replication that the client ends, and one that fails
replicating : IsTaken (Sent Query ∷ Got CopyBoth ∷ Got CopyData ∷ Ended true ∷ Got CopyData ∷ Got CopyDone ∷ Got CommandComplete ∷ Got CommandComplete ∷ Got Ready
    ∷ Sent Query ∷ Got CopyBoth ∷ Got Failure ∷ Got Ready ∷ [])
replicating = refl

-- the server ends its data while the end of the client's is on its way
both_end : (schedule (Says Query ∷ Takes ∷ Answers CopyBoth ∷ Hears ∷ Ends_data true ∷ Answers CopyDone ∷ Hears ∷ Says Query ∷ Takes ∷ Answers CommandComplete ∷ Hears ∷ Answers Ready ∷ Hears ∷ Takes
    ∷ Answers CommandComplete ∷ Hears ∷ []) at_first).client ≡ Plain (state (Query ∷ []) Over)
both_end = refl

-- an answer that is heard after more was said, and taken as the first one's
in_flight : (schedule (Says Query ∷ Takes ∷ Says Query ∷ Answers RowDescription ∷ Says Sync ∷ Answers Failure ∷ Hears ∷ Answers Ready ∷ Takes ∷ Hears ∷ Hears
    ∷ Answers CommandComplete ∷ Hears ∷ Answers Ready ∷ Takes ∷ Answers Ready ∷ Hears ∷ Hears ∷ []) at_first).client ≡ Plain (state [] Start)
in_flight = refl

behind : (schedule (Says Query ∷ Takes ∷ Says Query ∷ Answers CopyIn ∷ Hears ∷ []) at_first).outcome ≡ Behind_copy
behind = refl

-- the data of a COPY end while more is on its way
copied : (schedule (Says Query ∷ Takes ∷ Answers CopyIn ∷ Hears ∷ Ends_data true ∷ Says Sync ∷ Takes ∷ Answers CommandComplete ∷ Hears ∷ Answers Ready ∷ Takes
    ∷ Answers Ready ∷ Hears ∷ Hears ∷ []) at_first).client ≡ Plain (state [] Start)
copied = refl

-- the server fails a COPY before it takes the end of its data
stale : (schedule (Says Execute ∷ Takes ∷ Answers CopyIn ∷ Hears ∷ Ends_data true ∷ Answers Failure ∷ Says Sync ∷ Hears ∷ Takes ∷ Takes ∷ Answers Ready ∷ Hears ∷ []) at_first).client
    ≡ Plain (state [] Start)
stale = refl

-- Execute, Sync, data, Sync: the server fails after it read the first Sync as data, so one ReadyForQuery comes; a Query is said
-- while it isn't known whether another will
one_ready : (schedule (Says Execute ∷ Says Sync ∷ Takes ∷ Answers CopyIn ∷ Hears ∷ Ends_data true ∷ Says Sync ∷ Takes ∷ Answers Failure ∷ Hears ∷ Takes ∷ Takes ∷ Answers Ready ∷ Hears
    ∷ Says Query ∷ []) at_first).client ≡ Group 1 0 0 (Query ∷ []) false
one_ready = refl

-- its answer shows that none will
then_query : (schedule (Says Execute ∷ Says Sync ∷ Takes ∷ Answers CopyIn ∷ Hears ∷ Ends_data true ∷ Says Sync ∷ Takes ∷ Answers Failure ∷ Hears ∷ Takes ∷ Takes ∷ Answers Ready ∷ Hears
    ∷ Says Query ∷ Takes ∷ Answers CommandComplete ∷ Hears ∷ Answers Ready ∷ Hears ∷ []) at_first).client ≡ Plain (state [] Start)
then_query = refl

-- the same, where the server fails before it reads on: two come
two_ready : (schedule (Says Execute ∷ Says Sync ∷ Takes ∷ Answers CopyIn ∷ Answers Failure ∷ Hears ∷ Ends_data true ∷ Says Sync ∷ Hears ∷ Takes ∷ Answers Ready ∷ Takes ∷ Takes ∷ Hears ∷ Answers Ready ∷ Hears
    ∷ []) at_first).client ≡ Plain (state [] Start)
two_ready = refl

-- the COPY is complete: the first Sync has no answer
whole_copy : (schedule (Says Execute ∷ Takes ∷ Answers CopyIn ∷ Hears ∷ Says Sync ∷ Ends_data true ∷ Says Sync ∷ Takes ∷ Takes ∷ Answers CommandComplete ∷ Takes ∷ Answers Ready ∷ Hears ∷ Hears
    ∷ Says Query ∷ []) at_first).client ≡ Plain (state (Query ∷ []) Start)
whole_copy = refl

all_fine : (schedule (Says Execute ∷ Says Sync ∷ Takes ∷ Answers CopyIn ∷ Answers Failure ∷ Hears ∷ Ends_data true ∷ Says Sync ∷ Hears ∷ Takes ∷ Answers Ready ∷ Takes ∷ Takes ∷ Hears ∷ Answers Ready ∷ Hears
    ∷ []) at_first).outcome ≡ Fine
all_fine = refl
