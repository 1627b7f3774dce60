-- Where each answer leads, by the request and the place that its answer has come to. Documentation: "Message Flow", "Simple Query",
-- "Extended Query", "Function Call", "COPY Operations".
use Rattle.pg_flow.specs.declared.answer.Answer.{Answer}
use Rattle.pg_flow.specs.declared.answer.Answer.TheVariants.{BindComplete, CloseComplete, CommandComplete, CopyBoth, CopyData, CopyDone, CopyIn, CopyOut, DataRow, EmptyQuery, FunctionResult, NoData, ParameterDescription, ParseComplete, PortalSuspended, Ready, RowDescription}
use Rattle.pg_flow.specs.declared.place.Place.{Place}
use Rattle.pg_flow.specs.declared.place.Place.TheVariants.{Asked, Both, BothDone, BothIn, BothOut, Failed, Given, Out, OutDone, Over, Parameters, Rows, Start, Value}
use Rattle.pg_flow.specs.declared.request.Request.{Request}
use Rattle.pg_flow.specs.declared.request.Request.TheVariants.{Bind, Call, Close, DescribePortal, DescribeStatement, Execute, Parse, Query, Sync}
use Rattle.pg_flow.specs.declared.table.Next.{Next}
use Rattle.pg_flow.specs.declared.table.Next.TheVariants.{At, Done, Wrong}

-- at the beginning of a statement of a Query
abbrev pub at_statement : Answer → Next
at_statement RowDescription = At Rows
at_statement CommandComplete = At Over
at_statement EmptyQuery = At Over
at_statement CopyOut = At Out
at_statement CopyIn = At Asked
at_statement CopyBoth = At Both
at_statement _ = Wrong

abbrev pub at_next_statement : Answer → Next
at_next_statement Ready = Done
at_next_statement m = at_statement m

abbrev pub at_row_sets : Answer → Next
at_row_sets RowDescription = At Rows
at_row_sets DataRow = At Rows
at_row_sets CommandComplete = At Over
at_row_sets _ = Wrong

-- data of a COPY to the client
abbrev pub at_data : Answer → Next
at_data CopyData = At Out
at_data CopyDone = At OutDone
at_data _ = Wrong

-- behind the data of a COPY in a Query: those of another, or rows, may come before the CommandComplete
abbrev pub at_last_rows : Answer → Next
at_last_rows RowDescription = At Rows
at_last_rows CommandComplete = At Over
at_last_rows _ = Wrong

abbrev pub at_next_copy : Answer → Next
at_next_copy CopyOut = At Out
at_next_copy m = at_last_rows m

-- the server's data of a COPY in both directions: where more of them lead, and where their end does
abbrev pub at_data_both : Place → Place → Answer → Next
at_data_both more end CopyData = At more
at_data_both more end CopyDone = At end
at_data_both more end _ = Wrong

-- only CommandComplete is left, which leads to `then`
abbrev pub at_complete : Next → Answer → Next
at_complete next CommandComplete = next
at_complete next _ = Wrong

abbrev pub at_ready : Answer → Next
at_ready Ready = Done
at_ready _ = Wrong

abbrev pub in_query : Place → Answer → Next
in_query Start m = at_statement m
in_query Over m = at_next_statement m
in_query Rows m = at_row_sets m
in_query Out m = at_data m
in_query OutDone m = at_next_copy m
in_query Given m = at_complete (At Over) m
in_query Both m = at_data_both Both BothIn m
in_query BothOut m = at_data_both BothOut BothDone m
in_query BothDone m = at_last_rows m
in_query Failed m = at_ready m
in_query _ _ = Wrong

abbrev pub at_portal : Answer → Next
at_portal DataRow = At Rows
at_portal CommandComplete = Done
at_portal PortalSuspended = Done
at_portal EmptyQuery = Done
at_portal CopyOut = At Out
at_portal CopyIn = At Asked
at_portal _ = Wrong

abbrev pub at_portal_rows : Answer → Next
at_portal_rows DataRow = At Rows
at_portal_rows CommandComplete = Done
at_portal_rows PortalSuspended = Done
at_portal_rows _ = Wrong

abbrev pub in_execute : Place → Answer → Next
in_execute Start m = at_portal m
in_execute Rows m = at_portal_rows m
in_execute Out m = at_data m
in_execute OutDone m = at_complete Done m
in_execute Given m = at_complete Done m
in_execute _ _ = Wrong

abbrev pub at_call : Answer → Next
at_call FunctionResult = At Value
at_call _ = Wrong

abbrev pub in_call : Place → Answer → Next
in_call Start m = at_call m
in_call Value m = at_ready m
in_call Failed m = at_ready m
in_call _ _ = Wrong

abbrev pub in_sync : Place → Answer → Next
in_sync Start m = at_ready m
in_sync Failed m = at_ready m
in_sync _ _ = Wrong

abbrev pub at_description : Answer → Next
at_description RowDescription = Done
at_description NoData = Done
at_description _ = Wrong

abbrev pub at_parameters : Answer → Next
at_parameters ParameterDescription = At Parameters
at_parameters _ = Wrong

abbrev pub in_statement : Place → Answer → Next
in_statement Start m = at_parameters m
in_statement Parameters m = at_description m
in_statement _ _ = Wrong

abbrev pub in_portal : Place → Answer → Next
in_portal Start m = at_description m
in_portal _ _ = Wrong

abbrev pub at_parsed : Answer → Next
at_parsed ParseComplete = Done
at_parsed _ = Wrong

abbrev pub at_bound : Answer → Next
at_bound BindComplete = Done
at_bound _ = Wrong

abbrev pub at_closed : Answer → Next
at_closed CloseComplete = Done
at_closed _ = Wrong

-- where the answer has one message, nothing came before it
abbrev pub only : Next → Place → Next
only next Start = next
only next _ = Wrong

abbrev pub next_of : Request → Place → Answer → Next
next_of Query place m = in_query place m
next_of Call place m = in_call place m
next_of Parse place m = only (at_parsed m) place
next_of Bind place m = only (at_bound m) place
next_of DescribeStatement place m = in_statement place m
next_of DescribePortal place m = in_portal place m
next_of Execute place m = in_execute place m
next_of Close place m = only (at_closed m) place
next_of Sync place m = in_sync place m
