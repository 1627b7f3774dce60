-- The answers to each request, as the documentation's "Message Flow" has them: patterns, apart from the flow.
use Rattle.pg_flow.specs.declared.answer.Answer.TheVariants.{BindComplete, CloseComplete, CommandComplete, CopyBoth, CopyData, CopyDone, CopyIn, CopyOut, DataRow, EmptyQuery, Failure, FunctionResult, NoData, ParameterDescription, ParseComplete, PortalSuspended, Ready, RowDescription}
use Rattle.pg_flow.specs.declared.request.Request.{Request}
use Rattle.pg_flow.specs.declared.request.Request.TheVariants.{Bind, Call, Close, DescribePortal, DescribeStatement, Execute, Parse, Query, Sync}
use Rattle.pg_flow.specs.Pattern.{Either, Is, Many, Nothing, Pattern, Then}

abbrev pub rows : Pattern
rows = Many (Is DataRow)

-- a description and its rows; a statement with rules has several before its CommandComplete
abbrev pub row_set : Pattern
row_set = Then (Is RowDescription) rows

-- "COPY Operations"
abbrev pub copy_out : Pattern
copy_out = Then (Is CopyOut) (Then (Many (Is CopyData)) (Is CopyDone))

-- what the server gives of a COPY in both directions
abbrev pub copy_both : Pattern
copy_both = Then (Is CopyBoth) (Then (Many (Is CopyData)) (Is CopyDone))

abbrev pub sets_end : Pattern
sets_end = Then (Many row_set) (Is CommandComplete)

-- "Simple Query": a statement of a Query that went well. "Streaming Replication Protocol": a base backup may copy more than once, and
-- rows may come behind the data.
abbrev pub statement : Pattern
statement =
    Either sets_end (Either (Is EmptyQuery) (Either (Then (Then copy_out (Many copy_out)) sets_end) (Either (Then (Is CopyIn) (Is CommandComplete)) (Then copy_both sets_end))))

-- what came of a statement before it failed
abbrev pub broken_copy : Pattern
broken_copy = Either (Then (Is CopyOut) (Many (Is CopyData))) (Then copy_out (Many row_set))

abbrev pub broken_both : Pattern
broken_both = Either (Then (Is CopyBoth) (Many (Is CopyData))) (Then copy_both (Many row_set))

abbrev pub broken : Pattern
broken = Either (Many row_set) (Either (Then (Many copy_out) broken_copy) (Either (Is CopyIn) broken_both))

abbrev pub failed : Pattern
failed = Then (Is Failure) (Is Ready)

-- the rest of a Query's answer after a statement
abbrev pub after_statement : Pattern
after_statement = Then (Many statement) (Either (Is Ready) (Then broken failed))

abbrev pub query : Pattern
query = Either (Then statement after_statement) (Then broken failed)

-- "Extended Query": a portal's rows, to the end or to the limit
abbrev pub portal : Pattern
portal = Then rows (Either (Is CommandComplete) (Is PortalSuspended))

abbrev pub execute : Pattern
execute = Either portal (Either (Is EmptyQuery) (Either (Then copy_out (Is CommandComplete)) (Then (Is CopyIn) (Is CommandComplete))))

abbrev pub description : Pattern
description = Either (Is RowDescription) (Is NoData)

-- The whole answer to a request. "Function Call" has that to a Call. An error at a commit comes between the answer and
-- ReadyForQuery, and so after the result of a function too.
abbrev pub whole : Request → Pattern
whole Query = query
whole Call = Either (Then (Is FunctionResult) (Either (Is Ready) failed)) failed
whole Parse = Is ParseComplete
whole Bind = Is BindComplete
whole DescribeStatement = Then (Is ParameterDescription) description
whole DescribePortal = description
whole Execute = execute
whole Close = Is CloseComplete
whole Sync = Either (Is Ready) failed

-- what comes before the error, where a request of the extended protocol fails
abbrev pub begun : Request → Pattern
begun DescribeStatement = Either Nothing (Is ParameterDescription)
begun Execute = Either rows (Either (Then (Is CopyOut) (Many (Is CopyData))) (Either copy_out (Is CopyIn)))
begun _ = Nothing
