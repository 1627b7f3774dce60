-- Places, stages, modes and the like as numbers, for a flow of fixed size.
use Rattle.std.specs.Prelude.{ℕ, ◌==◌, true, false, Option, Some, None, if◌then◌else◌}
use Rattle.pg_flow.specs.declared.mode.Mode.TheVariants as modes
use Rattle.pg_flow.specs.declared.place.Place.TheVariants as places
use Rattle.pg_flow.specs.declared.request.Request.TheVariants as requests
use Rattle.pg_flow.specs.declared.stage.Stage.TheVariants as stages
use Rattle.pg_flow.specs.declared.mode.Mode.{Mode}
use Rattle.pg_flow.specs.declared.place.Place.{Place}
use Rattle.pg_flow.specs.declared.request.Request.{Request}
use Rattle.pg_flow.specs.declared.stage.Stage.{Stage}

abbrev pub stage_as : ℕ → Stage
stage_as number =
    if number == 0 then stages.Opening false false false
    else if number == 1 then stages.Opening true false false
    else if number == 2 then stages.Opening false true false
    else if number == 3 then stages.Opening true true false
    else if number == 4 then stages.Opening false false true
    else if number == 5 then stages.Opening true false true
    else if number == 6 then stages.Opening false true true
    else if number == 7 then stages.Opening true true true
    else if number == 8 then stages.SslRequested false
    else if number == 9 then stages.SslRequested true
    else if number == 10 then stages.GssRequested false
    else if number == 11 then stages.GssRequested true
    else if number == 12 then stages.Cancelled
    else if number == 13 then stages.Started
    else if number == 14 then stages.Negotiated
    else if number == 15 then stages.PasswordAsked
    else if number == 16 then stages.PasswordGiven
    else if number == 17 then stages.OutsideAsked
    else if number == 18 then stages.GssAsked
    else if number == 19 then stages.GssGiven
    else if number == 20 then stages.GssContinued
    else if number == 21 then stages.SaslOffered
    else if number == 22 then stages.ScramBegun
    else if number == 23 then stages.ScramChallenged
    else if number == 24 then stages.ScramProved
    else if number == 25 then stages.SaslGiven
    else if number == 26 then stages.SaslChallenged
    else if number == 27 then stages.Verified
    else if number == 28 then stages.Accepted false
    else if number == 29 then stages.Accepted true
    else if number == 30 then stages.Ready
    else stages.Ended

abbrev pub place_as : ℕ → Place
place_as number =
    if number == 0 then places.Start
    else if number == 1 then places.Over
    else if number == 2 then places.Rows
    else if number == 3 then places.Out
    else if number == 4 then places.OutDone
    else if number == 5 then places.Asked
    else if number == 6 then places.Given
    else if number == 7 then places.Withheld
    else if number == 8 then places.Parameters
    else if number == 9 then places.Value
    else if number == 10 then places.Failed
    else if number == 11 then places.Skipping
    else if number == 12 then places.Both
    else if number == 13 then places.BothIn
    else if number == 14 then places.BothOut
    else places.BothDone

abbrev pub request_as : ℕ → Request
request_as number =
    if number == 1 then requests.Query
    else if number == 2 then requests.Call
    else if number == 3 then requests.Parse
    else if number == 4 then requests.Bind
    else if number == 5 then requests.DescribeStatement
    else if number == 6 then requests.DescribePortal
    else if number == 7 then requests.Execute
    else if number == 8 then requests.Close
    else requests.Sync

-- 0 is no request
abbrev pub asked : ℕ → Option Request
asked number = if number == 0 then None else Some (request_as number)

-- as in the header
abbrev pub mode_number : Mode → ℕ
mode_number modes.Login = 0
mode_number modes.Idle = 1
mode_number modes.Busy = 2
mode_number modes.CopyIn = 3
mode_number modes.CopyOut = 4
mode_number modes.CopyBoth = 5
mode_number modes.Skipping = 6
mode_number modes.Ended = 7
