-- What is left of an answer at each place.
use Rattle.pg_flow.specs.declared.answer.Answer.TheVariants.{CommandComplete, CopyData, CopyDone, Ready}
use Rattle.pg_flow.specs.declared.place.Place.{Place}
use Rattle.pg_flow.specs.declared.place.Place.TheVariants.{Asked, Both, BothDone, BothIn, BothOut, Failed, Given, Out, OutDone, Over, Parameters, Rows, Skipping, Start, Value, Withheld}
use Rattle.pg_flow.specs.declared.request.Request.{Request}
use Rattle.pg_flow.specs.declared.request.Request.TheVariants.{Call, DescribeStatement, Execute, Query}
use Rattle.pg_flow.specs.Grammar.{after_statement, begun, broken_copy, copy_out, description, failed, portal, row_set, rows, sets_end, whole}
use Rattle.pg_flow.specs.Pattern.{Either, Is, Many, Nothing, Pattern, Then}

-- the rest of a row set, and more of them
abbrev pub row_sets : Pattern
row_sets = Then rows (Many row_set)

abbrev pub data_end : Pattern
data_end = Then (Many (Is CopyData)) (Is CopyDone)

abbrev pub data_cut : Pattern
data_cut = Either (Many (Is CopyData)) data_end

-- what may come of a Query's COPY before it fails: of data to the client, once they are over, and of data in both directions
abbrev pub both_cut : Pattern
both_cut = Either (Many (Is CopyData)) (Then data_end (Many row_set))

abbrev pub copies_cut : Pattern
copies_cut = Either (Then (Then data_end (Many copy_out)) broken_copy) both_cut

abbrev pub done_cut : Pattern
done_cut = Either (Then (Many copy_out) broken_copy) (Many row_set)

abbrev pub rest_rows : Request → Pattern
rest_rows Query = Either (Then (Then row_sets (Is CommandComplete)) after_statement) (Then row_sets failed)
rest_rows Execute = portal
rest_rows _ = failed

abbrev pub rest_out : Request → Pattern
rest_out Query = Either (Then (Then (Then data_end (Many copy_out)) sets_end) after_statement) (Then copies_cut failed)
rest_out Execute = Then data_end (Is CommandComplete)
rest_out _ = failed

abbrev pub rest_out_done : Request → Pattern
rest_out_done Query = Either (Then (Then (Many copy_out) sets_end) after_statement) (Then done_cut failed)
rest_out_done Execute = Is CommandComplete
rest_out_done _ = failed

abbrev pub rest_both : Request → Pattern
rest_both Query = Either (Then (Then data_end sets_end) after_statement) (Then both_cut failed)
rest_both _ = failed

abbrev pub rest_both_done : Request → Pattern
rest_both_done Query = Either (Then sets_end after_statement) (Then (Many row_set) failed)
rest_both_done _ = failed

abbrev pub rest_complete : Request → Pattern
rest_complete Query = Either (Then (Is CommandComplete) after_statement) failed
rest_complete Execute = Is CommandComplete
rest_complete _ = failed

abbrev pub rest_over : Request → Pattern
rest_over Query = after_statement
rest_over _ = failed

abbrev pub rest_value : Request → Pattern
rest_value Call = Either (Is Ready) failed
rest_value _ = failed

abbrev pub rest_parameters : Request → Pattern
rest_parameters DescribeStatement = description
rest_parameters _ = failed

abbrev pub rest : Place → Request → Pattern
rest Start r = whole r
rest Over r = rest_over r
rest Rows r = rest_rows r
rest Out r = rest_out r
rest OutDone r = rest_out_done r
rest Both r = rest_both r
rest BothOut r = rest_both r
rest BothIn r = rest_both_done r
rest BothDone r = rest_both_done r
rest Asked r = rest_complete r
rest Given r = rest_complete r
rest Withheld r = rest_complete r
rest Parameters r = rest_parameters r
rest Value r = rest_value r
rest Failed r = Is Ready
rest Skipping r = failed

-- the same of an answer that fails
abbrev pub cut : Place → Request → Pattern
cut Start r = begun r
cut Rows r = rows
cut Out r = data_cut
cut _ r = Nothing
