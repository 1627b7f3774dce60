use Rattle.pg_frames.specs.Stream.Raw.{of_any}
use Rattle.pg_frames.proofs.FramingLemmas.{whole_wants_none, low_not_whole, low_wants_none, one_low}
use Rattle.pg_frames.proofs.laws.raw.one_answer_is_due.Goals as goal

pub returns-clause-whole : goal.returns-clause-whole
returns-clause-whole c = whole_wants_none of_any

pub returns-clause-fault : goal.returns-clause-fault
returns-clause-fault c = λ bytes fault f. (low_not_whole of_any bytes fault f, low_wants_none of_any bytes fault f)

pub returns-clause-one : goal.returns-clause-one
returns-clause-one c = one_low of_any
