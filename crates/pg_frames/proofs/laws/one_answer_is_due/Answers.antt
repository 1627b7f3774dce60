use Rattle.pg_frames.specs.Stream.{of_server}
use Rattle.pg_frames.proofs.FramingLemmas.{whole_wants_none, fault_not_whole, fault_wants_none, one_fault}
use Rattle.pg_frames.proofs.laws.one_answer_is_due.Goals as goal

pub returns-clause-whole : goal.returns-clause-whole
returns-clause-whole c = whole_wants_none of_server

pub returns-clause-fault : goal.returns-clause-fault
returns-clause-fault c = λ bytes fault f. (fault_not_whole of_server bytes fault f, fault_wants_none of_server bytes fault f)

pub returns-clause-one : goal.returns-clause-one
returns-clause-one c = one_fault of_server
