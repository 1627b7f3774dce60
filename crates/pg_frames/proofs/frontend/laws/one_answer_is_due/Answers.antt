use Rattle.pg_frames.proofs.FrontendFrameLemmas.{whole_wants_none, fault_not_whole, fault_wants_none, one_fault}
use Rattle.pg_frames.proofs.frontend.laws.one_answer_is_due.Goals as goal

pub returns-clause-whole : goal.returns-clause-whole
returns-clause-whole c = λ r. whole_wants_none r.limit r.expects r.bytes

pub returns-clause-fault : goal.returns-clause-fault
returns-clause-fault c = λ r fault f. (fault_not_whole r.limit r.expects r.bytes fault f, fault_wants_none r.limit r.expects r.bytes fault f)

pub returns-clause-one : goal.returns-clause-one
returns-clause-one c = λ r. one_fault r.limit r.expects r.bytes
