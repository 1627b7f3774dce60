use Rattle.pg_frames.proofs.FrontendReaderLemmas.{whole_due, partial_due, fault_due}
use Rattle.pg_frames.proofs.frontend.reader.FrontendFrameReader.next_message.Goals as goal

pub returns-clause-whole_due : goal.returns-clause-whole_due
returns-clause-whole_due c = whole_due c.args.self.now c.take_next.new.self c.take_next.result c.take_next.ensures.partial c.take_next.ensures.error

pub returns-clause-partial_due : goal.returns-clause-partial_due
returns-clause-partial_due c = partial_due c.args.self.now c.take_next.new.self c.take_next.result c.take_next.ensures.message c.take_next.ensures.error

pub returns-clause-fault_due : goal.returns-clause-fault_due
returns-clause-fault_due c = fault_due c.args.self.now c.take_next.new.self c.take_next.result c.take_next.ensures.message c.take_next.ensures.partial c.take_next.ensures.error
