use Rattle.std.proofs.Common.{rules, ◌-◌, length, refl}
use Rattle.pg_base.specs.Format.{backend_tag}
use Rattle.pg_frames.proofs.StreamLemmas.{taken_from}
use Rattle.pg_frames.proofs.reader.FrameReader.take_next.Goals as goal

pub returns-clause-message : goal.returns-clause-message
returns-clause-message c =
    let stream = c.bytes-stream.result.now in
    let frame = c.in-Some.field-0 in
    let front = rw c.in-Some.is at c.in_ok-format.ensures.whole in
    taken_from c.args.self.now stream c.in_ok-contents.contents c.take.new.self (backend_tag frame.format) frame.body.now frame.rest.now (length stream - length frame.rest.now) front refl (search rules) (search rules) (search rules)
