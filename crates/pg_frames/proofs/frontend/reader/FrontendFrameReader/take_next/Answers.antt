use Rattle.std.proofs.Common.{rules, ◌-◌, length, refl, sym}
use Rattle.pg_frames.specs.Frontend.Reader.{awaiting}
use Rattle.pg_frames.proofs.FrontendReaderLemmas.{takes}
use Rattle.pg_frames.proofs.frontend.reader.FrontendFrameReader.take_next.Goals as goal

pub returns-clause-message : goal.returns-clause-message
returns-clause-message c =
    let inside = c.self.inside in
    let stream = c.bytes-stream.result.now in
    let frame = c.in-Some.field-0 in
    let front = rw c.in-Some.is at c.in_ok-kind.ensures.whole in
    let left = c.take.new.self in
    takes c.args.self.now (awaiting inside.limit frame.next left) inside.limit inside.expects stream inside.block frame.kind frame.body.now frame.rest.now frame.next (length stream - length frame.rest.now) c.in_ok-contents.contents left (sym c.self.view_is) refl (search rules) front refl (search rules) (search rules)
