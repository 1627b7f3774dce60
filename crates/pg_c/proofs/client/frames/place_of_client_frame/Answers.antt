use Rattle.std.proofs.Common.{refl}
use Rattle.pg_base.specs.Format.{frontend_tag}
use Rattle.pg_c.proofs.ClientFramesLemmas.{begins_tagged, tag_is}
use Rattle.pg_c.proofs.ReadFrameLemmas.{message_at}
use Rattle.pg_c.proofs.client.frames.place_of_client_frame.Goals as goal

pub returns : goal.returns
returns c =
    let stream = c.args.stream.now in
    let frame = c.args.frame.now in
    let known = begins_tagged stream frame.kind frame.body.now frame.rest.now frame.next c.requires in
    let first = tag_is stream (frontend_tag known.0) frame.body.now frame.rest.now known.1 in
    let found = message_at stream (frontend_tag known.0) frame.body.now frame.rest.now known.1 in
    record { format = known.0; tag = first; body = frame.body.now; begins = rw (first, found.1) known.1; place = found.0; all = refl }
