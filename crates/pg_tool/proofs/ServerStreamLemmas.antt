-- A message that is taken from a stream leaves fewer bytes of it.
use Rattle.std.proofs.Common.{ℕ, ◌<◌, List, ◌++◌, length, ap, arith, length-append}
use Rattle.pg_frames.specs.declared.frontend.frame.Expects.{Expects}
use Rattle.pg_frames.specs.declared.frontend.frame.Expects.TheVariants as expects
use Rattle.pg_frames.specs.declared.frontend.message.ClientMessage.{ClientMessage}
use Rattle.pg_frames.specs.declared.frontend.message.ClientMessageKind.{ClientMessageKind}
use Rattle.pg_frames.specs.declared.frontend.message.ClientMessageKind.TheVariants as kinds
use Rattle.pg_frames.specs.Frontend.Frame.{BeginsWith}
use Rattle.pg_frames.specs.Frontend.Reader.{Reading, Takes}

rest_is_shorter : (limit : ℕ) (state : Expects) (bytes : List ℕ) (kind : ClientMessageKind) (body rest : List ℕ) (next : Expects) → BeginsWith limit state bytes kind body rest next → length rest < length bytes
rest_is_shorter limit expects.First bytes kinds.First body rest next p =
    omega (arith, ap length p.0.parts, length-append (p.0.field ++ body) rest, length-append p.0.field body, p.0.wide)
rest_is_shorter limit expects.First bytes (kinds.Tagged format) body rest next p = absurd p
rest_is_shorter limit expects.Tagged bytes kinds.First body rest next p = absurd p
rest_is_shorter limit expects.Tagged bytes (kinds.Tagged format) body rest next p =
    omega (arith, ap length p.0.parts, length-append (p.0.field ++ body) rest, length-append p.0.field body, p.0.wide)

pub leaves_fewer : (old : Reading) (message : ClientMessage) (new : Reading) → Takes old message new → length new.bytes < length old.bytes
leaves_fewer old message new p =
    rest_is_shorter old.limit old.expects old.bytes message.kind message.contents new.bytes new.expects p.begins
