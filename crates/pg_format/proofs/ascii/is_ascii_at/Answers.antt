use Rattle.std.proofs.lemmas.Simd.{length-chunk}
use lib.Lanes.{chunk}
use Rattle.pg_format.proofs.AsciiLemmas.{lanes_tell}
use Rattle.pg_format.proofs.ascii.is_ascii_at.Goals as goal

pub returns : goal.returns
returns g c =
    let bytes = c.args.bytes.now in
    lanes_tell (chunk c.args.at g.row.N bytes) g.row.N (length-chunk c.args.at g.row.N bytes c.requires.room) c.requires.lanes
