use Rattle.std.proofs.Common.{refl}
use Rattle.std.proofs.lemmas.Iterator.Consumers.{nth_from_yields_List, YieldsList-from_first}
use Rattle.pg_replication.specs.Logical.Tuple.{datums, shown_datum}
use Rattle.pg_replication.proofs.logical.tuple.Tuple.get.Goals as goal

pub returns : goal.returns
returns c = nth_from_yields_List c.nth.result c.nth.new.self c.args.index c.nth.ensures.ran (YieldsList-from_first shown_datum datums (datums c.args.self.now) refl)
