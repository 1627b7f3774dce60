use Rattle.std.proofs.Common.{length}
use Rattle.examples.proofs.CopyLoadLemmas.{Copied}
use Rattle.examples.proofs.copy_load.load.encode_rows.Given as goal

abbrev pub decreases-parts : goal.decreases-parts
decreases-parts l = length l.rest

abbrev pub invariant-parts : goal.invariant-parts
invariant-parts l = Copied l.most l.rows l.rest l.initial.output.items l.output.items
