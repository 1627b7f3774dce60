use Rattle.std.proofs.Common.{length, drop}
use Rattle.pg_c.proofs.ClientStartupLemmas.{GivesSettings}
use Rattle.pg_c.proofs.client.startup.pgmsg_read_settings.Given as goal

abbrev pub invariant-loop-name : goal.invariant-loop-name
invariant-loop-name l = GivesSettings l.body (drop 4 l.body) l.rest l.at l.count l.fn.settings l.settings

abbrev pub decreases-loop-name : goal.decreases-loop-name
decreases-loop-name l = length l.rest
