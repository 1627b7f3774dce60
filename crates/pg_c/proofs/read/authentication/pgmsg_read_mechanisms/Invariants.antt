use Rattle.std.proofs.Common.{length, drop}
use Rattle.pg_receive.specs.Authentication.Mechanisms.{raw_mechanisms_in}
use Rattle.pg_c.proofs.ReadAuthenticationLemmas.{GivesNames}
use Rattle.pg_c.proofs.read.authentication.pgmsg_read_mechanisms.Given as goal

abbrev pub invariant-loop-name : goal.invariant-loop-name
invariant-loop-name l = GivesNames raw_mechanisms_in l.body (drop 4 l.body) l.rest l.at l.count l.fn.mechanisms l.mechanisms

abbrev pub decreases-loop-name : goal.decreases-loop-name
decreases-loop-name l = length l.rest
