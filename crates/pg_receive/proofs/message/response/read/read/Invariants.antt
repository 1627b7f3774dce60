use Rattle.std.proofs.Common.{length}
use Rattle.pg_receive.specs.Response.Fields.{fields_in}
use Rattle.pg_receive.specs.Response.FirstPlaces.{AreFirst}
use Rattle.pg_receive.proofs.ResponseReadLemmas.{Kept}
use Rattle.pg_receive.proofs.message.response.read.read.Given as goal

abbrev pub invariant-loop-letter : goal.invariant-loop-letter
invariant-loop-letter l = record {
  kept : Kept l.body l.rest l.part.message l.part.code l.part.severity l.part.localized;
  are : AreFirst l.body (fields_in l.rest) l.firsts.starts l.firsts.ends;
}

abbrev pub decreases-loop-letter : goal.decreases-loop-letter
decreases-loop-letter l = length l.rest
