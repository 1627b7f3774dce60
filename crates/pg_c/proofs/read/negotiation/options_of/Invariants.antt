use Rattle.pg_format.specs.Format.Parts.{until_nul}
use Rattle.pg_c.specs.Place.{part}
use Rattle.pg_c.specs.Read.{GivesItems}
use Rattle.pg_c.proofs.read.negotiation.options_of.Given as goal

abbrev pub invariant-loop-index : goal.invariant-loop-index
invariant-loop-index l = GivesItems until_nul (part l.body) l.body 8 l.at l.index l.fn.options l.options
