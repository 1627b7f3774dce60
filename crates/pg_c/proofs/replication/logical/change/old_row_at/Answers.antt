use Rattle.pg_replication.specs.Logical.Old.{shown_old}
use Rattle.pg_c.proofs.LogicalGivenLemmas.{none_is_given, old_follows, old_is_given}
use Rattle.pg_c.proofs.replication.logical.change.old_row_at.Goals as goal

pub end_of_row-requires : goal.end_of_row-requires
end_of_row-requires c =
    let after = old_follows c.args.content.now c.args.at (shown_old c.in-Some.old) c.requires.within (rw c.in-Some.is at c.requires.reads) in
    record { within = after.0; short = c.requires.short; reads = after.1 }

pub returns-in-None : goal.returns-in-None
returns-in-None c = rw c.in-None.is (none_is_given c.args.content.now c.args.at c.requires.within)

pub returns-in-Some : goal.returns-in-Some
returns-in-Some c =
    rw (c.in-Some.is, c.row_at.ensures, c.row_of.ensures) (old_is_given c.args.content.now c.args.at c.end_of_row.result (shown_old c.in-Some.old) c.requires.within c.end_of_row.ensures)
