use Rattle.std.proofs.lemmas.Result.{err_from_is_err_and}
use Rattle.pg_replication.proofs.LogicalTupleLemmas.{begins, begins_not}
use Rattle.std.proofs.Common.{refl}
use Rattle.pg_replication.proofs.logical.old.OldOrNoneItem.item_at.Goals as goal

pub returns-then-branch-eq-NEW-clause-item : goal.returns-then-branch-eq-NEW-clause-item
returns-then-branch-eq-NEW-clause-item c =
    record { within = c.requires.within; reads = (begins 78 c.in_ok-u8_at.field-0 c.args.body.now c.args.at c.if-branch-eq-NEW.true c.in_ok-u8_at.ensures.found, refl) }

pub returns-in_err-old-clause-broken : goal.returns-in_err-old-clause-broken
returns-in_err-old-clause-broken c =
    let p = err_from_is_err_and c.from_residual-in_err-old.result c.from_residual-in_err-old.ensures.1 in
    rw (p.1, p.2) (begins_not 78 c.in_ok-u8_at.field-0 c.args.body.now c.args.at c.if-branch-eq-NEW.false c.in_ok-u8_at.ensures.found, c.in_err-old.ensures.broken)

pub returns-clause-item : goal.returns-clause-item
returns-clause-item c =
    let read = c.in_ok-old.ensures.item in
    record { within = read.within; reads = (begins_not 78 c.in_ok-u8_at.field-0 c.args.body.now c.args.at c.if-branch-eq-NEW.false c.in_ok-u8_at.ensures.found, read.reads) }
