use Rattle.std.proofs.Common.{length, sym, ap, ◌∙◌, arith}
use Rattle.pg_receive.specs.RowDescription.Columns.{column_of_ref}
use Rattle.pg_receive.proofs.RowDescriptionColumnsLemmas.{first_left, none_left_is_broken}
use Rattle.pg_receive.proofs.message.row_description.columns.ColumnsIterator.next.Goals as goal

pub returns-in_default-clause-steps : goal.returns-in_default-clause-steps
returns-in_default-clause-steps c = absurd (none_left_is_broken c.self.inside.columns c.next.new.self c.in_default.field-0 c.self.invariant c.in_default.ensures.fault)

pub invariant_of-self-2 : goal.invariant_of-self-2
invariant_of-self-2 c = (first_left c.self.inside.columns c.next.new.self (column_of_ref c.in_ok-column.column) c.self.invariant (rw c.in_ok-column.was at c.in-Ok.ensures.item)).1

pub returns-clause-steps : goal.returns-clause-steps
returns-clause-steps c = sym c.self.view_is ∙ (first_left c.self.inside.columns c.next.new.self (column_of_ref c.in_ok-column.column) c.self.invariant (rw c.in_ok-column.was at c.in-Ok.ensures.item)).0

pub returns-clause-goes : goal.returns-clause-goes
returns-clause-goes c =
    let first = sym c.self.view_is ∙ (first_left c.self.inside.columns c.next.new.self (column_of_ref c.in_ok-column.column) c.self.invariant (rw c.in_ok-column.was at c.in-Ok.ensures.item)).0 in
    record { on = λ _. (tt, tt, omega (arith, ap length first)); keeps = tt; rests = λ _. tt }
