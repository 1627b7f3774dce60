use Rattle.std.proofs.Common.{◌≡◌, ℕ, List, Result, Ok, Err, IfErr, arith}
use Rattle.pg_format.specs.Format.Lists.{times}
use Rattle.pg_format.specs.Format.Nullable.{value}
use Rattle.pg_server.specs.Frontend.Message.{HasFault}
use Rattle.pg_server.specs.declared.frontend.error.FrontendFault.{FrontendFault}
use Rattle.pg_c.specs.Read.{GivesItems}
use Rattle.pg_c.specs.Read.Row.{cell_in}
use Rattle.pg_c.specs.declared.read.row.PgmsgCell.{PgmsgCell}
use Rattle.pg_c.proofs.client.values.give_values.Goals as goal

-- a fault of the rest is one of all, whatever is in front
fault_of_all : (body : List ℕ) (start index count first : ℕ) (before middle : List PgmsgCell) (r : Result ℕ FrontendFault)
    → IfErr r (λ fault. (f : ℕ) (b : List PgmsgCell) → GivesItems value (cell_in body) body f start index b middle → HasFault (times count value) body f fault)
    → GivesItems value (cell_in body) body first start index before middle → IfErr r (HasFault (times count value) body first)
fault_of_all body start index count first before middle (Ok end) h front = tt
fault_of_all body start index count first before middle (Err fault) h front = h first before front

pub returns-then-index-count-clause-fault : goal.returns-then-index-count-clause-fault
returns-then-index-count-clause-fault c =
    let front = c.give_front-index in
    fault_of_all c.args.body.now front.result.1 front.result.0 c.args.count c.args.first c.args.values.now front.new.values c.give_rest.result c.give_rest.ensures.fault front.ensures.front

pub returns-clause-given : goal.returns-clause-given
returns-clause-given c =
    let front = c.give_front-index in
    let all : front.result.0 ≡ c.args.count = omega (arith, c.if-index-count.false, front.ensures.few) in
    rw (← all) front.ensures.front
