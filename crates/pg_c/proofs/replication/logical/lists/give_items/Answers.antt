use Rattle.pg_c.proofs.LogicalListsLemmas.{fault_of_all}
use Rattle.pg_c.proofs.replication.logical.lists.give_items.Goals as goal

pub returns-then-index-list-clause-fault : goal.returns-then-index-list-clause-fault
returns-then-index-list-clause-fault g c =
    let front = c.give_front-index in
    fault_of_all g.P.Place.format g.P.Place.item_in c.args.content.now c.args.list front.result.1 front.result.0 c.args.to.now front.new.to c.give_rest.result c.give_rest.ensures.fault front.ensures.front
