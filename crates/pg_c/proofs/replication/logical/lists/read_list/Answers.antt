use Rattle.std.proofs.Common.{◌≤◌, length, refl, inr, arith}
use Rattle.std.proofs.lemmas.Result.{err_from_is_err_and}
use Rattle.pg_c.proofs.replication.logical.lists.read_list.Goals as goal

pub returns-in_err-give_items-clause-fault : goal.returns-in_err-give_items-clause-fault
returns-in_err-give_items-clause-fault g c =
    let p = err_from_is_err_and c.from_residual-in_err-give_items.result c.from_residual-in_err-give_items.ensures.1 in
    rw (p.1, p.2) (inr (c.in_ok-check_list.ensures.within, inr c.in_err-give_items.ensures.fault))

pub returns-in_err-give_items-clause-front : goal.returns-in_err-give_items-clause-front
returns-in_err-give_items-clause-front g c =
    let some = c.in_err-give_items.ensures.front in
    rw (err_from_is_err_and c.from_residual-in_err-give_items.result c.from_residual-in_err-give_items.ensures.1).1 (inr (some.index, some.end, some.gives))

pub returns-clause-items : goal.returns-clause-items
returns-clause-items g c =
    let gives = c.in_ok-give_items.ensures.items in
    let fits : c.args.list.at ≤ length c.args.content.now = omega (arith, c.in_ok-check_list.ensures.fits) in
    record {
      items = gives.items;
      stand = record { within = fits; stand = record { end = c.in_ok-give_items.field-0; read = gives.read } };
      count = refl;
      given = gives.given;
    }
