use Rattle.std.proofs.Common.{◌≡◌, ◌-◌, refl, ap, arith}
use Rattle.pg_format.specs.Items.{Reading}
use Rattle.pg_format.proofs.ItemsLemmas.{then_the_rest}
use Rattle.pg_format.proofs.items.Items.read_all_quickly.Goals as goal

pub returns-then-index-self : goal.returns-then-index-self
returns-then-index-self g c =
    let r = c.args.self.now in
    let body : c.self.inside.body.now ≡ r.body = ap (λ (v : Reading). v.body) c.self.view_is in
    let left : c.self.inside.left ≡ r.left = ap (λ (v : Reading). v.left) c.self.view_is in
    let front = c.read_front-index in
    let more = c.self.inside.left - front.result.0 in
    let rest = rw body at c.read_rest.ensures in
    then_the_rest g.I.Item.format g.I.Item.shown g.K.Keeper.keeps r.body r front.result.0 front.result.1 more c.args.keeper.now front.new.to c.read_rest.new.keeper c.read_rest.result
    refl (omega (arith, left, c.if-index-self.true)) front.ensures.front rest
