use Rattle.std.proofs.Common.{◌≡◌, suc, ◌-◌, ◌≤◌, length, map, refl, ap, arith}
use Rattle.std.proofs.lemmas.Result.{err_from_is_err_and}
use Rattle.pg_format.specs.Items.{Reading, IsFaultLeft}
use Rattle.pg_format.proofs.ItemsLemmas.{fault_left, none_kept, one_more_kept, all_read, fault_read}
use Rattle.pg_format.proofs.items.Items.read_all.Goals as goal

pub loop-index-init : goal.loop-index-init
loop-index-init g c =
    let r = c.args.self.now in
    let within : r.at ≤ length r.body = rw (← c.self.view_is) c.self.invariant.0 in
    let at : c.self.inside.at ≡ r.at = ap (λ (v : Reading). v.at) c.self.view_is in
    record {
      within = rw at within;
      room = λ more e. let all : more ≡ r.left = omega (arith, e) in rw all c.requires.room;
      read = rw at (none_kept g.I.Item.format g.I.Item.shown g.K.Keeper.keeps r.body r.at c.args.keeper.now within);
    }

pub item_at-requires : goal.item_at-requires
item_at-requires g c κs =
    let body : c.self.inside.body.now ≡ c.args.self.now.body = ap (λ (v : Reading). v.body) c.self.view_is in
    ((refl, tt), (rw body c.loop-index.invariant.within, c.self.invariant.1))

pub returns-in_err-item-clause-all : goal.returns-in_err-item-clause-all
returns-in_err-item-clause-all g c =
    let p = err_from_is_err_and c.from_residual.result c.from_residual.ensures.1 in
    let loop = c.loop-index in
    let r = c.args.self.now in
    let body : c.self.inside.body.now ≡ r.body = ap (λ (v : Reading). v.body) c.self.view_is in
    let left : c.self.inside.left ≡ r.left = ap (λ (v : Reading). v.left) c.self.view_is in
    let breaks : IsFaultLeft g.I.Item.format r c.in_err-item.field-0.0 =
    fault_left g.I.Item.format r loop._index loop.at (map g.I.Item.shown loop.invariant.read.items) c.in_err-item.field-0.0 loop.invariant.read.read
    (omega (arith, c.loop-index-test.true, left)) (rw (← body) c.in_err-item.ensures.broken) in
    rw (p.1, p.2) breaks

pub returns-in_err-item-clause-body : goal.returns-in_err-item-clause-body
returns-in_err-item-clause-body g c =
    let p = err_from_is_err_and c.from_residual.result c.from_residual.ensures.1 in
    let loop = c.loop-index in
    let r = c.args.self.now in
    let body : c.self.inside.body.now ≡ r.body = ap (λ (v : Reading). v.body) c.self.view_is in
    let left : c.self.inside.left ≡ r.left = ap (λ (v : Reading). v.left) c.self.view_is in
    let breaks : IsFaultLeft g.I.Item.format r c.in_err-item.field-0.0 =
    fault_left g.I.Item.format r loop._index loop.at (map g.I.Item.shown loop.invariant.read.items) c.in_err-item.field-0.0 loop.invariant.read.read
    (omega (arith, c.loop-index-test.true, left)) (rw (← body) c.in_err-item.ensures.broken) in
    rw (p.1, p.2) (λ least list begins. fault_read g.I.Item.format least list r c.in_err-item.field-0.0 begins breaks)

pub keep-requires : goal.keep-requires
keep-requires g c κs =
    let left : c.self.inside.left ≡ c.args.self.now.left = ap (λ (v : Reading). v.left) c.self.view_is in
    let more = c.args.self.now.left - suc c.loop-index._index in (
      (refl, tt),
      (
        (more, c.loop-index.invariant.room (suc more) (omega (arith, c.loop-index-test.true, left))),
        (c.self.inside.body.now, c.self.invariant.1, c.in_ok-item.ensures.item),
      ),
    )

pub loop-index-preserved : goal.loop-index-preserved
loop-index-preserved g c =
    let r = c.args.self.now in
    let loop = c.loop-index in
    let body : c.self.inside.body.now ≡ r.body = ap (λ (v : Reading). v.body) c.self.view_is in
    let found = rw body at c.in_ok-item.ensures.item in
    record {
      within = found.within;
      room = λ more e. c.keep.ensures.room more (loop.invariant.room (suc more) (omega (arith, e)));
      read = one_more_kept g.I.Item.format g.I.Item.shown g.K.Keeper.keeps r.body r.at loop._index loop.at c.in_ok-item.end c.args.keeper.now loop.keeper c.keep.new.self c.in_ok-item.item loop.invariant.read found c.keep.ensures.kept;
    }

pub returns-clause-all : goal.returns-clause-all
returns-clause-all g c =
    let loop = c.loop-index in
    let left : c.self.inside.left ≡ c.args.self.now.left = ap (λ (v : Reading). v.left) c.self.view_is in
    let all : loop._index ≡ c.args.self.now.left = omega (arith, c.loop-index-test.false, loop.auto._index-end, left) in
    rw all at loop.invariant.read

pub returns-clause-body : goal.returns-clause-body
returns-clause-body g c =
    let loop = c.loop-index in
    let left : c.self.inside.left ≡ c.args.self.now.left = ap (λ (v : Reading). v.left) c.self.view_is in
    let all : loop._index ≡ c.args.self.now.left = omega (arith, c.loop-index-test.false, loop.auto._index-end, left) in
    let kept = loop.invariant.read in
    λ least body begins. record {
      value = map g.I.Item.shown kept.items;
      read = all_read g.I.Item.format least body c.args.self.now (map g.I.Item.shown kept.items) loop.at begins (rw all at kept.read);
    }
