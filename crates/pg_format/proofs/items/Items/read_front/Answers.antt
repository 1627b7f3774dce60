use Rattle.std.proofs.Common.{◌≡◌, suc, ◌-◌, ◌*◌, ◌≤◌, length, refl, ap, arith}
use Rattle.pg_format.specs.Items.{Reading}
use Rattle.pg_format.proofs.ItemsLemmas.{none_kept, one_more_kept, one_more_times}
use Rattle.pg_format.proofs.items.Items.read_front.Goals as goal

pub loop-index-init : goal.loop-index-init
loop-index-init g c =
    let r = c.args.self.now in
    let n = c.args.least in
    let within : r.at ≤ length r.body = rw (← c.self.view_is) c.self.invariant.0 in
    let at : c.self.inside.at ≡ r.at = ap (λ (v : Reading). v.at) c.self.view_is in
    let all : n * c.self.inside.left ≡ n * r.left = ap (λ (v : Reading). n * v.left) c.self.view_is in
    let body : length c.self.inside.body.now ≡ length r.body = ap (λ (v : Reading). length v.body) c.self.view_is in
    record {
      within = omega (arith, at, all, body, c.requires.fits);
      last = omega (arith, at, all, body, c.requires.fits);
      room = λ more e. let some : more ≡ r.left = omega (arith, e) in rw some c.requires.room;
      read = rw at (none_kept g.I.Item.format g.I.Item.shown g.K.Keeper.keeps r.body r.at c.args.to.now within);
    }

pub keep-requires : goal.keep-requires
keep-requires g c κs =
    let left : c.self.inside.left ≡ c.args.self.now.left = ap (λ (v : Reading). v.left) c.self.view_is in
    let more = c.args.self.now.left - suc c.loop-index.index in (
      (refl, tt),
      (
        (more, c.loop-index.invariant.room (suc more) (omega (arith, c.loop-index-test.true, left))),
        (c.self.inside.body.now, c.self.invariant.1, c.in-Some.ensures.item),
      ),
    )

pub loop-index-preserved : goal.loop-index-preserved
loop-index-preserved g c =
    let r = c.args.self.now in
    let n = c.args.least in
    let loop = c.loop-index in
    let body : c.self.inside.body.now ≡ r.body = ap (λ (v : Reading). v.body) c.self.view_is in
    let found = rw body at c.in-Some.ensures.item in
    record {
      within = c.in-Some.ensures.within;
      last = omega (arith, loop.invariant.last, one_more_times n loop.index);
      room = λ more e. c.keep.ensures.room more (loop.invariant.room (suc more) (omega (arith, e)));
      read = one_more_kept g.I.Item.format g.I.Item.shown g.K.Keeper.keeps r.body r.at loop.index loop.at c.in-Some.end c.args.to.now loop.to c.keep.new.self c.in-Some.item loop.invariant.read found c.keep.ensures.kept;
    }
