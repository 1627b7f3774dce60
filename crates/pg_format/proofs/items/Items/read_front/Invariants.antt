use Rattle.std.proofs.Common.{◌≡◌, ℕ, ◌+◌, ◌*◌, ◌≤◌, length}
use Rattle.pg_format.specs.Items.{AreKept}
use Rattle.pg_format.proofs.items.Items.read_front.Given as goal

abbrev pub invariant-loop-index : goal.invariant-loop-index
invariant-loop-index g l = record {
  within : l.at ≤ l.last;
  last : l.last + l.least * l.fn.self.left ≡ length l.fn.self.body + l.least * l.index;
  room : (more : ℕ) → more + l.index ≡ l.fn.self.left → g.K.Keeper.has_room l.to more;
  read : AreKept g.I.Item.format g.I.Item.shown g.K.Keeper.keeps l.fn.self.body l.fn.self.at l.index l.at l.fn.to l.to;
}
