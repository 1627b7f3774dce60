use Rattle.std.proofs.Common.{◌≡◌, pos, inl, inr, arith, rules, ap, ◌∙◌}
use Rattle.std.specs.Prelude.{unsigned_abs}
use Rattle.std.specs.Int.{w32}
use Rattle.std.proofs.lemmas.Int.{to_z-of_z}
use mir.Val.{SFits}
use Rattle.pg_frames.proofs.FramingLemmas.{one_announced, announces_fits}
use Rattle.pg_c.proofs.read.frame.needed.Goals as goal

pub returns-in-Some : goal.returns-in-Some
returns-in-Some c =
    let stream = c.args.stream.now in
    let head = c.in-Some.head in
    let z = head.announced in
    let in_range : SFits w32 z = search rules in
    elim c.requires [
      | inl short ↦ absurd (omega (arith, short, announces_fits stream head.tag z c.in-Some.ensures.known))
      | inr g ↦ inr (
          let is : z ≡ pos g.announced = (one_announced stream head.tag g.tag z (pos g.announced) c.in-Some.ensures.known g.announces).1 in
          let count : c.unsigned_abs.result ≡ g.announced = c.unsigned_abs.ensures.value ∙ ap unsigned_abs (to_z-of_z w32 z in_range ∙ is) in
          record { tag = g.tag; announced = g.announced; announces = g.announces; least = g.least; short = g.short; all = omega (arith, count) })
    ]
