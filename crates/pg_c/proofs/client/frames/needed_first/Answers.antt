use Rattle.std.proofs.Common.{◌≡◌, pos, inl, inr, drop, arith, rules, ap, ◌∙◌}
use Rattle.std.specs.Prelude.{unsigned_abs}
use Rattle.std.specs.Int.{w32}
use Rattle.std.proofs.lemmas.Int.{to_z-of_z}
use mir.Val.{SFits}
use Rattle.pg_base.proofs.ReadingLemmas.{one_signed, signed_fits}
use Rattle.pg_c.proofs.client.frames.needed_first.Goals as goal

pub returns-in-Some : goal.returns-in-Some
returns-in-Some c = λ limit wants.
    let stream = c.args.stream.now in
    let z = c.in-Some.announced in
    let known = c.in-Some.ensures.known in
    let in_range : SFits w32 z = search rules in
    elim wants [
      | inl short ↦ absurd (omega (arith, short, signed_fits 4 stream z (drop 4 stream) known))
      | inr g ↦ inr (
          let is : z ≡ pos g.announced = (one_signed 4 stream z (pos g.announced) (drop 4 stream) g.announces.rest known g.announces.counted).0 in
          let count : c.unsigned_abs.result ≡ g.announced = c.unsigned_abs.ensures.value ∙ ap unsigned_abs (to_z-of_z w32 z in_range ∙ is) in
          rw count (record { announces = g.announces; least = g.least; most = g.most; short = g.short }))
    ]
