use Rattle.std.proofs.Common.{◌≡◌, ◌≤ℤ◌, ℤ, pos, negsuc, refl, sym, ap, ◌∙◌, arith, rules}
use Rattle.std.specs.Int.{w32}
use Rattle.std.proofs.lemmas.Int.{to_z-of_z, ints}
use mir.Val.{SFits, to_z, of_z}
use Rattle.pg_server.proofs.FrontendValuesLemmas.{null_stands, some_stands}
use Rattle.pg_server.proofs.frontend.values.value_at.Goals as goal

from_0 : (z : ℤ) → pos 0 ≤ℤ z → z ≡ pos (of_z w32 z)
from_0 (pos n) h = refl
from_0 (negsuc n) h = absurd (omega (arith, ints, h))

pub returns-then-length : goal.returns-then-length
returns-then-length c =
    let length = c.in_ok-length in
    let in_range : SFits w32 length.length = search rules in
    let null : length.length ≡ negsuc 0 = sym (to_z-of_z w32 length.length in_range) ∙ ap (to_z w32) c.if-length.true in
    null_stands c.args.body.now c.args.at length.start length.length null length.ensures

pub returns : goal.returns
returns c =
    let length = c.in_ok-length in
    let z = length.length in
    let in_range : SFits w32 z = search rules in
    let same : to_z w32 (of_z w32 z) ≡ z = to_z-of_z w32 z in_range in
    let positive : pos 0 ≤ℤ z = omega (arith, ints, c.if-length-lt0.false, same) in
    let is : z ≡ pos c.cast_unsigned.result = from_0 z positive ∙ ap (λ (x : ℤ). pos (of_z w32 x)) (sym same) ∙ ap pos (sym c.cast_unsigned.ensures) in
    some_stands c.args.body.now c.args.at length.start c.in_ok-value.end c.cast_unsigned.result z c.in_ok-value.value.now is length.ensures c.in_ok-value.ensures
