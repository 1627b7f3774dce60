use Rattle.std.proofs.Common.{◌≡◌, ◌+◌, ◌-◌, ◌^◌, ◌<◌, ◌≤◌, ℕ, ℤ, pos, negsuc, List, length, take, drop, sym, ap, ◌∙◌, arith, rules, to_z, of_z}
use Rattle.std.specs.Prelude.{slice_range}
use Rattle.std.specs.Int.{w32}
use Rattle.std.proofs.lemmas.Int.{to_z-of_z, to_z_pos}
use Rattle.byteorder.specs.Endian.{big_number}
use mir.Val.{SFits}
use Rattle.pg_base.specs.Reading.{Signed}
use Rattle.pg_base.proofs.NumbersLemmas.{AreBytes, bytes_within, wide_enough, signed_value_4, signed_at}
use Rattle.pg_c.proofs.ClientValuesLemmas.{null_finds, some_finds}
use Rattle.pg_c.proofs.client.values.value_until.Goals as goal

-- the length that begins a value
length_at : (body : List ℕ) (at : ℕ) (z : ℤ) → at + 4 ≤ length body → AreBytes body → SFits w32 z → z ≡ to_z w32 (big_number 4 (slice_range body at (at + 4)))
    → Signed 4 (drop at body) z (drop (at + 4) body)
length_at body at z fits bytes in_range e =
    let count : at + 4 - at ≡ 4 = omega arith in
    let is : z ≡ to_z w32 (big_number 4 (take 4 (drop at body))) = rw count at e in
    let value = signed_value_4 (take 4 (drop at body)) z (wide_enough body at 4 fits) (bytes_within at 4 body bytes) is in
    signed_at body at 4 z fits (sym (to_z-of_z w32 z in_range) ∙ value)

pub returns-then-length-clause-value : goal.returns-then-length-clause-value
returns-then-length-clause-value c =
    let body = c.args.body.now in
    let at = c.args.at in
    let z = c.read_i32-length.result in
    let in_range : SFits w32 z = search rules in
    let null : z ≡ negsuc 0 = sym (to_z-of_z w32 z in_range) ∙ ap (to_z w32) c.if-length.true in
    let fits : at + 4 ≤ length body = omega (arith, c.requires.length, c.requires.within) in
    let spelled = length_at body at z fits (λ i. omega (arith, c.type_inv.body i)) in_range c.read_i32-length.ensures in
    null_finds body at fits (rw null at spelled)

pub returns-clause-value : goal.returns-clause-value
returns-clause-value c =
    let body = c.args.body.now in
    let at = c.args.at in
    let n = c.cast_unsigned.result in
    let z = c.read_i32-length.result in
    let in_range : SFits w32 z = search rules in
    let same : to_z w32 (of_z w32 z) ≡ z = to_z-of_z w32 z in_range in
    let unsigned : n ≡ of_z w32 z = c.cast_unsigned.ensures ∙ ap (of_z w32) same in
    let small : n < 2 ^ 31 = omega (arith, c.if-end-last.false, c.requires.within, c.requires.short) in
    let is : z ≡ pos n = sym same ∙ ap (to_z w32) (sym unsigned) ∙ to_z_pos w32 n small in
    let fits : at + 4 ≤ length body = omega (arith, c.requires.length, c.requires.within) in
    let inside : at + 4 + n ≤ length body = omega (arith, c.if-end-last.false, c.requires.within) in
    let spelled = length_at body at z fits (λ i. omega (arith, c.type_inv.body i)) in_range c.read_i32-length.ensures in
    rw (same, is) (some_finds body at n inside (rw is at spelled))
