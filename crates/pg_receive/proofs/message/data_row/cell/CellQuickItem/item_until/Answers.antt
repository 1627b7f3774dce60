use Rattle.std.proofs.Common.{◌≡◌, ◌+◌, ◌-◌, ◌≤◌, ◌<◌, ◌^◌, ℕ, ℤ, pos, List, length, take, drop, refl, sym, ap, ◌∙◌, arith, rules, to_z, of_z}
use Rattle.std.specs.Prelude.{slice_range}
use Rattle.std.specs.Int.{w32}
use Rattle.std.proofs.lemmas.Int.{to_z-of_z, to_z_pos, ints}
use Rattle.byteorder.specs.Endian.{big_number}
use mir.Val.{SFits}
use Rattle.pg_base.specs.Reading.{Signed}
use Rattle.pg_base.proofs.NumbersLemmas.{AreBytes, bytes_within, wide_enough, signed_value_4, signed_at}
use Rattle.pg_receive.proofs.DataRowLemmas.{value_is_at, null_is_at}
use Rattle.pg_receive.proofs.message.data_row.cell.CellQuickItem.item_until.Goals as goal

-- the length that begins a cell
length_at : (body : List ℕ) (at : ℕ) (z : ℤ) → at + 4 ≤ length body → AreBytes body → z ≡ to_z w32 (big_number 4 (slice_range body at (at + 4)))
    → Signed 4 (drop at body) (to_z w32 (of_z w32 z)) (drop (at + 4) body)
length_at body at z fits bytes e =
    let count : at + 4 - at ≡ 4 = omega arith in
    let is : z ≡ to_z w32 (big_number 4 (take 4 (drop at body))) = rw count at e in
    signed_at body at 4 (to_z w32 (of_z w32 z)) fits (signed_value_4 (take 4 (drop at body)) z (wide_enough body at 4 fits) (bytes_within at 4 body bytes) is)

pub returns-then-length-lt0-clause-item : goal.returns-then-length-lt0-clause-item
returns-then-length-lt0-clause-item c =
    let body = c.args.body.now in
    let at = c.args.at in
    let z = c.read_i32-length.result in
    let in_range : SFits w32 z = search rules in
    let same : to_z w32 (of_z w32 z) ≡ z = to_z-of_z w32 z in_range in
    let fits : at + 4 ≤ length body = omega (arith, c.requires.wide, c.requires.within) in
    let length_is : Signed 4 (drop at body) z (drop (at + 4) body) = rw same at (length_at body at z fits (λ i. omega (arith, c.type_inv.body i)) c.read_i32-length.ensures) in
    null_is_at body at z (omega (arith, fits)) length_is (omega (arith, ints, c.if-length-lt0.true, same))

pub returns-then-end-last-clause-item : goal.returns-then-end-last-clause-item
returns-then-end-last-clause-item c =
    let body = c.args.body.now in
    let at = c.args.at in
    let n = c.cast_unsigned.result in
    let z = c.read_i32-length.result in
    let in_range : SFits w32 z = search rules in
    let same : to_z w32 (of_z w32 z) ≡ z = to_z-of_z w32 z in_range in
    let inside : at + 4 + n ≤ length body = omega (arith, c.if-end-last.true, c.requires.wide, c.requires.within) in
    let below : n < 2 ^ 31 = omega (arith, inside, c.requires.short) in
    let fits : at + 4 ≤ length body = omega (arith, c.requires.wide, c.requires.within) in
    let is : z ≡ pos n = sym same ∙ ap (to_z w32) (ap (of_z w32) (sym same) ∙ sym c.cast_unsigned.ensures) ∙ to_z_pos w32 n below in
    let length_is : Signed 4 (drop at body) (pos n) (drop (at + 4) body) = rw (← is, ← same) (length_at body at z fits (λ i. omega (arith, c.type_inv.body i)) c.read_i32-length.ensures) in
    let wide : at + 4 + n - (at + 4) ≡ n = omega arith in
    let bytes : slice_range body (at + 4) (at + 4 + n) ≡ take n (drop (at + 4) body) = rw wide refl in
    value_is_at body (slice_range body (at + 4) (at + 4 + n)) at n length_is inside bytes
