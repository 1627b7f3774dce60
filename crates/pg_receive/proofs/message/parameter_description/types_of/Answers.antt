use Rattle.std.proofs.Common.{◌≡◌, ◌+◌, ◌*◌, ◌≤◌, [], ◌∷◌, ◌++◌, length, ap, ◌∙◌, arith, rules}
use Rattle.std.proofs.lemmas.Bool.{false≢true}
use Rattle.std.proofs.lemmas.List.{map_push, length_push}
use Rattle.std.proofs.lemmas.Result.{err_from_is_err_and}
use Rattle.pg_base.specs.declared.io.Oid.{Oid}
use Rattle.pg_base.specs.Numbers.{numbers_of}
use Rattle.pg_format.specs.Format.Parts.{be_u32}
use Rattle.pg_format.proofs.FormatLaws.Places.{stands_at, one_more_at, counted_at}
use Rattle.pg_format.proofs.FormatLaws.Takes.{takes_unsigned}
use Rattle.pg_receive.proofs.CountedItemsLemmas.{asks_for_memory}
use Rattle.pg_receive.proofs.message.parameter_description.types_of.Goals as goal

pub returns-in_err-reserve : goal.returns-in_err-reserve
returns-in_err-reserve c =
    let p = err_from_is_err_and c.from_residual-in_err-reserve.result c.from_residual-in_err-reserve.ensures.1 in
    let n = c.in_ok-u16_at.field-0 in
    let not_in_place : c.from-count.result ≤ 6 → ⊥ = λ few. absurd (false≢true (c.in_err-reserve.ensures.succeeds (omega (arith, few, ap length c.new-types.ensures.items, c.new-types.ensures.capacity)))) in
    rw (p.1, p.2) (asks_for_memory 4 6 c.args.body.now n c.in_ok-u16_at.ensures.found (omega (arith, c.from-count.ensures, c.in_ok-bytes_at.ensures.found.0)) (omega (arith, c.from-count.ensures)))

pub loop-index-preserved : goal.loop-index-preserved
loop-index-preserved c =
    let body = c.args.body.now in
    let types = c.loop-index.types.items in
    let index = c.loop-index.index in
    let at = 2 + 4 * index in
    let pushed = c.push_reserved.ensures in
    let id = c.in_ok-u32_at.field-0 in
    let next : 2 + 4 * (index + 1) ≡ at + 4 = omega arith in
    let more : numbers_of c.push_reserved.new.self.items ≡ numbers_of types ++ id ∷ [] = ap numbers_of pushed.items ∙ map_push (λ (oid : Oid). oid.0) types (record { 0 = id }) in
    let read = c.loop-index.invariant.read in
    record {
      counted = omega (arith, ap length pushed.items, length_push types (record { 0 = id }), c.loop-index.invariant.counted);
      room = omega (arith, pushed.capacity, c.loop-index.invariant.room);
      read = rw (more, next) (one_more_at be_u32 body index 2 at (at + 4) (numbers_of types) id read (stands_at be_u32 4 (takes_unsigned 4) body at id read.within c.in_ok-u32_at.ensures.found));
    }

pub returns : goal.returns
returns c =
    let body = c.args.body.now in
    let n = c.in_ok-u16_at.field-0 in
    let index = c.loop-index.index in
    let all : index ≡ n = omega (arith, c.from-count.ensures, c.loop-index-test.false, c.loop-index.auto.index-end) in
    counted_at be_u32 4 body n (2 + 4 * n) (numbers_of c.loop-index.types.items) c.in_ok-u16_at.ensures.found (rw all at c.loop-index.invariant.read)

pub returns-in_err-u16_at : goal.returns-in_err-u16_at
returns-in_err-u16_at c = search rules

pub returns-in_err-bytes_at : goal.returns-in_err-bytes_at
returns-in_err-bytes_at c = search rules

pub returns-in_err-u32_at : goal.returns-in_err-u32_at
returns-in_err-u32_at c = search rules

pub loop-index-init : goal.loop-index-init
loop-index-init c = search rules
