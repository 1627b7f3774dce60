use Rattle.std.proofs.Common.{◌≡◌, ◌-◌, ◌≤◌, ◌++◌, length, take, drop, sym, ap, ◌∙◌, arith, length-take-le, take-append-drop}
use Rattle.std.proofs.lemmas.List.{take_all, take-take, length-drop}
use Rattle.std.proofs.lemmas.Simd.{take_more_put_chunk, length-put_chunk}
use lib.Lanes.{put_chunk}
use Rattle.pg_base.proofs.io.copy_bytes.copy_ends.Goals as goal

pub returns : goal.returns
returns g c =
    let from = c.args.from.now in
    let to = c.args.to.now in
    let n = g.row.N in
    let last = length from - n in
    let front = take n from in
    let back = take n (drop last from) in
    let first = put_chunk 0 to front in
    let both = put_chunk last first back in
    let few : last ≤ n = omega (arith, c.requires.covers.1) in
    let left : length (drop last from) ≡ n = omega (arith, length-drop last from, c.requires.covers.0) in
    let end : length back ≡ n = length-take-le n (drop last from) (omega (arith, left)) in
    let long : length first ≡ length from = length-put_chunk 0 to front ∙ c.requires.room in
    let begun : take n first ≡ front =
    take_more_put_chunk 0 to front n (omega (arith, length-take-le n from (omega (arith, c.requires.covers.0)))) (omega (arith, c.requires.room, c.requires.covers.0)) in
    let kept : take last first ≡ take last from = sym (take-take last n first few) ∙ ap (take last) begun ∙ take-take last n from few in
    let parts : take (length from) both ≡ take last first ++ back =
    take_more_put_chunk last first back (length from) (omega (arith, end, c.requires.covers.0)) (omega (arith, long)) in
    let whole : take (length from) both ≡ both = take_all (length from) both (omega (arith, length-put_chunk last first back, long)) in
    sym whole ∙ parts ∙ ap (λ it. it ++ back) kept ∙ ap (λ it. take last from ++ it) (take_all n (drop last from) (omega (arith, left)))
    ∙ take-append-drop last from
