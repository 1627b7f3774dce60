use Rattle.std.proofs.Common.{◌+◌, ◌<◌, ◌%◌, ◌^◌, cond, eqb, map, replicate, sym, ap, ◌∙◌, arith, w8}
use Rattle.std.proofs.lemmas.Simd.{length-chunk, bitmask_splat, trailing_mask_l, none_from_empty_mask, run_in_chunk_fails, run_in_chunk_stops}
use lib.Count.{count_trailing_zeros}
use lib.Lanes.{chunk, mask_l, zip2, top}
use Rattle.pg_format.proofs.NulLemmas.{found_inside}
use Rattle.pg_format.proofs.nul.find_among.Goals as goal

pub returns-then-found-eq0 : goal.returns-then-found-eq0
returns-then-found-eq0 g c k low high is =
    let bytes = c.args.bytes.now in
    let lanes = chunk c.args.at g.row.N bytes in
    let long = length-chunk c.args.at g.row.N bytes c.requires.room in
    let mask = bitmask_splat w8 eqb lanes g.row.N 0 long c.requires.lanes in
    let none = none_from_empty_mask (λ x. eqb x 0) bytes c.args.at g.row.N 0 c.requires.room (sym mask ∙ c.if-found-eq0.true) k low high in
    cc (sym none ∙ is)

pub returns : goal.returns
returns g c =
    let bytes = c.args.bytes.now in
    let at = c.args.at in
    let lanes = chunk at g.row.N bytes in
    let long = length-chunk at g.row.N bytes c.requires.room in
    let mask = bitmask_splat w8 eqb lanes g.row.N 0 long c.requires.lanes in
    let some : 0 < mask_l (map (λ x. eqb x 0) lanes) = omega (arith, mask, c.if-found-eq0.false) in
    let inside = found_inside lanes some in
    let counted = ap (count_trailing_zeros 64) mask ∙ trailing_mask_l (λ x. eqb x 0) 64 lanes (omega (arith, long, c.requires.lanes)) some in
    let run = count_trailing_zeros 64 (mask_l (map (top 7) (zip2 (λ a b. cond (eqb a b) 255 0) lanes (replicate g.row.N 0))) % 2 ^ 64) in
    let within : at + run < at + g.row.N = omega (arith, counted, inside, long) in (
      record {
        low = omega arith;
        high = within;
        before = λ k low high is. cc (sym (run_in_chunk_fails (λ x. eqb x 0) bytes at g.row.N run 0 c.requires.room counted k low high) ∙ is);
      },
      run_in_chunk_stops (λ x. eqb x 0) bytes at g.row.N run 0 c.requires.room counted (omega (arith, within)),
    )
