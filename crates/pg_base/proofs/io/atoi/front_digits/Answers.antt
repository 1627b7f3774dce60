use Rattle.std.proofs.Common.{drop, get_or, sym}
use Rattle.std.proofs.lemmas.List.{take-append-drop, take_more}
use Rattle.pg_base.proofs.AtoiLemmas.{no_digit_at, AreDigits-push}
use Rattle.pg_base.proofs.io.atoi.front_digits.Goals as goal

pub returns-then-not-is_ascii_digit-clause-parts : goal.returns-then-not-is_ascii_digit-clause-parts
returns-then-not-is_ascii_digit-clause-parts c =
    let bytes = c.args.bytes.now in
    let end = c.loop-end.end in
    (drop end bytes, sym (take-append-drop end bytes), no_digit_at bytes end (c.if-not-is_ascii_digit.ensures).cases)

pub loop-end-preserved : goal.loop-end-preserved
loop-end-preserved c =
    let bytes = c.args.bytes.now in
    let end = c.loop-end.end in
    rw (take_more bytes end 0 c.loop-end-test.true) (AreDigits-push _ (get_or bytes end 0) c.loop-end.invariant (c.if-not-is_ascii_digit.ensures).cases)
