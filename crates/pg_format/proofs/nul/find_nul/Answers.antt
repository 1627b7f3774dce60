use Rattle.std.proofs.Common.{◌≡◌, ◌+◌, eqb, length, drop, subst, sym, ap, ◌∙◌, arith}
use Rattle.std.proofs.lemmas.List.{take_rest, length-drop, get_or-drop}
use Rattle.memchr.specs.Find.{Nowhere, Passes, is_byte}
use Rattle.pg_format.proofs.NulLemmas.{nowhere_later}
use Rattle.pg_format.proofs.nul.find_nul.Goals as goal

pub returns-in_err-memchr : goal.returns-in_err-memchr
returns-in_err-memchr c =
    let bytes = c.args.bytes.now in
    let rest = rw (take_rest bytes 128) at c.in_err-memchr.ensures in
    let all : 128 + length (drop 128 bytes) ≡ length bytes = omega (arith, length-drop 128 bytes, c.if-bytes-le-NEAR.false) in
    rw c.from_residual.ensures (subst (Nowhere (Passes (is_byte 0) bytes) 0) all (nowhere_later 128 (length (drop 128 bytes)) bytes c.in_default.ensures rest))

pub returns : goal.returns
returns c =
    let bytes = c.args.bytes.now in
    let at = c.in_ok-memchr.field-0 in
    let rest = rw (take_rest bytes 128) at c.in_ok-memchr.ensures in (
      record {
        low = omega arith;
        high = omega (arith, rest.0.high, length-drop 128 bytes);
        before = nowhere_later 128 at bytes c.in_default.ensures rest.0.before;
      },
      ap (λ byte. eqb byte 0) (sym (get_or-drop 128 bytes at 0)) ∙ rest.1,
    )
