use Rattle.std.proofs.Common.{◌≡◌, ℕ, List, [], ◌∷◌, length, refl, sym, ◌∙◌, arith}
use Rattle.std.proofs.lemmas.Bool.{eqb-true}
use Rattle.pg_base.proofs.ReadingLemmas.{no_text, one_text}
use Rattle.pg_receive.proofs.message.authentication.mechanisms.split_raw_name.Goals as goal

no_bytes : (bytes : List ℕ) → length bytes ≡ 0 → bytes ≡ []
no_bytes [] none = refl
no_bytes (byte ∷ bytes) none = absurd (omega (arith, none))

pub returns-in_err-name-clause-none : goal.returns-in_err-name-clause-none
returns-in_err-name-clause-none c = rw c.from_residual.ensures (λ text rest p. no_text c.args.bytes.now text rest c.in_err-name.ensures.none p.0.parts)

pub returns-then-is_empty-clause-none : goal.returns-then-is_empty-clause-none
returns-then-is_empty-clause-none c = λ text rest p.
    let found = c.in_ok-name in
    let same = (one_text c.args.bytes.now text found.name.now rest found.rest.now p.0 found.ensures.found).0 in
    p.1 (same ∙ no_bytes found.name.now (eqb-true _ 0 (sym c.if-is_empty.ensures)))
