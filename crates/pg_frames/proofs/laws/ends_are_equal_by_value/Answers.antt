use Rattle.std.proofs.Common.{◌≡◌, true, false, ap, rules}
use Rattle.pg_base.proofs.ErrorLemmas.{same_faults}
use Rattle.pg_frames.specs.declared.pieces.StreamEnd.{StreamEnd}
use Rattle.pg_frames.specs.declared.pieces.StreamEnd.TheVariants.{Rest, Fault}
use Rattle.pg_frames.specs.contracts.pieces.StreamEndPartialEq.TheImpl as ends-eq
use Rattle.pg_frames.specs.contracts.pieces.StreamEndEq.TheImpl.Laws as ends-law
use Rattle.pg_frames.proofs.laws.ends_are_equal_by_value.Goals as goal

same_ends : (a b : StreamEnd) → ends-eq.ghosts.eq a b ≡ true → a ≡ b
same_ends (Rest n) (Rest m) e = search rules
same_ends (Fault f) (Fault g) e = ap Fault (same_faults f g e)
same_ends a b e = absurd (let clash : false ≡ true = e in cc)

pub returns : goal.returns
returns c a b = (same_ends a b, λ e. rw (← e) (ends-law.laws-law.refl a))
