use Rattle.std.proofs.Common.{◌≡◌, true, false, refl, ap, rules}
use Rattle.pg_base.specs.declared.format.FrontendMessageFormat.{FrontendMessageFormat}
use Rattle.pg_base.specs.contracts.format.FrontendMessageFormatPartialEq.TheImpl as formats-eq
use Rattle.pg_server.proofs.FrontendErrorLemmas.{same_faults}
use Rattle.pg_frames.specs.declared.frontend.error.FrontendError.{FrontendError}
use Rattle.pg_frames.specs.declared.frontend.error.FrontendError.TheVariants.{Protocol, OutOfMemory}
use Rattle.pg_frames.specs.declared.frontend.message.ClientMessageKind.{ClientMessageKind}
use Rattle.pg_frames.specs.declared.frontend.message.ClientMessageKind.TheVariants.{First, Tagged}
use Rattle.pg_frames.specs.declared.frontend.pieces.ClientStreamEnd.{ClientStreamEnd}
use Rattle.pg_frames.specs.declared.frontend.pieces.ClientStreamEnd.TheVariants.{Rest, Fault}
use Rattle.pg_frames.specs.contracts.frontend.error.FrontendErrorPartialEq.TheImpl as errors-eq
use Rattle.pg_frames.specs.contracts.frontend.error.FrontendErrorEq.TheImpl.Laws as errors-law
use Rattle.pg_frames.specs.contracts.frontend.message.ClientMessageKindPartialEq.TheImpl as kinds-eq
use Rattle.pg_frames.specs.contracts.frontend.message.ClientMessageKindEq.TheImpl.Laws as kinds-law
use Rattle.pg_frames.specs.contracts.frontend.pieces.ClientStreamEndPartialEq.TheImpl as ends-eq
use Rattle.pg_frames.specs.contracts.frontend.pieces.ClientStreamEndEq.TheImpl.Laws as ends-law
use Rattle.pg_frames.proofs.frontend.laws.values_are_equal_where_they_are_the_same.Goals as goal

same_formats : (a b : FrontendMessageFormat) → formats-eq.ghosts.eq a b ≡ true → a ≡ b
same_formats a b = search rules

same_kinds : (a b : ClientMessageKind) → kinds-eq.ghosts.eq a b ≡ true → a ≡ b
same_kinds First First e = refl
same_kinds (Tagged f) (Tagged g) e = ap Tagged (same_formats f g e)
same_kinds a b e = absurd (let clash : false ≡ true = e in cc)

same_errors : (a b : FrontendError) → errors-eq.ghosts.eq a b ≡ true → a ≡ b
same_errors (Protocol f) (Protocol g) e = ap Protocol (same_faults f g e)
same_errors OutOfMemory OutOfMemory e = refl
same_errors a b e = absurd (let clash : false ≡ true = e in cc)

same_ends : (a b : ClientStreamEnd) → ends-eq.ghosts.eq a b ≡ true → a ≡ b
same_ends (Rest n) (Rest m) e = search rules
same_ends (Fault f) (Fault g) e = ap Fault (same_faults f g e)
same_ends a b e = absurd (let clash : false ≡ true = e in cc)

pub returns-clause-kinds : goal.returns-clause-kinds
returns-clause-kinds c a b = (same_kinds a b, λ e. rw (← e) (kinds-law.laws-law.refl a))

pub returns-clause-errors : goal.returns-clause-errors
returns-clause-errors c a b = (same_errors a b, λ e. rw (← e) (errors-law.laws-law.refl a))

pub returns-clause-ends : goal.returns-clause-ends
returns-clause-ends c a b = (same_ends a b, λ e. rw (← e) (ends-law.laws-law.refl a))
