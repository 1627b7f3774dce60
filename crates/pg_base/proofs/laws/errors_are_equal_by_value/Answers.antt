use Rattle.std.proofs.Common.{◌≡◌, true, false, Some, None, refl, ap}
use Rattle.std.proofs.lemmas.Bool.{and_parts}
use Rattle.pg_base.specs.declared.error.ProtocolFault.{ProtocolFault}
use Rattle.pg_base.specs.declared.error.Error.{Error}
use Rattle.pg_base.specs.declared.error.Error.TheVariants.{Protocol, OutOfMemory}
use Rattle.pg_base.specs.contracts.format.BackendMessageFormatPartialEq.TheImpl as formats-eq
use Rattle.pg_base.specs.contracts.error.ProtocolFaultPartialEq.TheImpl as faults-eq
use Rattle.pg_base.specs.contracts.error.ErrorPartialEq.TheImpl as errors-eq
use Rattle.pg_base.specs.contracts.error.ProtocolFaultEq.TheImpl.Laws as faults-law
use Rattle.pg_base.specs.contracts.error.ErrorEq.TheImpl.Laws as errors-law
use Rattle.pg_base.proofs.ErrorLemmas.{same_formats, same_faults}
use Rattle.pg_base.proofs.laws.errors_are_equal_by_value.Goals as goal

same_errors : (a b : Error) → errors-eq.ghosts.eq a b ≡ true → a ≡ b
same_errors (Protocol None f) (Protocol None g) e = ap (λ (f : ProtocolFault). Protocol None f) (same_faults f g e)
same_errors (Protocol (Some h) f) (Protocol (Some i) g) e =
    let parts = and_parts (formats-eq.ghosts.eq h i) (faults-eq.ghosts.eq f g) e in
    let first = same_formats h i parts.0 in
    let second = same_faults f g parts.1 in
    cc
same_errors OutOfMemory OutOfMemory e = refl
same_errors a b e = absurd (let clash : false ≡ true = e in cc)

pub returns-clause-faults : goal.returns-clause-faults
returns-clause-faults c a b = (same_faults a b, λ e. rw (← e) (faults-law.laws-law.refl a))

pub returns-clause-errors : goal.returns-clause-errors
returns-clause-errors c a b = (same_errors a b, λ e. rw (← e) (errors-law.laws-law.refl a))
