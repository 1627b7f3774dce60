use Rattle.std.proofs.Common.{List, ℕ, ap, refl}
use Rattle.pg_base.specs.Cutting.{frame}
use Rattle.pg_send.proofs.PageLemmas.{bind_written}
use Rattle.pg_send.proofs.laws.numbers_are_names.Goals as goal

pub returns-clause-parse : goal.returns-clause-parse
returns-clause-parse c = λ p. refl

pub returns-clause-bind : goal.returns-clause-bind
returns-clause-bind c = λ b v p. ap (λ (body : List ℕ). frame 66 body) (bind_written b v p)

pub returns-clause-describe : goal.returns-clause-describe
returns-clause-describe c = λ t. refl

pub returns-clause-execute : goal.returns-clause-execute
returns-clause-execute c = λ e. refl

pub returns-clause-close : goal.returns-clause-close
returns-clause-close c = λ t. refl
