use Rattle.std.proofs.Common.{◌∙◌, ℕ, List, [], Option, unwrap_or, ap, sym}
use Rattle.pg_receive.proofs.ResponseOnlyFieldLemmas.{code_by_get}
use Rattle.pg_receive.proofs.laws.response.code_by_get.Goals as goal

pub returns-in-Some : goal.returns-in-Some
returns-in-Some c =
    λ one.
    sym (code_by_get c.requires.0 c.args.notice.now c.requires.1 one ∙ ap (λ (found : Option (List ℕ)). unwrap_or found []) (sym c.in-Some.ensures))

pub returns-in-None : goal.returns-in-None
returns-in-None c =
    λ one.
    sym (code_by_get c.requires.0 c.args.notice.now c.requires.1 one ∙ ap (λ (found : Option (List ℕ)). unwrap_or found []) (sym c.in-None.ensures))
