-- What a server may say that is no error.
use Rattle.std.proofs.Common.{◌≡◌, ℕ, [], refl, ap, ◌∙◌, Bool, true, false, Option, None}
use Rattle.std.specs.Prelude.{if◌then◌else◌}
use Rattle.pg_flow.specs.declared.answer.Answer.{Answer}
use Rattle.pg_flow.specs.declared.answer.Answer.TheVariants.{Failure}
use Rattle.pg_flow.specs.declared.place.Place.{Place}
use Rattle.pg_flow.specs.declared.request.Request.{Request}
use Rattle.pg_flow.specs.Plain.{State, answers, is_sync, went}
use Rattle.pg_flow.specs.ServerFlow.{Busy, Server, is_failure, tell, tell_as, told}
use Rattle.pg_flow.specs.Table.{next_of}

no_failure : (b : Bool) (o : Option Server) → (if b then (if false then None else o) else o) ≡ o
no_failure true o = refl
no_failure false o = refl

tells_quiet : (m : Answer) (r : Request) (place : Place) (quiet : Bool) (j : ℕ) → is_failure m ≡ false → tell_as m r place quiet j ≡ told (answers m r place []) r quiet j
tells_quiet m r place true j e =
    let o : Option Server = told (answers m r place []) r true j in
    ap (λ (f : Bool). if is_sync r then (if f then None else o) else o) e ∙ no_failure (is_sync r) o
tells_quiet m r place false j e = refl

is_no_failure : (m : Answer) → (m ≡ Failure → ⊥) → is_failure m ≡ false
is_no_failure Failure h = absurd (h refl)
is_no_failure _ h = refl

answers_rest : (m : Answer) (r : Request) (place : Place) → (m ≡ Failure → ⊥) → answers m r place [] ≡ went (next_of r place m) r []
answers_rest Failure r place h = absurd (h refl)
answers_rest _ r place h = refl

pub tells_rest : (m : Answer) (r : Request) (place : Place) (quiet : Bool) (j : ℕ) → (m ≡ Failure → ⊥) → tell m (Busy r place quiet j) ≡ told (went (next_of r place m) r []) r quiet j
tells_rest m r place quiet j h = tells_quiet m r place quiet j (is_no_failure m h) ∙ ap (λ (o : Option State). told o r quiet j) (answers_rest m r place h)
