-- That these answers are those to these requests: each belongs to one request, in order.
use Rattle.std.specs.Prelude.{◌≡◌, Bool, true, false, List, [], ◌∷◌, ◌++◌, ◌⊎◌, if◌then◌else◌}
use Rattle.pg_flow.specs.declared.answer.Answer.{Answer}
use Rattle.pg_flow.specs.declared.answer.Answer.TheVariants.{Failure}
use Rattle.pg_flow.specs.declared.request.Request.{Request}
use Rattle.pg_flow.specs.ClientFlow.{ends}
use Rattle.pg_flow.specs.Grammar.{begun, whole}
use Rattle.pg_flow.specs.Pattern.{Is, Matches, Pattern, Then}
use Rattle.pg_flow.specs.Plain.{ends_ready, is_sync}

abbrev pub Choose : Bool → Type 0 → Type 0 → Type 0
Choose true p q = p
Choose false p q = q

-- A list in two parts: the first matches the pattern, and the second has P.
abbrev pub Parts : Pattern → (List Answer → Type 0) → List Answer → Type 0
Parts p P ms = (a : List Answer) × (b : List Answer) × (ms ≡ a ++ b) × Matches p a × P b

-- One request's answer and what follows, by the patterns of a whole answer and of one that fails: a request of the extended
-- protocol may fail, and then Q holds of what follows.
abbrev pub OneOf : Bool → Pattern → Pattern → (List Answer → Type 0) → (List Answer → Type 0) → List Answer → Type 0
OneOf ends well badly P Q ms = Choose ends (Parts well P ms) (Parts well P ms ⊎ Parts (Then badly (Is Failure)) Q ms)

-- whether a server passes over the request
abbrev pub passes_over : Bool → Request → Bool
passes_over skips r = if skips then (if is_sync r then false else true) else false

-- The answers to the requests, where `skips` says that all up to a Sync is passed over.
abbrev pub Answered : List Request → Bool → List Answer → Type 0
Answered [] skips ms = ms ≡ []
Answered (r ∷ rs) skips ms =
    Choose (passes_over skips r) (Answered rs true ms) (OneOf (ends_ready r) (whole r) (begun r) (Answered rs false) (Answered rs true) ms)
