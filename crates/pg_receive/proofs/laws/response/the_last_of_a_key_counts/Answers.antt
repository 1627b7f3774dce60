use Rattle.std.proofs.Common.{◌≡◌, ℕ, ◌==◌, if◌then◌else◌, List, [], ◌∷◌, ◌++◌, refl}
use Rattle.std.proofs.lemmas.Bool.{eq-eqb, ne_eqb}
use Rattle.pg_format.specs.Keyed.{last, IsAbsent}
use Rattle.pg_receive.proofs.laws.response.the_last_of_a_key_counts.Goals as goal

-- The last value of a key counts.
last_none : {A : Type 0} (view : List ℕ → A) (default : A) (key : ℕ) (pairs : List (ℕ × List ℕ)) → IsAbsent key pairs → last view default key pairs ≡ default
last_none view default key [] h = refl
last_none view default key (pair ∷ pairs) h = rw (ne_eqb pair.0 key h.0) (last_none view default key pairs h.1)

last_is : {A : Type 0} (view : List ℕ → A) (default : A) (key : ℕ) (front : List (ℕ × List ℕ)) (value : List ℕ) (back : List (ℕ × List ℕ)) → IsAbsent key back → last view default key (front ++ (key, value) ∷ back) ≡ view value
last_is view default key [] value back h = rw (last, eq-eqb key key refl) (last_none view (view value) key back h)
last_is view default key (pair ∷ front) value back h = last_is view (if pair.0 == key then view pair.1 else default) key front value back h

pub returns-clause-is : goal.returns-clause-is
returns-clause-is c = last_is

pub returns-clause-none : goal.returns-clause-none
returns-clause-none c = last_none

pub returns-clause-number : goal.returns-clause-number
returns-clause-number c = last_is

pub returns-clause-no_number : goal.returns-clause-no_number
returns-clause-no_number c = last_none

pub returns-clause-severity : goal.returns-clause-severity
returns-clause-severity c = last_is

pub returns-clause-no_severity : goal.returns-clause-no_severity
returns-clause-no_severity c = last_none
