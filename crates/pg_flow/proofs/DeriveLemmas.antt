-- What may follow a message, computed from a pattern.
use Rattle.std.proofs.Common.{◌≡◌, ℕ, List, [], ◌∷◌, ◌++◌, ◌⊎◌, inl, inr, refl, sym, ap, ◌∙◌, subst, Bool, true, false}
use Rattle.std.specs.Prelude.{if◌then◌else◌, nat_eq}
use Rattle.pg_flow.specs.declared.answer.Answer.{Answer}
use Rattle.pg_flow.specs.declared.answer.Answer.TheVariants.{BindComplete, CloseComplete, CommandComplete, CopyBoth, CopyData, CopyDone, CopyIn, CopyOut, DataRow, EmptyQuery, Failure, FunctionResult, NoData, ParameterDescription, ParseComplete, PortalSuspended, Ready, RowDescription}
use Rattle.pg_flow.specs.Pattern.{Either, Is, Many, Matches, Never, Nothing, Pattern, Repeats, Then, more, none}
use Rattle.pg_flow.proofs.PatternLemmas.{Leads, both, in_first, in_many}

abbrev code : Answer → ℕ
code ParseComplete = 0
code BindComplete = 1
code CloseComplete = 2
code ParameterDescription = 3
code RowDescription = 4
code NoData = 5
code DataRow = 6
code CommandComplete = 7
code EmptyQuery = 8
code PortalSuspended = 9
code CopyIn = 10
code CopyOut = 11
code CopyData = 12
code CopyDone = 13
code FunctionResult = 14
code Failure = 15
code Ready = 16
code CopyBoth = 17

abbrev pub same : Answer → Answer → Bool
same m x = nat_eq (code m) (code x)

itself : (m : Answer) → same m m ≡ true
itself ParseComplete = refl
itself BindComplete = refl
itself CloseComplete = refl
itself ParameterDescription = refl
itself RowDescription = refl
itself NoData = refl
itself DataRow = refl
itself CommandComplete = refl
itself EmptyQuery = refl
itself PortalSuspended = refl
itself CopyIn = refl
itself CopyOut = refl
itself CopyData = refl
itself CopyDone = refl
itself FunctionResult = refl
itself Failure = refl
itself Ready = refl
itself CopyBoth = refl

abbrev pub nullable : Pattern → Bool
nullable Never = false
nullable Nothing = true
nullable (Is m) = false
nullable (Then p q) = if nullable p then nullable q else false
nullable (Either p q) = if nullable p then true else nullable q
nullable (Many p) = true

abbrev pub then_simply : Pattern → Pattern → Pattern
then_simply Never q = Never
then_simply Nothing q = q
then_simply p q = Then p q

abbrev pub either_simply : Pattern → Pattern → Pattern
either_simply Never q = q
either_simply p Never = p
either_simply p q = Either p q

-- what may follow m in a list that matches the pattern
abbrev pub derived : Answer → Pattern → Pattern
derived m Never = Never
derived m Nothing = Never
derived m (Is x) = if same m x then Nothing else Never
derived m (Then p q) = either_simply (then_simply (derived m p) q) (if nullable p then derived m q else Never)
derived m (Either p q) = either_simply (derived m p) (derived m q)
derived m (Many p) = then_simply (derived m p) (Many p)

to_then : (p q : Pattern) (w : List Answer) → Matches (Then p q) w → Matches (then_simply p q) w
to_then Never q w (a, b, e, h, k) = h
to_then Nothing q w (a, b, e, h, k) = subst (Matches q) (sym (e ∙ ap (λ (v : List Answer). v ++ b) h)) k
to_then _ q w h = h

to_either : (p q : Pattern) (w : List Answer) → Matches p w ⊎ Matches q w → Matches (either_simply p q) w
to_either Never q w (inl h) = absurd h
to_either Never q w (inr h) = h
to_either p Never w (inl h) = h
to_either p Never w (inr h) = absurd h
to_either _ _ w h = h

empty_parts : (a b : List Answer) → [] ≡ a ++ b → (a ≡ []) × (b ≡ [])
empty_parts [] b e = (refl, sym e)
empty_parts (x ∷ a) b e = cc

or_true : (b c : Bool) → c ≡ true → (if b then true else c) ≡ true
or_true true c e = refl
or_true false c e = e

pub when_empty : (p : Pattern) → Matches p [] → nullable p ≡ true
when_empty Never h = absurd h
when_empty Nothing h = refl
when_empty (Is m) h = cc
when_empty (Then p q) (a, b, e, h, k) =
    let parts : (a ≡ []) × (b ≡ []) = empty_parts a b e in
    ap (λ (c : Bool). if c then nullable q else false) (when_empty p (subst (Matches p) parts.0 h)) ∙ when_empty q (subst (Matches q) parts.1 k)
when_empty (Either p q) (inl h) = ap (λ (c : Bool). if c then true else nullable q) (when_empty p h)
when_empty (Either p q) (inr h) = or_true (nullable p) (nullable q) (when_empty q h)
when_empty (Many p) h = refl

derive_is : (m x : Answer) (w : List Answer) → m ≡ x → w ≡ [] → Matches (derived m (Is x)) w
derive_is m x w e f =
    let P : Answer → Type 0 = λ y. Matches (if same m y then Nothing else Never) w in
    let Q : Bool → Type 0 = λ b. Matches (if b then Nothing else Never) w in
    subst P e (subst Q (sym (itself m)) f)

derive_then : (m : Answer) (p q : Pattern) → ((w : List Answer) → Matches p (m ∷ w) → Matches (derived m p) w) → ((w : List Answer) → Matches q (m ∷ w) → Matches (derived m q) w) →
    (a b w : List Answer) → m ∷ w ≡ a ++ b → Matches p a → Matches q b → Matches (derived m (Then p q)) w
derive_then m p q f g [] b w e h k =
    let R : Bool → Type 0 = λ c. Matches (if c then derived m q else Never) w in
    to_either (then_simply (derived m p) q) (if nullable p then derived m q else Never) w
    (inr (subst R (sym (when_empty p h)) (g w (subst (Matches q) (sym e) k))))
derive_then m p q f g (x ∷ a) b w e h k =
    let head : m ≡ x = cc in
    let rest : w ≡ a ++ b = cc in
    let P : Answer → Type 0 = λ y. Matches p (y ∷ a) in
    to_either (then_simply (derived m p) q) (if nullable p then derived m q else Never) w
    (inl (to_then (derived m p) q w (a, b, rest, f a (subst P (sym head) h), k)))

derive_many : (m : Answer) (p : Pattern) → ((w : List Answer) → Matches p (m ∷ w) → Matches (derived m p) w) →
    {v : List Answer} → Repeats (Matches p) v → (w : List Answer) → v ≡ m ∷ w → Matches (derived m (Many p)) w
derive_many m p f none w e = cc
derive_many m p f (more [] b v e h k) w g = derive_many m p f k w (sym e ∙ g)
derive_many m p f (more (x ∷ a) b v e h k) w g =
    let all : x ∷ (a ++ b) ≡ m ∷ w = sym e ∙ g in
    let head : x ≡ m = cc in
    let rest : w ≡ a ++ b = cc in
    let P : Answer → Type 0 = λ y. Matches p (y ∷ a) in
    to_then (derived m p) (Many p) w (a, b, rest, f a (subst P head h), k)

pub derive : (m : Answer) (p : Pattern) (w : List Answer) → Matches p (m ∷ w) → Matches (derived m p) w
derive m Never w h = h
derive m Nothing w h = cc
derive m (Is x) w h =
    let e : m ≡ x = cc in
    let f : w ≡ [] = cc in
    derive_is m x w e f
derive m (Then p q) w (a, b, e, h, k) = derive_then m p q (derive m p) (derive m q) a b w e h k
derive m (Either p q) w (inl h) = to_either (derived m p) (derived m q) w (inl (derive m p w h))
derive m (Either p q) w (inr h) = to_either (derived m p) (derived m q) w (inr (derive m q w h))
derive m (Many p) w h = derive_many m p (derive m p) h w refl

-- and the converse: what is computed loses nothing and adds nothing

impossible : {A : Type 0} → false ≡ true → A
impossible e = cc

is_same : (m x : Answer) → same m x ≡ true → m ≡ x
is_same ParseComplete ParseComplete e = refl
is_same BindComplete BindComplete e = refl
is_same CloseComplete CloseComplete e = refl
is_same ParameterDescription ParameterDescription e = refl
is_same RowDescription RowDescription e = refl
is_same NoData NoData e = refl
is_same DataRow DataRow e = refl
is_same CommandComplete CommandComplete e = refl
is_same EmptyQuery EmptyQuery e = refl
is_same PortalSuspended PortalSuspended e = refl
is_same CopyIn CopyIn e = refl
is_same CopyOut CopyOut e = refl
is_same CopyData CopyData e = refl
is_same CopyDone CopyDone e = refl
is_same FunctionResult FunctionResult e = refl
is_same Failure Failure e = refl
is_same Ready Ready e = refl
is_same CopyBoth CopyBoth e = refl
is_same _ _ e = impossible e

from_then : (p q : Pattern) (w : List Answer) → Matches (then_simply p q) w → Matches (Then p q) w
from_then Never q w h = absurd h
from_then Nothing q w h = ([], w, refl, refl, h)
from_then _ q w h = h

from_either : (p q : Pattern) (w : List Answer) → Matches (either_simply p q) w → Matches p w ⊎ Matches q w
from_either Never q w h = inr h
from_either p Never w h = inl h
from_either _ _ w h = h

and_true : (b c : Bool) → (if b then c else false) ≡ true → (b ≡ true) × (c ≡ true)
and_true true c e = (refl, e)
and_true false c e = impossible e

or_cases : (b c : Bool) → (if b then true else c) ≡ true → (b ≡ true) ⊎ (c ≡ true)
or_cases true c e = inl refl
or_cases false c e = inr e

empty_when : (p : Pattern) → nullable p ≡ true → Matches p []
empty_when Never e = impossible e
empty_when Nothing e = refl
empty_when (Is m) e = impossible e
empty_when (Then p q) e =
    let f : (nullable p ≡ true) × (nullable q ≡ true) = and_true (nullable p) (nullable q) e in
    ([], [], refl, empty_when p f.0, empty_when q f.1)
empty_when (Either p q) e = both (empty_when p) (empty_when q) (or_cases (nullable p) (nullable q) e)
empty_when (Many p) e = none

under_is : (b : Bool) (m x : Answer) (w : List Answer) → same m x ≡ b → Matches (if b then Nothing else Never) w → Matches (Is x) (m ∷ w)
under_is true m x w e h = ap (λ (v : List Answer). m ∷ v) h ∙ ap (λ (y : Answer). y ∷ []) (is_same m x e)
under_is false m x w e h = absurd h

under_then : (b : Bool) (m : Answer) (p q : Pattern) → Leads m (derived m p) p → Leads m (derived m q) q → (w : List Answer) → nullable p ≡ b →
    Matches (then_simply (derived m p) q) w ⊎ Matches (if b then derived m q else Never) w → Matches (Then p q) (m ∷ w)
under_then b m p q f g w e (inl h) = in_first m (derived m p) p q f w (from_then (derived m p) q w h)
under_then true m p q f g w e (inr h) = ([], m ∷ w, refl, empty_when p e, g w h)
under_then false m p q f g w e (inr h) = absurd h

pub underive : (m : Answer) (p : Pattern) (w : List Answer) → Matches (derived m p) w → Matches p (m ∷ w)
underive m Never w h = absurd h
underive m Nothing w h = absurd h
underive m (Is x) w h = under_is (same m x) m x w refl h
underive m (Then p q) w h =
    under_then (nullable p) m p q (underive m p) (underive m q) w refl (from_either (then_simply (derived m p) q) (if nullable p then derived m q else Never) w h)
underive m (Either p q) w h = both (underive m p w) (underive m q w) (from_either (derived m p) (derived m q) w h)
underive m (Many p) w h = in_many m (derived m p) p (underive m p) w (from_then (derived m p) (Many p) w h)
