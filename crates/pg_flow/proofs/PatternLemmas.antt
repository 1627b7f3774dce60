-- A pattern, one message at a time.
use Rattle.std.proofs.Common.{List, [], ◌∷◌, ◌⊎◌, inl, inr, refl, ap}
use Rattle.pg_flow.specs.declared.answer.Answer.{Answer}
use Rattle.pg_flow.specs.Pattern.{Is, Many, Matches, Nothing, Pattern, Then, more}

-- what follows m in a list that matches p matches p'
abbrev pub Leads : Answer → Pattern → Pattern → Type 0
Leads m p' p = (w : List Answer) → Matches p' w → Matches p (m ∷ w)

pub is_in_last : (m : Answer) → Leads m Nothing (Is m)
is_in_last m w e = ap (λ (v : List Answer). m ∷ v) e

pub in_first : (m : Answer) (p' p q : Pattern) → Leads m p' p → Leads m (Then p' q) (Then p q)
in_first m p' p q f w (a, b, e, h, k) = (m ∷ a, b, ap (λ (v : List Answer). m ∷ v) e, f a h, k)

pub past_none : (p q : Pattern) (w : List Answer) → Matches p [] → Matches q w → Matches (Then p q) w
past_none p q w h k = ([], w, refl, h, k)

pub past_one : (m : Answer) (p q : Pattern) → Matches p (m ∷ []) → Leads m q (Then p q)
past_one m p q h w k = (m ∷ [], w, refl, h, k)

pub in_many : (m : Answer) (p' p : Pattern) → Leads m p' p → Leads m (Then p' (Many p)) (Many p)
in_many m p' p f w (a, b, e, h, k) = more (m ∷ a) b (m ∷ w) (ap (λ (v : List Answer). m ∷ v) e) (f a h) k

pub one_more : (m : Answer) → Leads m (Many (Is m)) (Many (Is m))
one_more m w h = more (m ∷ []) w (m ∷ w) refl refl h

pub both : {A B C D : Type 0} → (A → C) → (B → D) → A ⊎ B → C ⊎ D
both f g (inl h) = inl (f h)
both f g (inr h) = inr (g h)
