use Rattle.std.proofs.Common.{◌≡◌, ℕ, List, [], ◌∷◌, Option, Result, Ok, Err, refl, Some}
use Rattle.pg_base.specs.Decode.{Decodes}
use Rattle.pg_base.specs.declared.format.BackendMessageFormat.{BackendMessageFormat}
use Rattle.pg_base.specs.declared.error.ProtocolFault.{ProtocolFault}
use Rattle.pg_base.specs.declared.error.Error.{Error}
use Rattle.pg_base.specs.declared.error.Error.TheVariants.{Protocol, OutOfMemory}
use Rattle.pg_frames.specs.declared.pieces.StreamEnd.{StreamEnd}
use Rattle.pg_frames.specs.Pieces.{IsRead}
use Rattle.pg_frames.specs.Values.{bodies_of, EachHas, Agree, EachAgree}
use Rattle.pg_frames.proofs.PiecesLemmas.{one_read}
use Rattle.pg_base.specs.Format.{backend_tag}
use Rattle.pg_format.specs.Format.{Means, IsFaultOf}
use Rattle.pg_format.proofs.FormatLaws.Whole.{one_meaning, meaning_or_fault}
use Rattle.pg_frames.proofs.laws.values_are_those_of_the_stream.Goals as goal

-- A stream has one list of values of each kind.
one_list : {V : Type 0} (Means : List ℕ → V → Type 0) → ((body : List ℕ) (v w : V) → Means body v → Means body w → v ≡ w) → (bodies : List (List ℕ)) (vs ws : List V) → EachHas Means bodies vs → EachHas Means bodies ws → vs ≡ ws
one_list Means one [] [] [] p q = refl
one_list Means one [] [] (w ∷ ws) p q = absurd q
one_list Means one [] (v ∷ vs) ws p q = absurd p
one_list Means one (b ∷ bs) [] ws p q = absurd p
one_list Means one (b ∷ bs) (v ∷ vs) [] p q = absurd q
one_list Means one (b ∷ bs) (v ∷ vs) (w ∷ ws) p q =
    let same = one b v w p.0 q.0 in
    let more = one_list Means one bs vs ws p.1 q.1 in
    rw (same, more) refl

one_values : {V : Type 0} (Means : List ℕ → V → Type 0) → ((body : List ℕ) (v w : V) → Means body v → Means body w → v ≡ w) → (tag : ℕ) (bytes : List ℕ) (xs ys : List (ℕ × List ℕ)) (d e : StreamEnd) (vs ws : List V) → IsRead bytes xs d → IsRead bytes ys e → EachHas Means (bodies_of tag xs) vs → EachHas Means (bodies_of tag ys) ws → vs ≡ ws
one_values Means one tag bytes xs ys d e vs ws p q a b =
    let same = one_read bytes xs ys d e p q in
    one_list Means one (bodies_of tag ys) vs ws (rw same.0 at a) b

agree : {A V : Type 0} (Means : List ℕ → V → Type 0) (IsFault : List ℕ → ProtocolFault → Type 0) (NeedsNoMemory : List ℕ → Type 0) (shown : A → V) (reading : Option BackendMessageFormat)
    → ((body : List ℕ) (v w : V) → Means body v → Means body w → v ≡ w) → ((body : List ℕ) (v : V) (fault : ProtocolFault) → Means body v → IsFault body fault → ⊥)
    → (body : List ℕ) (r s : Result A Error) → Decodes Means IsFault NeedsNoMemory shown reading body r → Decodes Means IsFault NeedsNoMemory shown reading body s → Agree shown r s
agree Means IsFault Free shown reading one never body (Ok a) (Ok b) p q = one body (shown a) (shown b) p q
agree Means IsFault Free shown reading one never body (Ok a) (Err (Protocol format fault)) p q = never body (shown a) fault p q.1
agree Means IsFault Free shown reading one never body (Ok a) (Err OutOfMemory) p q = tt
agree Means IsFault Free shown reading one never body (Err (Protocol format fault)) (Ok b) p q = never body (shown b) fault q p.1
agree Means IsFault Free shown reading one never body (Err (Protocol format fault)) (Err e) p q = tt
agree Means IsFault Free shown reading one never body (Err OutOfMemory) s p q = tt

each_agree : {A V : Type 0} (shown : A → V) (Answers : List ℕ → Result A Error → Type 0) → ((body : List ℕ) (r s : Result A Error) → Answers body r → Answers body s → Agree shown r s)
    → (bodies : List (List ℕ)) (rs ss : List (Result A Error)) → EachHas Answers bodies rs → EachHas Answers bodies ss → EachAgree shown rs ss
each_agree shown Answers one [] [] [] p q = tt
each_agree shown Answers one [] [] (s ∷ ss) p q = absurd q
each_agree shown Answers one [] (r ∷ rs) ss p q = absurd p
each_agree shown Answers one (b ∷ bs) [] ss p q = absurd p
each_agree shown Answers one (b ∷ bs) (r ∷ rs) [] p q = absurd q
each_agree shown Answers one (b ∷ bs) (r ∷ rs) (s ∷ ss) p q = (one b r s p.0 q.0, each_agree shown Answers one bs rs ss p.1 q.1)

one_decoding : {A V : Type 0} (Means : List ℕ → V → Type 0) (IsFault : List ℕ → ProtocolFault → Type 0) (NeedsNoMemory : List ℕ → Type 0) (shown : A → V) (reading : Option BackendMessageFormat)
    → ((body : List ℕ) (v w : V) → Means body v → Means body w → v ≡ w) → ((body : List ℕ) (v : V) (fault : ProtocolFault) → Means body v → IsFault body fault → ⊥)
    → (tag : ℕ) (bytes : List ℕ) (xs ys : List (ℕ × List ℕ)) (d e : StreamEnd) (rs ss : List (Result A Error)) → IsRead bytes xs d → IsRead bytes ys e
    → EachHas (λ body. Decodes Means IsFault NeedsNoMemory shown reading body) (bodies_of tag xs) rs → EachHas (λ body. Decodes Means IsFault NeedsNoMemory shown reading body) (bodies_of tag ys) ss → EachAgree shown rs ss
one_decoding Means IsFault Free shown reading one never tag bytes xs ys d e rs ss p q a b =
    let same = one_read bytes xs ys d e p q in
    each_agree shown (λ body. Decodes Means IsFault Free shown reading body) (agree Means IsFault Free shown reading one never) (bodies_of tag ys) rs ss (rw same.0 at a) b

pub returns-clause-values : goal.returns-clause-values
returns-clause-values g c = one_values (Means g.T.BackendMessage.format) (one_meaning g.met.T.BackendMessage.lawful) (backend_tag g.T.BackendMessage.FORMAT)

pub returns-clause-answers : goal.returns-clause-answers
returns-clause-answers g c =
    one_decoding (Means g.T.BackendMessage.format) (IsFaultOf g.T.BackendMessage.format) g.T.BackendMessage.NeedsNoMemory g.T.BackendMessage.shown (Some g.T.BackendMessage.FORMAT) (one_meaning g.met.T.BackendMessage.lawful) (meaning_or_fault g.met.T.BackendMessage.lawful) (backend_tag g.T.BackendMessage.FORMAT)
