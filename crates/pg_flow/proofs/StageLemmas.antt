-- A client takes all that a server's flow allowed before the login is over, and what must come before it is.
use Rattle.std.proofs.Common.{◌≡◌, List, [], ◌∷◌, ◌++◌, ◌⊎◌, inl, inr, refl, sym, ap, ◌∙◌, subst, Bool, true, false, Option, Some, None}
use Rattle.std.specs.Prelude.{IfSome, if◌then◌else◌}
use Rattle.pg_flow.specs.declared.begin_answer.AuthenticationStep.TheVariants as auth
use Rattle.pg_flow.specs.declared.begin_answer.BeginAnswer.TheVariants as begun
use Rattle.pg_flow.specs.declared.begin_request.BeginRequest.TheVariants as begins
use Rattle.pg_flow.specs.declared.stage.Stage.TheVariants as stages
use Rattle.pg_flow.specs.declared.begin_answer.AuthenticationStep.{AuthenticationStep}
use Rattle.pg_flow.specs.declared.begin_answer.BeginAnswer.{BeginAnswer}
use Rattle.pg_flow.specs.declared.begin_request.BeginRequest.{BeginRequest}
use Rattle.pg_flow.specs.declared.stage.Stage.{Stage}
use Rattle.pg_flow.specs.declared.transaction_status.TransactionStatus.{TransactionStatus}
use Rattle.pg_flow.specs.Logins.{Begun, By_client, By_server, Client_hears, Client_says, HasStep, IsStep, Login, Server_says, Server_takes, Turn, at_opening, begin_run, begins_with, hears_at, hears_from, is_accepted, logins, says_at, takes_at, takes_from, tells_at, turned, while_taken}
use Rattle.pg_flow.specs.Stage.{authenticated, begin_heard, begin_said, first_step, goes_on_or_ends, goes_plainly_on, next_step}

-- where the server waits for nothing that a client says before its login is over
abbrev is_past : Stage → Bool
is_past (stages.Accepted key) = true
is_past stages.Ready = true
is_past stages.Ended = true
is_past _ = false

not_so : {A : Type 0} → false ≡ true → A
not_so e = cc

past_said : (s : Stage) (u : BeginRequest) → is_past s ≡ true → begin_said s u ≡ None
past_said (stages.Accepted key) u e = refl
past_said stages.Ready u e = refl
past_said stages.Ended u e = refl
past_said _ u e = not_so e

accepted_past : (key : Bool) (m : BeginAnswer) → IfSome (begin_heard (stages.Accepted key) m) (λ t. is_past t ≡ true)
accepted_past key begun.Failure = refl
accepted_past true begun.Key = tt
accepted_past false begun.Key = refl
accepted_past key begun.Aside = refl
accepted_past key (begun.Ready status) = refl
accepted_past key (begun.Authentication step) = tt
accepted_past key _ = tt

past_heard : (s : Stage) (m : BeginAnswer) → is_past s ≡ true → IfSome (begin_heard s m) (λ t. is_past t ≡ true)
past_heard (stages.Accepted key) m e = accepted_past key m
past_heard stages.Ready m e = tt
past_heard stages.Ended m e = tt
past_heard _ m e = not_so e

-- what the client says doesn't change where an answer leads that comes meanwhile
abbrev Crosses : Stage → Stage → BeginAnswer → Type 0
Crosses c d m = IfSome (begin_heard c m) (λ x. (begin_heard d m ≡ Some x) × (is_past x ≡ true))

password_crosses : (m : BeginAnswer) → Crosses stages.PasswordAsked stages.PasswordGiven m
password_crosses begun.Failure = (refl, refl)
password_crosses (begun.Authentication step) = tt
password_crosses _ = tt

gss_crosses : (m : BeginAnswer) → Crosses stages.GssAsked stages.GssGiven m
gss_crosses begun.Failure = (refl, refl)
gss_crosses (begun.Authentication step) = tt
gss_crosses _ = tt

continued_step : (step : AuthenticationStep) → Crosses stages.GssContinued stages.GssGiven (begun.Authentication step)
continued_step auth.Ok = (refl, refl)
continued_step _ = tt

continued_crosses : (m : BeginAnswer) → Crosses stages.GssContinued stages.GssGiven m
continued_crosses begun.Failure = (refl, refl)
continued_crosses (begun.Authentication step) = continued_step step
continued_crosses _ = tt

offered_crosses : (b : Bool) (m : BeginAnswer) → Crosses stages.SaslOffered (if b then stages.ScramBegun else stages.SaslGiven) m
offered_crosses true begun.Failure = (refl, refl)
offered_crosses false begun.Failure = (refl, refl)
offered_crosses b (begun.Authentication step) = tt
offered_crosses b _ = tt

challenged_crosses : (m : BeginAnswer) → Crosses stages.ScramChallenged stages.ScramProved m
challenged_crosses begun.Failure = (refl, refl)
challenged_crosses (begun.Authentication step) = tt
challenged_crosses _ = tt

sasl_crosses : (m : BeginAnswer) → Crosses stages.SaslChallenged stages.SaslGiven m
sasl_crosses begun.Failure = (refl, refl)
sasl_crosses (begun.Authentication step) = tt
sasl_crosses _ = tt

crosses : (c : Stage) (u : BeginRequest) (m : BeginAnswer) → IfSome (begin_said c u) (λ d. Crosses c d m)
crosses (stages.Opening true gss encrypted) begins.Ssl m = tt
crosses (stages.Opening false gss true) begins.Ssl m = tt
crosses (stages.Opening false gss false) begins.Ssl m = tt
crosses (stages.Opening ssl true encrypted) begins.Gss m = tt
crosses (stages.Opening ssl false true) begins.Gss m = tt
crosses (stages.Opening ssl false false) begins.Gss m = tt
crosses (stages.Opening ssl gss encrypted) _ m = tt
crosses stages.PasswordAsked (begins.Response scram) m = password_crosses m
crosses stages.GssAsked (begins.Response scram) m = gss_crosses m
crosses stages.GssContinued (begins.Response scram) m = continued_crosses m
crosses stages.SaslOffered (begins.Response scram) m = offered_crosses scram m
crosses stages.ScramChallenged (begins.Response scram) m = challenged_crosses m
crosses stages.SaslChallenged (begins.Response scram) m = sasl_crosses m
crosses _ _ m = tt

-- a client says nothing twice
abbrev Waits : Stage → Type 0
Waits d = (u : BeginRequest) → begin_said d u ≡ None

offered_waits : (b : Bool) → Waits (if b then stages.ScramBegun else stages.SaslGiven)
offered_waits true u = refl
offered_waits false u = refl

waits : (c : Stage) (u : BeginRequest) → IfSome (begin_said c u) Waits
waits (stages.Opening true gss encrypted) begins.Ssl = tt
waits (stages.Opening false gss true) begins.Ssl = tt
waits (stages.Opening false gss false) begins.Ssl = λ u. refl
waits (stages.Opening ssl true encrypted) begins.Gss = tt
waits (stages.Opening ssl false true) begins.Gss = tt
waits (stages.Opening ssl false false) begins.Gss = λ u. refl
waits (stages.Opening ssl gss encrypted) begins.Startup = λ u. refl
waits (stages.Opening ssl gss encrypted) begins.Cancel = λ u. refl
waits (stages.Opening ssl gss encrypted) (begins.Response scram) = tt
waits stages.PasswordAsked (begins.Response scram) = λ u. refl
waits stages.GssAsked (begins.Response scram) = λ u. refl
waits stages.GssContinued (begins.Response scram) = λ u. refl
waits stages.SaslOffered (begins.Response scram) = offered_waits scram
waits stages.ScramChallenged (begins.Response scram) = λ u. refl
waits stages.SaslChallenged (begins.Response scram) = λ u. refl
waits _ _ = tt

-- the answers on their way, one after another
abbrev hears_all : List BeginAnswer → Option Stage → Option Stage
hears_all [] o = o
hears_all (m ∷ ms) None = None
hears_all (m ∷ ms) (Some s) = hears_all ms (begin_heard s m)

none_heard : (ms : List BeginAnswer) → hears_all ms None ≡ None
none_heard [] = refl
none_heard (m ∷ ms) = refl

heard_last : (ms : List BeginAnswer) (m : BeginAnswer) (o : Option Stage) (s : Stage) → hears_all ms o ≡ Some s → hears_all (ms ++ m ∷ []) o ≡ begin_heard s m
heard_last [] m o s e = ap (hears_all (m ∷ [])) e
heard_last (x ∷ ms) m None s e = let bot : ⊥ = cc in absurd bot
heard_last (x ∷ ms) m (Some c) s e = heard_last ms m (begin_heard c x) s e

past_all : (ms : List BeginAnswer) (o : Option Stage) (s : Stage) → IfSome o (λ x. is_past x ≡ true) → hears_all ms o ≡ Some s → is_past s ≡ true
past_all [] None s h e = let bot : ⊥ = cc in absurd bot
past_all [] (Some x) s h e = let f : x ≡ s = cc in ap is_past (sym f) ∙ h
past_all (m ∷ ms) None s h e = let bot : ⊥ = cc in absurd bot
past_all (m ∷ ms) (Some x) s h e = past_all ms (begin_heard x m) s (past_heard x m h) e

-- The client has heard less than the server has said, or has said one message more than the server has taken.
abbrev Near : Stage → Stage → List BeginRequest → List BeginAnswer → Type 0
Near c s up down =
    ((hears_all down (Some c) ≡ Some s) × ((up ≡ []) ⊎ (is_past s ≡ true)))
    ⊎ ((u : BeginRequest) × (up ≡ u ∷ []) × (down ≡ []) × (begin_said s u ≡ Some c))

abbrev Is_near : Login → Type 0
Is_near w = Near w.client w.server w.up w.down × (w.is_refused ≡ false)

said_not : {A : Type 0} (s : Stage) (u : BeginRequest) (d : Stage) → is_past s ≡ true → begin_said s u ≡ Some d → A
said_not s u d p e = let f : begin_said s u ≡ None = past_said s u p in let bot : ⊥ = cc in absurd bot

crossed : (c : Stage) (u : BeginRequest) (m : BeginAnswer) (d x : Stage) → begin_said c u ≡ Some d → begin_heard c m ≡ Some x →
    (begin_heard d m ≡ Some x) × (is_past x ≡ true)
crossed c u m d x e f =
    let P : Option Stage → Type 0 = λ o. IfSome o (λ y. Crosses c y m) in
    let Q : Option Stage → Type 0 = λ o. IfSome o (λ y. (begin_heard d m ≡ Some y) × (is_past y ≡ true)) in
    subst Q f (subst P e (crosses c u m))

says_first : (m : BeginAnswer) (down : List BeginAnswer) (c s d : Stage) (up : List BeginRequest) (u : BeginRequest) (o : Option Stage) → begin_heard c m ≡ o →
    hears_all down o ≡ Some s → begin_said c u ≡ Some d → Near d s (up ++ u ∷ []) (m ∷ down)
says_first m down c s d up u None k e g = let f : hears_all down None ≡ None = none_heard down in let bot : ⊥ = cc in absurd bot
says_first m down c s d up u (Some x) k e g =
    let f : (begin_heard d m ≡ Some x) × (is_past x ≡ true) = crossed c u m d x g k in
    inl (ap (hears_all down) f.0 ∙ e, inr (past_all down (Some x) s f.1 e))

-- the client says a message while this is on its way to it
says_while : (down : List BeginAnswer) (c s d : Stage) (up : List BeginRequest) (u : BeginRequest) → hears_all down (Some c) ≡ Some s →
    (up ≡ []) ⊎ (is_past s ≡ true) → begin_said c u ≡ Some d → Near d s (up ++ u ∷ []) down
says_while [] c s d up u e (inl f) g =
    let k : c ≡ s = cc in
    inr (u, ap (λ (l : List BeginRequest). l ++ u ∷ []) f, refl, ap (λ (x : Stage). begin_said x u) (sym k) ∙ g)
says_while [] c s d up u e (inr f) g =
    let k : c ≡ s = cc in
    said_not s u d f (ap (λ (x : Stage). begin_said x u) (sym k) ∙ g)
says_while (m ∷ down) c s d up u e f g = says_first m down c s d up u (begin_heard c m) refl e g

twice : {A : Type 0} (s : Stage) (u v : BeginRequest) (c d : Stage) → begin_said s u ≡ Some c → begin_said c v ≡ Some d → A
twice s u v c d e f =
    let P : Option Stage → Type 0 = λ o. IfSome o Waits in
    let g : begin_said c v ≡ None = subst P e (waits s u) v in
    let bot : ⊥ = cc in absurd bot

says_near : (w : Login) (u : BeginRequest) (o : Option Stage) → begin_said w.client u ≡ o → Is_near w → Is_near (says_at w u o)
says_near w u None e h = h
says_near w u (Some d) e (inl (f, g), r) = (says_while w.down w.client w.server d w.up u f g e, refl)
says_near w u (Some d) e (inr (v, f, g, k), r) = twice w.server v u w.client d k e

takes_near : (w : Login) (u : BeginRequest) (up : List BeginRequest) (o : Option Stage) → begin_said w.server u ≡ o → w.up ≡ u ∷ up → Is_near w → Is_near (takes_at w up o)
takes_near w u up None e f h = h
takes_near w u up (Some t) e f (inl (g, inl k), r) = let bot : ⊥ = cc in absurd bot
takes_near w u up (Some t) e f (inl (g, inr k), r) = said_not w.server u t k e
takes_near w u up (Some t) e f (inr (v, g, k, l), r) =
    let same : u ≡ v = cc in
    let none : up ≡ [] = cc in
    let at : w.client ≡ t = cc in
    (inl (ap (λ (ms : List BeginAnswer). hears_all ms (Some w.client)) k ∙ ap Some at, inl none), refl)

takes_from_near : (w : Login) (up : List BeginRequest) → w.up ≡ up → Is_near w → Is_near (takes_from w up)
takes_from_near w [] e h = h
takes_from_near w (u ∷ up) e h = takes_near w u up (begin_said w.server u) refl e h

past_if : (s : Stage) (m : BeginAnswer) (t : Stage) → begin_heard s m ≡ Some t → is_past s ≡ true → is_past t ≡ true
past_if s m t e h = let P : Option Stage → Type 0 = λ o. IfSome o (λ x. is_past x ≡ true) in subst P e (past_heard s m h)

tells_near : (w : Login) (m : BeginAnswer) (o : Option Stage) → begin_heard w.server m ≡ o → Is_near w → Is_near (tells_at w m o)
tells_near w m None e h = h
tells_near w m (Some t) e (inl (f, inl g), r) = (inl (heard_last w.down m (Some w.client) w.server f ∙ e, inl g), refl)
tells_near w m (Some t) e (inl (f, inr g), r) = (inl (heard_last w.down m (Some w.client) w.server f ∙ e, inr (past_if w.server m t e g)), refl)
tells_near w m (Some t) e (inr (v, f, g, k), r) =
    let x : (begin_heard w.client m ≡ Some t) × (is_past t ≡ true) = crossed w.server v m w.client t k e in
    (inl (ap (λ (ms : List BeginAnswer). hears_all (ms ++ m ∷ []) (Some w.client)) g ∙ x.0, inr x.1), refl)

hears_near : (w : Login) (m : BeginAnswer) (down : List BeginAnswer) (o : Option Stage) → begin_heard w.client m ≡ o → w.down ≡ m ∷ down → Is_near w → Is_near (hears_at w down o)
hears_near w m down None e f (inl (g, k), r) =
    let a : hears_all (m ∷ down) (Some w.client) ≡ Some w.server = ap (λ (ms : List BeginAnswer). hears_all ms (Some w.client)) (sym f) ∙ g in
    let b : hears_all down None ≡ Some w.server = ap (hears_all down) (sym e) ∙ a in
    let n : hears_all down None ≡ None = none_heard down in
    let bot : ⊥ = cc in absurd bot
hears_near w m down None e f (inr (v, g, k, l), r) = let bot : ⊥ = cc in absurd bot
hears_near w m down (Some c) e f (inl (g, k), r) =
    let a : hears_all (m ∷ down) (Some w.client) ≡ Some w.server = ap (λ (ms : List BeginAnswer). hears_all ms (Some w.client)) (sym f) ∙ g in
    (inl (ap (hears_all down) (sym e) ∙ a, k), refl)
hears_near w m down (Some c) e f (inr (v, g, k, l), r) = let bot : ⊥ = cc in absurd bot

hears_from_near : (w : Login) (down : List BeginAnswer) → w.down ≡ down → Is_near w → Is_near (hears_from w down)
hears_from_near w [] e h = h
hears_from_near w (m ∷ down) e h = hears_near w m down (begin_heard w.client m) refl e h

turned_near : (turn : Turn) (w : Login) → Is_near w → Is_near (turned turn w)
turned_near (Client_says m) w h = says_near w m (begin_said w.client m) refl h
turned_near Server_takes w h = takes_from_near w w.up refl h
turned_near (Server_says m) w h = tells_near w m (begin_heard w.server m) refl h
turned_near Client_hears w h = hears_from_near w w.down refl h

while_near : (b : Bool) (next w : Login) → Is_near next → Is_near w → Is_near (while_taken b next w)
while_near true next w h k = k
while_near false next w h k = h

logins_near : (turns : List Turn) (w : Login) → Is_near w → Is_near (logins turns w)
logins_near [] w h = h
logins_near (turn ∷ turns) w h = logins_near turns (while_taken w.is_refused (turned turn w) w) (while_near w.is_refused (turned turn w) w (turned_near turn w h) h)

pub never_refused : (turns : List Turn) → (logins turns at_opening).is_refused ≡ false
never_refused turns = (logins_near turns at_opening (inl (refl, inl refl), refl)).1

-- what must come before a login is over

not_accepted : (b : Bool) → is_accepted (if b then stages.ScramBegun else stages.SaslGiven) ≡ false
not_accepted true = refl
not_accepted false = refl

-- a step that leads to where the login is accepted, from where it isn't, is AuthenticationOk
abbrev Accepts : Stage → Begun → Option Stage → Type 0
Accepts s e o = IfSome o (λ t. is_accepted s ≡ false → is_accepted t ≡ true → IsStep auth.Ok e)

said_accepts : (s : Stage) (u : BeginRequest) → Accepts s (By_client u) (begin_said s u)
said_accepts (stages.Opening true gss encrypted) begins.Ssl = tt
said_accepts (stages.Opening false gss true) begins.Ssl = tt
said_accepts (stages.Opening false gss false) begins.Ssl = λ a b. not_so b
said_accepts (stages.Opening ssl true encrypted) begins.Gss = tt
said_accepts (stages.Opening ssl false true) begins.Gss = tt
said_accepts (stages.Opening ssl false false) begins.Gss = λ a b. not_so b
said_accepts (stages.Opening ssl gss encrypted) begins.Startup = λ a b. not_so b
said_accepts (stages.Opening ssl gss encrypted) begins.Cancel = λ a b. not_so b
said_accepts (stages.Opening ssl gss encrypted) (begins.Response scram) = tt
said_accepts stages.PasswordAsked (begins.Response scram) = λ a b. not_so b
said_accepts stages.GssAsked (begins.Response scram) = λ a b. not_so b
said_accepts stages.GssContinued (begins.Response scram) = λ a b. not_so b
said_accepts stages.SaslOffered (begins.Response scram) = λ a b. not_so (sym (not_accepted scram) ∙ b)
said_accepts stages.ScramChallenged (begins.Response scram) = λ a b. not_so b
said_accepts stages.SaslChallenged (begins.Response scram) = λ a b. not_so b
said_accepts _ _ = tt

abbrev Step_accepts : Stage → AuthenticationStep → Option Stage → Type 0
Step_accepts s step o = IfSome o (λ t. is_accepted s ≡ false → is_accepted t ≡ true → IsStep auth.Ok (By_server (begun.Authentication step)))

first_accepts : (s : Stage) (step : AuthenticationStep) → Step_accepts s step (first_step step)
first_accepts s auth.Ok = λ a b. tt
first_accepts s auth.Password = λ a b. not_so b
first_accepts s auth.Outside = λ a b. not_so b
first_accepts s auth.Gss = λ a b. not_so b
first_accepts s auth.Sasl = λ a b. not_so b
first_accepts s _ = tt

next_accepts : (s : Stage) (step : AuthenticationStep) → Step_accepts s step (next_step s step)
next_accepts stages.PasswordGiven auth.Ok = λ a b. tt
next_accepts stages.OutsideAsked auth.Ok = λ a b. tt
next_accepts stages.GssGiven auth.Ok = λ a b. tt
next_accepts stages.GssGiven auth.GssContinue = λ a b. not_so b
next_accepts stages.GssContinued auth.Ok = λ a b. tt
next_accepts stages.ScramBegun auth.SaslContinue = λ a b. not_so b
next_accepts stages.ScramProved auth.SaslFinal = λ a b. not_so b
next_accepts stages.SaslGiven auth.SaslContinue = λ a b. not_so b
next_accepts stages.SaslGiven auth.SaslFinal = λ a b. not_so b
next_accepts stages.SaslGiven auth.Ok = λ a b. tt
next_accepts stages.Verified auth.Ok = λ a b. tt
next_accepts _ _ = tt

steps_accept : (s : Stage) (step : AuthenticationStep) → Step_accepts s step (authenticated s step)
steps_accept stages.Started step = first_accepts stages.Started step
steps_accept stages.Negotiated step = first_accepts stages.Negotiated step
steps_accept s step = next_accepts s step

plainly_accepts : (s : Stage) (m : BeginAnswer) → Accepts s (By_server m) (goes_plainly_on s m)
plainly_accepts (stages.SslRequested gss) (begun.Encryption is_given) = λ a b. not_so b
plainly_accepts (stages.GssRequested ssl) (begun.Encryption is_given) = λ a b. not_so b
plainly_accepts stages.Started begun.Negotiation = λ a b. not_so b
plainly_accepts (stages.Accepted true) begun.Key = tt
plainly_accepts (stages.Accepted false) begun.Key = λ a b. not_so (sym a)
plainly_accepts (stages.Accepted key) begun.Aside = λ a b. not_so (sym a)
plainly_accepts (stages.Accepted key) (begun.Ready status) = λ a b. not_so (sym a)
plainly_accepts _ _ = tt

ends_accept : (s : Stage) (m : BeginAnswer) → Accepts s (By_server m) (goes_on_or_ends s m)
ends_accept s begun.Failure = λ a b. not_so b
ends_accept s (begun.Authentication step) = steps_accept s step
ends_accept s m = plainly_accepts s m

heard_accepts : (s : Stage) (m : BeginAnswer) → Accepts s (By_server m) (begin_heard s m)
heard_accepts (stages.Opening ssl gss encrypted) m = tt
heard_accepts stages.Cancelled m = tt
heard_accepts stages.Ready m = tt
heard_accepts stages.Ended m = tt
heard_accepts s m = ends_accept s m

one_accepts : (e : Begun) (s : Stage) → Accepts s e (begins_with e s)
one_accepts (By_client u) s = said_accepts s u
one_accepts (By_server m) s = heard_accepts s m

none_run : (es : List Begun) → begin_run es None ≡ None
none_run [] = refl
none_run (e ∷ es) = refl

-- a run from outside a set of stages into it has a step that leads into it

abbrev Enters : (Stage → Bool) → AuthenticationStep → Type 0
Enters P step = (e : Begun) (s : Stage) → IfSome (begins_with e s) (λ t. P s ≡ false → P t ≡ true → IsStep step e)

by_test : (P : Stage → Bool) (step : AuthenticationStep) (x : Begun) (es : List Begun) (b : Bool) (u : Stage) → P u ≡ b → (P u ≡ true → IsStep step x) →
    (P u ≡ false → HasStep step es) → IsStep step x ⊎ HasStep step es
by_test P step x es true u e k f = inl (k e)
by_test P step x es false u e k f = inr (f e)

by_step : (P : Stage → Bool) (step : AuthenticationStep) (x : Begun) (es : List Begun) (s : Stage) (o : Option Stage) →
    IfSome o (λ t. P s ≡ false → P t ≡ true → IsStep step x) → P s ≡ false → (IfSome o (λ t. P t ≡ false) → HasStep step es) → IsStep step x ⊎ HasStep step es
by_step P step x es s None k h f = inr (f tt)
by_step P step x es s (Some u) k h f = by_test P step x es (P u) u refl (k h) f

enters : (P : Stage → Bool) (step : AuthenticationStep) → Enters P step → (es : List Begun) (o : Option Stage) (t : Stage) → IfSome o (λ s. P s ≡ false) →
    begin_run es o ≡ Some t → P t ≡ true → HasStep step es
enters P step one [] None t h e a = let bot : ⊥ = cc in absurd bot
enters P step one [] (Some s) t h e a = let f : s ≡ t = cc in not_so (sym h ∙ ap P f ∙ a)
enters P step one (x ∷ es) None t h e a = let bot : ⊥ = cc in absurd bot
enters P step one (x ∷ es) (Some s) t h e a =
    by_step P step x es s (begins_with x s) (one x s) h (λ k. enters P step one es (begins_with x s) t k e a)

accepted_ready : (t : Stage) (m : TransactionStatus) → IfSome (begin_heard t (begun.Ready m)) (λ u. is_accepted t ≡ true)
accepted_ready (stages.Accepted key) m = refl
accepted_ready (stages.Opening ssl gss encrypted) m = tt
accepted_ready _ m = tt

pub ready_after_ok : (es : List Begun) (t u : Stage) (m : TransactionStatus) → begin_run es (Some (stages.Opening false false false)) ≡ Some t →
    begin_heard t (begun.Ready m) ≡ Some u → HasStep auth.Ok es
ready_after_ok es t u m e f =
    let P : Option Stage → Type 0 = λ o. IfSome o (λ v. is_accepted t ≡ true) in
    enters is_accepted auth.Ok one_accepts es (Some (stages.Opening false false false)) t refl e (subst P f (accepted_ready t m))

-- SCRAM was begun, and the server has given no verifier
abbrev is_verified : Stage → Bool
is_verified stages.ScramBegun = false
is_verified stages.ScramChallenged = false
is_verified stages.ScramProved = false
is_verified stages.Ended = false
is_verified _ = true

any_stage : (o : Option Stage) (Q : Stage → Type 0) → ((u : Stage) → Q u) → IfSome o Q
any_stage None Q f = tt
any_stage (Some u) Q f = f u

begun_verified : (step : AuthenticationStep) →
    IfSome (next_step stages.ScramBegun step) (λ t. is_verified stages.ScramBegun ≡ false → is_verified t ≡ true → IsStep auth.SaslFinal (By_server (begun.Authentication step)))
begun_verified auth.SaslContinue = λ a b. not_so b
begun_verified _ = tt

proved_verified : (step : AuthenticationStep) →
    IfSome (next_step stages.ScramProved step) (λ t. is_verified stages.ScramProved ≡ false → is_verified t ≡ true → IsStep auth.SaslFinal (By_server (begun.Authentication step)))
proved_verified auth.SaslFinal = λ a b. tt
proved_verified _ = tt

abbrev Verifies : Begun → Stage → Type 0
Verifies e s = IfSome (begins_with e s) (λ t. is_verified s ≡ false → is_verified t ≡ true → IsStep auth.SaslFinal e)

verified_one : (e : Begun) (s : Stage) → Verifies e s
verified_one (By_client u) stages.ScramBegun = tt
verified_one (By_client (begins.Response scram)) stages.ScramChallenged = λ a b. not_so b
verified_one (By_client u) stages.ScramChallenged = tt
verified_one (By_client u) stages.ScramProved = tt
verified_one (By_client u) stages.Ended = tt
verified_one (By_server begun.Failure) stages.ScramBegun = λ a b. not_so b
verified_one (By_server (begun.Authentication step)) stages.ScramBegun = begun_verified step
verified_one (By_server m) stages.ScramBegun = tt
verified_one (By_server begun.Failure) stages.ScramChallenged = λ a b. not_so b
verified_one (By_server m) stages.ScramChallenged = tt
verified_one (By_server begun.Failure) stages.ScramProved = λ a b. not_so b
verified_one (By_server (begun.Authentication step)) stages.ScramProved = proved_verified step
verified_one (By_server m) stages.ScramProved = tt
verified_one (By_server m) stages.Ended = tt
verified_one e s = any_stage (begins_with e s) (λ t. is_verified s ≡ false → is_verified t ≡ true → IsStep auth.SaslFinal e) (λ u a b. not_so (sym a))

accepted_verified : (t : Stage) → is_accepted t ≡ true → is_verified t ≡ true
accepted_verified (stages.Accepted key) e = refl
accepted_verified stages.Ready e = refl
accepted_verified _ e = not_so e

pub scram_needs_verifier : (es : List Begun) (t : Stage) → begin_run es (Some stages.ScramBegun) ≡ Some t → is_accepted t ≡ true → HasStep auth.SaslFinal es
scram_needs_verifier es t e a = enters is_verified auth.SaslFinal verified_one es (Some stages.ScramBegun) t refl e (accepted_verified t a)
