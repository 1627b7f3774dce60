-- Authentication requests: what follows the number of a method.
use Rattle.std.specs.Prelude.{◌≡◌, ◌≢◌, ℕ, List, [], ◌∷◌, length, Option, Some, None, Err, IsUtf8}
use Rattle.std.proofs.Common.{refl, ◌∙◌, inr, drop}
use Rattle.std.proofs.lemmas.Str.{IsUtf8-from_is_utf8, is_utf8-from_IsUtf8}
use Rattle.pg_base.specs.Decode.{Decodes}
use Rattle.pg_base.specs.declared.error.Error.{Error}
use Rattle.pg_base.specs.declared.error.Error.TheVariants.{Protocol, OutOfMemory}
use Rattle.pg_base.specs.declared.error.ProtocolFault.{ProtocolFault}
use Rattle.pg_format.specs.Format.{Means, IsFaultOf}
use Rattle.pg_format.specs.Format.Parts.{until_nul, be_u32}
use Rattle.pg_format.specs.Format.Lists.{AreInOrder}
use Rattle.pg_format.specs.Format.Tests.{only}
use Rattle.pg_format.specs.Messages as page
use Rattle.pg_format.specs.Sasl.{first_message_fault}
use Rattle.pg_format.proofs.FormatLaws.Whole.{meaning_or_fault}
use Rattle.pg_receive.specs.Authentication.Mechanisms.{BeginsWithName, AreMechanisms, mechanisms_in}
use Rattle.pg_receive.specs.Authentication.SaslContinue.{ContinueValue, challenge_in, challenges, lawful_challenges, ChallengeNeedsNoMemory}
use Rattle.pg_receive.specs.Authentication.Shown.{continue_shown, authentication_shown}
use Rattle.pg_receive.specs.Authentication.SaslFinal.{verifiers, VerifierNeedsNoMemory}
use Rattle.pg_receive.specs.Authentication.{sasl_continue, sasl_final, value_of, requests, RequestNeedsNoMemory}
use Rattle.pg_receive.proofs.AuthenticationMechanismsLemmas.{are_mechanisms}

pub challenge_means : (bytes : List ℕ) (v : ContinueValue) → first_message_fault bytes ≡ None → v ≡ challenge_in bytes → Means challenges bytes v
challenge_means bytes v clean is = (bytes, ((refl, refl), clean), is)

pub challenge_breaks : (bytes : List ℕ) (fault : ProtocolFault) → first_message_fault bytes ≡ Some fault → IsFaultOf challenges bytes fault
challenge_breaks bytes fault is = inr (record { value = bytes; rest = []; reads = (refl, refl); is = is })

pub challenge_copied : (bytes : List ℕ) (v : ContinueValue) → Means challenges bytes v → ¬ ChallengeNeedsNoMemory bytes
challenge_copied bytes v means broken = meaning_or_fault lawful_challenges bytes v broken.0 means broken.1

-- ---- after the number of a method

pub request_means : (body : List ℕ) (method : ℕ) (rest : List ℕ) (request : page.Authentication) (more : List ℕ) → be_u32.Reads body method rest → (page.asked_by method).Reads rest request more → Means requests body (value_of request)
request_means body method rest request more p q = (request, (more, ((method, request), record { mid = rest; first = p; second = q }, refl), refl), refl)

pub request_breaks : (body : List ℕ) (method : ℕ) (rest : List ℕ) (fault : ProtocolFault) → be_u32.Reads body method rest → (page.asked_by method).Breaks (length body) rest fault → IsFaultOf requests body fault
request_breaks body method rest fault p q = inr (record { value = method; mid = rest; reads = p; breaks = q })

-- the names of mechanisms, as the page reads them
abbrev IsName : List ℕ → Type 0
IsName name = (name ≢ []) × IsUtf8 name

name_reads : (bytes name rest : List ℕ) → BeginsWithName bytes name rest → (only IsName until_nul).Reads bytes name rest
name_reads bytes name rest p = (p.text, (p.nonempty, IsUtf8-from_is_utf8 name p.utf8))

reads_name : (bytes name rest : List ℕ) → (only IsName until_nul).Reads bytes name rest → BeginsWithName bytes name rest
reads_name bytes name rest p = record { nonempty = p.1.0; utf8 = is_utf8-from_IsUtf8 name p.1.1; text = p.0 }

names_order : (bytes : List ℕ) (names : List (List ℕ)) → AreMechanisms bytes names → AreInOrder (only IsName until_nul) bytes names
names_order bytes [] h = λ name rest p. h name rest (reads_name bytes name rest p)
names_order bytes (name ∷ more) h = (h.0, name_reads bytes name h.0 h.1, names_order h.0 more h.2)

pub names_read : (bytes : List ℕ) → page.mechanism_names.Reads bytes (mechanisms_in bytes) []
names_read bytes = (names_order bytes (mechanisms_in bytes) (are_mechanisms bytes), refl)

-- ---- requests by their methods

pub challenge_request : (body : List ℕ) (method : ℕ) (bytes : List ℕ) (v : ContinueValue) → be_u32.Reads body method (drop 4 body) → method ≡ 11 → bytes ≡ drop 4 body → Means challenges bytes v → Means requests body (sasl_continue v)
challenge_request body method bytes v found is e p =
    rw p.2 (request_means body method (drop 4 body) (page.sasl_continue p.0) [] found (rw is (p.0, ((p.1.0.0 ∙ e, refl), p.1.1), refl)))

pub verifier_request : (body : List ℕ) (method : ℕ) (bytes : List ℕ) (v : List ℕ) → be_u32.Reads body method (drop 4 body) → method ≡ 12 → bytes ≡ drop 4 body → Means verifiers bytes v → Means requests body (sasl_final v)
verifier_request body method bytes v found is e p =
    rw p.2 (request_means body method (drop 4 body) (page.sasl_final p.0) [] found (rw is (p.0, ((p.1.0.0 ∙ e, refl), p.1.1), refl)))

pub challenge_refused : (body : List ℕ) (method : ℕ) (bytes : List ℕ) (fault : ProtocolFault) → be_u32.Reads body method (drop 4 body) → method ≡ 11 → bytes ≡ drop 4 body → IsFaultOf challenges bytes fault → IsFaultOf requests body fault
challenge_refused body method bytes fault found is e p = request_breaks body method (drop 4 body) fault found (rw is (rw e at p))

pub verifier_refused : (body : List ℕ) (method : ℕ) (bytes : List ℕ) (fault : ProtocolFault) → be_u32.Reads body method (drop 4 body) → method ≡ 12 → bytes ≡ drop 4 body → IsFaultOf verifiers bytes fault → IsFaultOf requests body fault
verifier_refused body method bytes fault found is e p = request_breaks body method (drop 4 body) fault found (rw is (rw e at p))

-- ---- what is copied

no_fault : (o : Option ProtocolFault) → ((fault : ProtocolFault) → o ≢ Some fault) → o ≡ None
no_fault None h = refl
no_fault (Some fault) h = absurd (h fault refl)

no_bytes : (bytes : List ℕ) → ¬ (bytes ≢ []) → bytes ≡ []
no_bytes [] h = refl
no_bytes (byte ∷ bytes) h = absurd (h (λ e. cc))

pub challenge_error : (body : List ℕ) (method : ℕ) (bytes : List ℕ) (error : Error) → be_u32.Reads body method (drop 4 body) → method ≡ 11 → bytes ≡ drop 4 body
    → Decodes (Means challenges) (IsFaultOf challenges) ChallengeNeedsNoMemory continue_shown None bytes (Err error) → Decodes (Means requests) (IsFaultOf requests) RequestNeedsNoMemory authentication_shown None body (Err error)
challenge_error body method bytes (Protocol reading fault) found is e p = (p.0, challenge_refused body method bytes fault found is e p.1)
challenge_error body method bytes OutOfMemory found is e p = λ none.
    let clean = no_fault (first_message_fault bytes) (λ fault broken. p (fault, challenge_breaks bytes fault broken)) in
    none (sasl_continue (challenge_in bytes)) (challenge_request body method bytes (challenge_in bytes) found is e (challenge_means bytes (challenge_in bytes) clean refl)) tt

pub verifier_error : {A : Type 0} (shown : A → List ℕ) (body : List ℕ) (method : ℕ) (bytes : List ℕ) (error : Error) → be_u32.Reads body method (drop 4 body) → method ≡ 12 → bytes ≡ drop 4 body
    → Decodes (Means verifiers) (IsFaultOf verifiers) VerifierNeedsNoMemory shown None bytes (Err error) → Decodes (Means requests) (IsFaultOf requests) RequestNeedsNoMemory authentication_shown None body (Err error)
verifier_error shown body method bytes (Protocol reading fault) found is e p = (p.0, verifier_refused body method bytes fault found is e p.1)
verifier_error shown body method bytes OutOfMemory found is e p = λ none.
    p (λ verifier means. no_bytes verifier (none (sasl_final verifier) (verifier_request body method bytes verifier found is e means)))
